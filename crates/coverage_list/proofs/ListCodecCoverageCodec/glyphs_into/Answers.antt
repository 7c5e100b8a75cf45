use Rattle.std.proofs.Common.{arith}
use Rattle.coverage_list.proofs.Pairs.{copied_more}
use Rattle.coverage_list.proofs.ListCodecCoverageCodec.glyphs_into.Goals as goal

pub loop-i-preserved : goal.loop-i-preserved
loop-i-preserved c = copied_more c.in_ok-pairs.pairs.now c.args.out.now c.loop-i.out c.loop-i.i c.pair_glyph.result (omega arith) (omega arith) c.loop-i.invariant c.pair_glyph.ensures
