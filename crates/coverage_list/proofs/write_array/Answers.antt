use Rattle.std.proofs.Common.{◌∙◌, arith}
use Rattle.coverage_list.proofs.Writing.{written_more}
use Rattle.coverage_list.proofs.write_array.Goals as goal

pub loop-i-preserved : goal.loop-i-preserved
loop-i-preserved c = c.put_word-in-loop-i.ensures ∙ written_more c.args.glyphs.now c.args.out.now c.loop-i.out c.loop-i.i (omega arith) (omega arith) c.loop-i.invariant
