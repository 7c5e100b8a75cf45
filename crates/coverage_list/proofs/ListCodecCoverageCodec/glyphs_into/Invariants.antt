use Rattle.std.proofs.Common.{◌≡◌, ◌++◌, take, drop}
use Rattle.coverage_list.specs.Format1.{pair_glyphs}
use Rattle.coverage_list.proofs.ListCodecCoverageCodec.glyphs_into.Given as goal

abbrev pub invariant-loop-i : goal.invariant-loop-i
invariant-loop-i l = l.out ≡ take l.i (pair_glyphs l.pairs) ++ drop l.i l.initial.out
