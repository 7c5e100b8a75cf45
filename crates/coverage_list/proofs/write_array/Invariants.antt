use Rattle.std.proofs.Common.{◌≡◌}
use Rattle.coverage_list.proofs.Writing.{written_to}
use Rattle.coverage_list.proofs.write_array.Given as goal

abbrev pub invariant-loop-i : goal.invariant-loop-i
invariant-loop-i l = l.out ≡ written_to l.glyphs l.i l.fn.out
