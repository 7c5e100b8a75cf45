use Rattle.coverage_opentype.proofs.Writing.{WrittenTo}
use Rattle.coverage_opentype.proofs.ranges.write_ranges.Given as goal

abbrev pub invariant-loop-done : goal.invariant-loop-done
invariant-loop-done l = WrittenTo l.glyphs l.fn.out l.index l.done-iterator.count l.done-iterator.iter.rest.now l.out
