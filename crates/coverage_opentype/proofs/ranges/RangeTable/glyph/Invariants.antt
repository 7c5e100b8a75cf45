use Rattle.std.proofs.Common.{◌≤◌, length, take}
use Rattle.coverage_opentype.specs.Format2.{covered}
use Rattle.coverage_opentype.specs.Tables.{ranges_in}
use Rattle.coverage_opentype.proofs.ranges.RangeTable.glyph.Given as goal

abbrev pub invariant-loop-record : goal.invariant-loop-record
invariant-loop-record l = length (covered (take l.record-index (ranges_in l.self))) ≤ l.n
