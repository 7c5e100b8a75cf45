use Rattle.std.proofs.Common.{map}
use Rattle.coverage_opentype.specs.Format2.{range_of}
use Rattle.coverage_opentype.proofs.Reading.{Walked}
use Rattle.coverage_opentype.proofs.ranges.covered_count.Given as goal

abbrev pub invariant-loop-record : goal.invariant-loop-record
invariant-loop-record l = Walked (map range_of l.records) l.record-index l.low l.total
