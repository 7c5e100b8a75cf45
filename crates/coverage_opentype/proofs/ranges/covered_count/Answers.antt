use Rattle.std.proofs.Common.{◌≡◌, map, length, inl, inr, arith}
use Rattle.std.proofs.lemmas.List.{length-map}
use Rattle.coverage_opentype.specs.Format2.{range_of}
use Rattle.coverage_opentype.proofs.Reading.{walked_none, walked_more, walked_stop, walked_all}
use Rattle.coverage_opentype.proofs.ranges.covered_count.Goals as goal
use Rattle.coverage_opentype.proofs.ranges.covered_count.Goals.{then-start-low-via-then-start-low, then-start-low-via-else-start-low+then-end-start, then-start-low-via-else-start-low+else-end-start+then-range-total}

pub loop-record-init : goal.loop-record-init
loop-record-init c = walked_none (map range_of c.args.records.now)

pub returns-then-start-low : goal.returns-then-start-low
returns-then-start-low c =
    walked_stop _ _ _ _ _ _ c.loop-record-test.true c.from-range.ensures c.loop-record.invariant
    (elim c.then-start-low.branch [
      | then-start-low-via-then-start-low w ↦ inl w.if-start-low.true
      | then-start-low-via-else-start-low+then-end-start w ↦ inr (inl w.if-end-start.true)
      | then-start-low-via-else-start-low+else-end-start+then-range-total w ↦ inr (inr (λ e. w.if-range-total.true (omega arith)))
    ])

pub loop-record-preserved : goal.loop-record-preserved
loop-record-preserved c =
    walked_more _ _ _ _ _ _ c.loop-record-test.true c.from-range.ensures c.loop-record.invariant c.if-start-low.false c.if-end-start.false (omega arith) (omega arith) _ _ (omega arith) (omega arith)

pub returns : goal.returns
returns c = let l : length (map range_of c.args.records.now) ≡ length c.args.records.now = length-map c.args.records.now range_of in walked_all _ _ _ _ (omega arith) c.loop-record.invariant
