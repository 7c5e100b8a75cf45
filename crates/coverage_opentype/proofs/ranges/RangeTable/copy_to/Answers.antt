use Rattle.std.proofs.Common.{◌++◌, length, drop, refl, ap, ◌∙◌, sym, arith}
use Rattle.coverage_opentype.specs.Tables.{ranges_in}
use Rattle.coverage_opentype.proofs.Reading.{Kth, kth_record, copied_more}
use Rattle.coverage_opentype.proofs.ranges.RangeTable.copy_to.Goals as goal
use Rattle.coverage_opentype.proofs.ranges.RangeTable.copy_to.Goals.{After-from}

-- what is known of the range at hand
at_hand : (c : goal.After-from) → Kth (ranges_in c.args.self.now) c.loop-record.record-index c.from.result
at_hand c = kth_record _ _ _ _ _ refl c.args.self.now.order c.loop-record-test.true c.from.ensures

pub copy_to-requires : goal.copy_to-requires
copy_to-requires c =
    let t = at_hand (goal.at.copy_to-requires c).After-from in
    let n = c.args.self.now.total in
    (t.goes, omega (arith, t.within))

pub loop-record-preserved : goal.loop-record-preserved
loop-record-preserved c =
    let t = at_hand (goal.at.loop-record-preserved c).After-from in
    copied_more _ _ _ _ _ _ t.index c.loop-record.invariant c.copy_to.ensures ∙ ap (λ z. z ++ drop (length z) c.args.out.now) (sym t.more)
