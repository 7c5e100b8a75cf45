use Rattle.std.proofs.Common.{refl, arith}
use Rattle.coverage_opentype.specs.Tables.{ranges_in}
use Rattle.coverage_opentype.proofs.Reading.{Kth, kth_record, placed_at, placed_on}
use Rattle.coverage_opentype.proofs.ranges.RangeTable.glyph.Goals as goal
use Rattle.coverage_opentype.proofs.ranges.RangeTable.glyph.Goals.{After-from-range}

-- what is known of the range at hand
at_hand : (c : goal.After-from-range) → Kth (ranges_in c.args.self.now) c.loop-record.record-index c.from-range.result
at_hand c = kth_record _ _ _ _ _ refl c.args.self.now.order c.loop-record-test.true c.from-range.ensures

pub overflow_sub-on : goal.overflow_sub-on
overflow_sub-on c = let t = at_hand (goal.at.overflow_sub-on c).After-from-range in omega (arith, t.index, c.loop-record.invariant)

pub overflow_sub-range : goal.overflow_sub-range
overflow_sub-range c = (at_hand (goal.at.overflow_sub-range c).After-from-range).goes

pub returns-then-on-range : goal.returns-then-on-range
returns-then-on-range c =
    let t = at_hand (goal.at.returns-then-on-range c).After-from-range in
    placed_at _ _ _ _ t (omega (arith, t.index, c.loop-record.invariant)) (omega arith)

pub loop-record-preserved : goal.loop-record-preserved
loop-record-preserved c =
    let t = at_hand (goal.at.loop-record-preserved c).After-from-range in
    placed_on _ _ _ _ t (omega (arith, t.index, c.loop-record.invariant)) (omega arith)
