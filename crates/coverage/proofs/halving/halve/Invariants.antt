use Rattle.std.proofs.Common.{◌≡◌, ℕ, ◌-◌, ◌<◌, ◌≤◌, Result}
use Rattle.std.specs.declared.cmp.Ordering.{Ordering}
use Rattle.coverage.specs.Halving.{Ascends}
use Rattle.coverage.proofs.Halves.{Outside}
use Rattle.coverage.proofs.halving.halve.Given as goal

abbrev pub invariant-loop-low : goal.invariant-loop-low
invariant-loop-low g l =
    record {
      within : l.high ≤ l.count;
      outside : (answer : ℕ → Result Ordering _) → ((k : ℕ) (r : _) → k < l.count → goal.F-post g l.probe k r → r ≡ answer k) → Ascends answer l.count → Outside answer l.count l.low l.high;
    }

abbrev pub decreases-loop-low : goal.decreases-loop-low
decreases-loop-low g l = l.high - l.low
