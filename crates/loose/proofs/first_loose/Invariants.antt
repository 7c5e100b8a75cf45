-- No fault so far.
use Rattle.std.proofs.Common.{ℕ, ◌<◌}
use Rattle.loose.specs.Faults.{Faulty}
use Rattle.loose.proofs.first_loose.Given as goal

abbrev pub invariant-loop-index : goal.invariant-loop-index
invariant-loop-index l = (k : ℕ) → k < l.index → Faulty l.vertices l.links k → ⊥
