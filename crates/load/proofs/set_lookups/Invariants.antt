-- The rows below n are noted, those from n on are as they were.
use Rattle.std.proofs.Common.{◌≡◌, ℕ, ◌<◌, ◌≤◌, get_or}
use Rattle.graph.specs.Memory.{vertex_at}
use Rattle.load.specs.Outcome.{with_lookup, root_number}
use Rattle.load.proofs.set_lookups.Given as goal

abbrev pub invariant-loop-n : goal.invariant-loop-n
invariant-loop-n l =
    ((v : ℕ) → v < l.n → vertex_at l.vertices v ≡ with_lookup (root_number (get_or l.roots v 0)) (vertex_at l.initial.vertices v))
    × ((v : ℕ) → l.n ≤ v → vertex_at l.vertices v ≡ vertex_at l.initial.vertices v)
