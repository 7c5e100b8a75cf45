-- What load answers and leaves: the outcome that is defined for the words, and every row and byte.
use Rattle.std.specs.Prelude.{ℕ, ◌%◌, List, length, Some, None, Ok, Err, Option, Result}
use Rattle.refusals.specs.declared.Pool.{Pool}
use Rattle.refusals.specs.declared.Refusal.{Refusal}
use Rattle.refusals.specs.declared.Refusal.TheVariants.{NoRoom}
use Rattle.words.specs.declared.StreamCounts.{StreamCounts}
use Rattle.coverage.specs.Meaning.{Meant}
use Rattle.model.specs.Forest.{Taken, Model}
use Rattle.model.specs.Splitting.{Capacities, lent}
use Rattle.model.specs.Loading.{short_of, Loads}
use Rattle.graph.specs.declared.VertexRow.{VertexRow}
use Rattle.graph.specs.declared.Counts.{Counts}
use Rattle.graph.specs.Holding.{Lent, Fresh, Blank}

-- what a stream takes, by its counts
abbrev pub taken_as : StreamCounts → Taken
taken_as c = record { vertices = c.tables; links = c.links; bytes = c.bytes }

abbrev pub refused_pool : Option Pool → Result (Unit {0}) Refusal
refused_pool None = Ok tt
refused_pool (Some p) = Err (NoRoom p)

abbrev pub room_or : Capacities → StreamCounts → Result (Unit {0}) Refusal
room_or caps c = refused_pool (short_of caps (taken_as c))

-- the vertex that a root word names
abbrev pub root_number : ℕ → ℕ
root_number w = w % 0x1000_0000

abbrev pub with_lookup : ℕ → VertexRow → VertexRow
with_lookup v r = record { start = r.start; size = r.size; first = r.first; links = r.links; parent = r.parent; lookup = v; entries = r.entries; queue = r.queue; reached = r.reached }

-- what counts of lent rows and bytes
abbrev pub caps_of : Lent → Capacities
caps_of l = lent (length l.vertices) (length l.links) (length l.parents) (length l.bytes)

-- accepted: the memory holds the loaded model, fresh; refused: for the reason defined, and every row and byte is zero
abbrev pub Outcome : (List ℕ → Option Meant) → List ℕ → Lent → Result Counts Refusal → Type 0
Outcome meaning ws l (Ok u) = (m : Model) × Loads meaning (caps_of l) ws (Ok m) × Fresh l u m
Outcome meaning ws l (Err e) = Loads meaning (caps_of l) ws (Err e) × Blank l
