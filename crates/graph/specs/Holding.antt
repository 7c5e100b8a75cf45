-- What it is for lent memory to hold a model: every row and byte of it, used and spare.
use Rattle.std.specs.Prelude.{◌≡◌, ℕ, zero, suc, ◌+◌, ◌-◌, ◌<◌, ◌≤◌, true, false, cond, ◌⊎◌, List, [], ◌∷◌, ◌++◌, map, length, take, drop, replicate, is_some, ◌==◌}
use Rattle.std.specs.List.{flat_map, AllByRecursion, range_with_len}
use Rattle.rows.specs.declared.LinkRow.{LinkRow}
use Rattle.rows.specs.declared.ParentRow.{ParentRow}
use Rattle.rows.specs.Kinds.{zero_link, zero_parent}
use Rattle.model.specs.Forest.{Subtable, Lookup, Model}
use Rattle.model.specs.Tables.{Table, Placed, count_of, targets, vertex_of, model_walk}
use Rattle.model.specs.Loading.{table_in}
use Rattle.model.specs.Sound.{Distinct}
use Rattle.model.specs.Splitting.{subtable_limit}
use Rattle.model.specs.Splitting.{Capacities as Room}
use Rattle.model.specs.Reading.{has_mark}
use Rattle.graph.specs.declared.VertexRow.{VertexRow}
use Rattle.graph.specs.declared.Capacities.{Capacities}
use Rattle.graph.specs.declared.Counts.{Counts}
use Rattle.graph.specs.Memory.{zero_vertex, Memory, vertex_at, table_rows, flat, Bears}

-- all rows and bytes that were lent
pub record Lent : Type 0 where
  pub vertices : List VertexRow
  pub links : List LinkRow
  pub parents : List ParentRow
  pub bytes : List ℕ

-- the room that a model's definitions speak of
abbrev pub room : Capacities → Room
room c = record { vertices = c.vertices; links = c.links; bytes = c.bytes }

-- those in use
abbrev pub used_of : Lent → Counts → Memory
used_of l u = record { vertices = take u.vertices l.vertices; links = take u.links l.links; bytes = take u.bytes l.bytes }

-- THE TABLES of a model by vertex
abbrev pub tables_of : Model → List Table
tables_of m = map (table_in (model_walk m)) (range_with_len 0 m.taken.vertices)

-- PARENT ROWS: for each child in order and each parent in order, a row if any link joins them, with the number of links
abbrev pub parent_if : ℕ → ℕ → ℕ → List ParentRow
parent_if c p zero = []
parent_if c p (suc k) = record { child = c; parent = p; links = suc k } ∷ []

abbrev pub parents_from : ℕ → ℕ → List Table → List ParentRow
parents_from c p [] = []
parents_from c p (t ∷ ts) = parent_if c p (count_of c (targets t)) ++ parents_from c (suc p) ts

abbrev pub parent_rows : List Table → List ParentRow
parent_rows ts = flat_map (λ c. parents_from c 0 ts) (range_with_len 0 (length ts))

-- the first parent row of child v
abbrev pub first_parent : List Table → ℕ → ℕ
first_parent ts v = length (flat_map (λ c. parents_from c 0 ts) (range_with_len 0 v))

-- VERTEX ROWS
abbrev pub root_at : List Lookup → ℕ → ℕ
root_at [] n = 0
root_at (l ∷ ls) zero = l.vertex
root_at (l ∷ ls) (suc n) = root_at ls n

-- the row of vertex v whose part starts at a
abbrev pub vertex_row : Model → ℕ → ℕ → VertexRow
vertex_row m a v =
    record {
      start = a;
      size = length (table_in (model_walk m) v).bytes;
      first = length (flat 0 (take v (tables_of m)));
      links = length (table_rows v (table_in (model_walk m) v));
      parent = first_parent (tables_of m) v;
      lookup = root_at m.lookups v;
      entries = 0;
      queue = 0;
      reached = false;
    }

-- LOOKUPS: extension tables just where the type is 7; a mark filtering set just where the flag asks for one; not too many subtables
pub record PlainLookup (l : Lookup) : Type 0 where
  pub kind : cond (l.kind == 7) (AllByRecursion (λ (s : Subtable). is_some s.extension ≡ true) l.subtables) ((l.kind ≡ 4) × AllByRecursion (λ (s : Subtable). is_some s.extension ≡ false) l.subtables)
  pub asks : is_some l.mark ≡ has_mark l.flag
  pub count : length l.subtables ≤ subtable_limit

-- SHOWING: what a reader of the used memory finds, wherever parts lie
pub record Shows (m : Memory) (count : ℕ) (l : Model) : Type 0 where
  pub lookups : count ≡ length l.lookups
  pub plain : AllByRecursion PlainLookup l.lookups
  pub roots : (i : ℕ) → i < count → (i < length m.vertices) × ((vertex_at m.vertices i).lookup ≡ root_at l.lookups i)
  pub tables : AllByRecursion (λ (p : Placed). Bears m p.vertex p.table) (model_walk l)
  pub vertices : length m.vertices ≡ l.taken.vertices
  pub links : length m.links ≡ l.taken.links
  pub bytes : length m.bytes ≡ l.taken.bytes

-- two parts do not overlap
abbrev pub Beside : VertexRow → VertexRow → Type 0
Beside r q = (r.start + r.size ≤ q.start) ⊎ (q.start + q.size ≤ r.start)

-- the rows in front, and zero rows behind them
abbrev pub padded : {X : Type 0} → X → List X → List X → Type 0
padded z xs all = all ≡ xs ++ replicate (length all - length xs) z

-- HOLDING: each table of the model stands at its vertex, parts lie anywhere and do not overlap, and what is not in use is zero
pub record Holds (l : Lent) (u : Counts) (m : Model) : Type 0 where
  pub lookups : u.lookups ≡ length m.lookups
  pub vertices : u.vertices ≡ m.taken.vertices
  pub count : u.links ≡ m.taken.links
  pub bytes : u.bytes ≡ m.taken.bytes
  pub above : u.parents ≡ length (parent_rows (tables_of m))
  pub plain : AllByRecursion PlainLookup m.lookups
  pub distinct : Distinct (map vertex_of (model_walk m))
  pub below : AllByRecursion (λ (p : Placed). p.vertex < m.taken.vertices) (model_walk m)
  pub whole : length (model_walk m) ≡ m.taken.vertices
  pub rows : (v : ℕ) → v < u.vertices → vertex_at l.vertices v ≡ vertex_row m (vertex_at l.vertices v).start v
  pub tables : (v : ℕ) → v < u.vertices → Bears (used_of l u) v (table_in (model_walk m) v)
  pub apart : (v w : ℕ) → v < w → w < u.vertices → Beside (vertex_at l.vertices v) (vertex_at l.vertices w)
  pub room : u.vertices ≤ length l.vertices
  pub spare : drop u.vertices l.vertices ≡ replicate (length l.vertices - u.vertices) zero_vertex
  pub fits : u.links ≤ length l.links
  pub links : padded zero_link (flat 0 (tables_of m)) l.links
  pub parents : padded zero_parent (parent_rows (tables_of m)) l.parents
  pub pool : u.bytes ≤ length l.bytes
  pub zeros : drop u.bytes l.bytes ≡ replicate (length l.bytes - u.bytes) 0

-- FRESH FROM LOAD: besides, the parts lie in table order from the front of the pool
pub record Fresh (l : Lent) (u : Counts) (m : Model) : Type 0 where
  pub holds : Holds l u m
  pub starts : (v : ℕ) → v < u.vertices → (vertex_at l.vertices v).start ≡ length (flat_map (λ (t : Table). t.bytes) (take v (tables_of m)))

-- nothing in any row or byte
pub record Blank (l : Lent) : Type 0 where
  pub vertices : l.vertices ≡ replicate (length l.vertices) zero_vertex
  pub links : l.links ≡ replicate (length l.links) zero_link
  pub parents : l.parents ≡ replicate (length l.parents) zero_parent
  pub bytes : l.bytes ≡ replicate (length l.bytes) 0
