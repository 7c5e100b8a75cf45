-- What lent memory holds: vertex rows, link rows and bytes, and which table a vertex has there.
use Rattle.std.specs.Prelude.{◌≡◌, ℕ, suc, ◌+◌, ◌<◌, ◌≤◌, false, cond, List, [], ◌∷◌, ◌++◌, map, length, get_or, take, drop, ◌==◌, slice_index_or}
use Rattle.rows.specs.declared.LinkRow.{LinkRow}
use Rattle.rows.specs.declared.LinkWidth.TheVariants.{Zero, Two, Four}
use Rattle.rows.specs.Kinds.{zero_link}
use Rattle.graph.specs.declared.VertexRow.{VertexRow}
use Rattle.graph.specs.declared.GraphView.{GraphView}
use Rattle.model.specs.Tables.{Slot, Table}

abbrev pub zero_vertex : VertexRow
zero_vertex = record { start = 0; size = 0; first = 0; links = 0; parent = 0; lookup = 0; entries = 0; queue = 0; reached = false }

-- the rows and bytes in use
pub record Memory : Type 0 where
  pub vertices : List VertexRow
  pub links : List LinkRow
  pub bytes : List ℕ

abbrev pub memory : GraphView → Memory
memory g = record { vertices = g.vertices.now; links = g.links.now; bytes = g.bytes.now }

abbrev pub vertex_at : List VertexRow → ℕ → VertexRow
vertex_at rows v = slice_index_or rows v zero_vertex

-- LINK ROWS OF A TABLE: its slots by position, then its virtual links, numbered from behind all positions on
abbrev pub behind_all : ℕ
behind_all = 16777216

abbrev pub slot_row : ℕ → Slot → LinkRow
slot_row v l = record { owner = v; position = l.position; width = cond (l.width == 4) Four Two; target = l.target }

abbrev pub virtual_rows : ℕ → ℕ → List ℕ → List LinkRow
virtual_rows v k [] = []
virtual_rows v k (t ∷ ts) = record { owner = v; position = behind_all + k; width = Zero; target = t } ∷ virtual_rows v (suc k) ts

abbrev pub table_rows : ℕ → Table → List LinkRow
table_rows v t = map (slot_row v) t.slots ++ virtual_rows v 0 t.virtuals

-- all link rows of the tables that are numbered on from v
abbrev pub flat : ℕ → List Table → List LinkRow
flat v [] = []
flat v (t ∷ ts) = table_rows v t ++ flat (suc v) ts

-- each link row is owned by one of the first n vertices
abbrev pub Owned : List LinkRow → ℕ → Type 0
Owned rows n = (i : ℕ) → i < length rows → (slice_index_or rows i zero_link).owner < n

-- a vertex's part of the pool, and its link rows
abbrev pub part_of : Memory → ℕ → List ℕ
part_of m v = take (vertex_at m.vertices v).size (drop (vertex_at m.vertices v).start m.bytes)

abbrev pub rows_of : Memory → ℕ → List LinkRow
rows_of m v = take (vertex_at m.vertices v).links (drop (vertex_at m.vertices v).first m.links)

-- what a vertex row names lies within the rows and bytes
pub record Within (m : Memory) (r : VertexRow) : Type 0 where
  pub part : r.start + r.size ≤ length m.bytes
  pub rows : r.first + r.links ≤ length m.links

-- the vertex v is there, and so are all bytes that its row names
abbrev pub HasPart : Memory → ℕ → Type 0
HasPart m v = (v < length m.vertices) × ((vertex_at m.vertices v).start + (vertex_at m.vertices v).size ≤ length m.bytes)

-- the memory has the table t for the vertex v
pub record Bears (m : Memory) (v : ℕ) (t : Table) : Type 0 where
  pub below : v < length m.vertices
  pub within : Within m (vertex_at m.vertices v)
  pub bytes : part_of m v ≡ t.bytes
  pub rows : rows_of m v ≡ table_rows v t

-- all that a reader may follow is there: the part and the rows of each vertex, and the target of each link
pub record Tight (m : Memory) : Type 0 where
  pub within : (v : ℕ) → v < length m.vertices → Within m (vertex_at m.vertices v)
  pub targets : (i : ℕ) → i < length m.links → (d : LinkRow) → (get_or m.links i d).target < length m.vertices

-- a vertex row without what calls use while they run, and without its parents and lookup
abbrev pub bare : VertexRow → VertexRow
bare r = record { start = r.start; size = r.size; first = r.first; links = r.links; parent = 0; lookup = 0; entries = 0; queue = 0; reached = false }

abbrev pub bares : List VertexRow → List VertexRow
bares rows = map bare rows
