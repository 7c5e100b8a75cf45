-- Link rows that do not fit their memory: one that leads to no vertex, a real one that passes its owner's end, two real ones at one place.
use Rattle.std.specs.Prelude.{◌≡◌, ℕ, zero, suc, ◌+◌, ◌<◌, ◌≤◌, List, length, Some, None, Option, slice_index_or}
use Rattle.rows.specs.declared.LinkRow.{LinkRow}
use Rattle.rows.specs.Kinds.{wide, zero_link}
use Rattle.graph.specs.declared.VertexRow.{VertexRow}
use Rattle.graph.specs.Memory.{vertex_at}

abbrev pub row_at : List LinkRow → ℕ → LinkRow
row_at rows i = slice_index_or rows i zero_link

-- the row in front of the i-th
abbrev pub row_before : List LinkRow → ℕ → Option LinkRow
row_before rows zero = None
row_before rows (suc j) = Some (row_at rows j)

-- both are real links of one owner at one position
abbrev pub Twins : Option LinkRow → LinkRow → Type 0
Twins None r = ⊥
Twins (Some q) r = (0 < wide q.width) × (0 < wide r.width) × (q.owner ≡ r.owner) × (q.position ≡ r.position)

-- what can be wrong with a row, by how many vertices there are, the size of its owner's part, and the row in front
pub data Fault (count extent : ℕ) (front : Option LinkRow) (r : LinkRow) : Type 0 where
  nowhere : count ≤ r.target → Fault count extent front r
  beyond : 0 < wide r.width → extent < r.position + wide r.width → Fault count extent front r
  twins : Twins front r → Fault count extent front r

abbrev pub Faulty : List VertexRow → List LinkRow → ℕ → Type 0
Faulty vs rows i = Fault (length vs) (vertex_at vs (row_at rows i).owner).size (row_before rows i) (row_at rows i)

abbrev pub Faultless : List VertexRow → List LinkRow → Type 0
Faultless vs rows = (i : ℕ) → i < length rows → Faulty vs rows i → ⊥

-- the first faulty row is one of the vertex v
pub record FirstFault (vs : List VertexRow) (rows : List LinkRow) (v : ℕ) : Type 0 where
  pub at : ℕ
  pub within : at < length rows
  pub vertex : (row_at rows at).owner ≡ v
  pub faulty : Faulty vs rows at
  pub lower : (k : ℕ) → k < at → Faulty vs rows k → ⊥
