-- The tables that a model stands for: bytes, real links and virtual links of each vertex, in walk order; and what enters a vertex.
use Rattle.std.specs.Prelude.{ℕ, suc, ◌+◌, cond, List, [], ◌∷◌, ◌++◌, map, length, replicate, Some, None, Option, ◌==◌}
use Rattle.std.specs.List.{flat_map}
use Rattle.std.specs.Option.{option_to_list}
use Rattle.data_bytes.specs.Values.{value_bytes}
use Rattle.model.specs.Forest.{Ligature, LigatureSet, Subtable, Lookup, Model}

-- a slot: the place of an offset in a table, its width in bytes, and the vertex that it leads to
pub record Slot : Type 0 where
  pub position : ℕ
  pub width : ℕ
  pub target : ℕ

-- a table: its bytes with zero in every slot, its slots by position, and the targets of its virtual links
pub record Table : Type 0 where
  pub bytes : List ℕ
  pub slots : List Slot
  pub virtuals : List ℕ

-- a table with its vertex
pub record Placed : Type 0 where
  pub vertex : ℕ
  pub table : Table

abbrev pub slot : ℕ → ℕ → ℕ → Slot
slot p w t = record { position = p; width = w; target = t }

-- two-byte slots one behind the other, from a position on
abbrev pub slots_from : ℕ → List ℕ → List Slot
slots_from p [] = []
slots_from p (t ∷ ts) = slot p 2 t ∷ slots_from (p + 2) ts

abbrev pub placed : ℕ → List ℕ → List Slot → List ℕ → Placed
placed v bs ss vs = record { vertex = v; table = record { bytes = bs; slots = ss; virtuals = vs } }

-- what a lookup's slot leads to
abbrev pub head_or : Option ℕ → ℕ → ℕ
head_or None v = v
head_or (Some e) v = e

abbrev pub head : Subtable → ℕ
head s = head_or s.extension s.vertex

-- THE KINDS OF TABLE
abbrev pub zeros : ℕ → List ℕ
zeros n = replicate n 0

abbrev pub lookup_table : Lookup → Placed
lookup_table l =
    placed l.vertex
    (value_bytes (l.kind ∷ l.flag ∷ length l.subtables ∷ (zeros (length l.subtables) ++ option_to_list l.mark)))
    (slots_from 6 (map (λ (s : Subtable). head s) l.subtables))
    []

-- format 1, lookup type 4, and a four-byte slot
abbrev pub extension_bytes : List ℕ
extension_bytes = 0 ∷ 1 ∷ 0 ∷ 4 ∷ []

abbrev pub extension_table : ℕ → ℕ → Placed
extension_table e v = placed e (extension_bytes ++ zeros 4) (slot 4 4 v ∷ []) []

abbrev pub subtable_table : Subtable → Placed
subtable_table s =
    placed s.vertex
    (value_bytes (1 ∷ 0 ∷ length s.sets ∷ zeros (length s.sets)))
    (slot 2 2 s.coverage ∷ slots_from 6 (map (λ (t : LigatureSet). t.vertex) s.sets))
    []

abbrev pub coverage_table : Subtable → Placed
coverage_table s = placed s.coverage s.covering [] []

-- a set and a ligature have a virtual link to the coverage c of their subtable
abbrev pub set_table : ℕ → LigatureSet → Placed
set_table c t =
    placed t.vertex
    (value_bytes (length t.ligatures ∷ zeros (length t.ligatures)))
    (slots_from 2 (map (λ (g : Ligature). g.vertex) t.ligatures))
    (c ∷ [])

abbrev pub ligature_table : ℕ → Ligature → Placed
ligature_table c g = placed g.vertex (value_bytes (g.glyph ∷ suc (length g.components) ∷ g.components)) [] (c ∷ [])

-- THE WALK
abbrev pub set_walk : ℕ → LigatureSet → List Placed
set_walk c t = set_table c t ∷ map (ligature_table c) t.ligatures

abbrev pub extension_walk : Option ℕ → ℕ → List Placed
extension_walk None v = []
extension_walk (Some e) v = extension_table e v ∷ []

abbrev pub subtable_walk : Subtable → List Placed
subtable_walk s =
    extension_walk s.extension s.vertex ++ (subtable_table s ∷ coverage_table s ∷ flat_map (set_walk s.coverage) s.sets)

abbrev pub lookup_walk : Lookup → List Placed
lookup_walk l = lookup_table l ∷ flat_map subtable_walk l.subtables

abbrev pub model_walk : Model → List Placed
model_walk m = flat_map lookup_walk m.lookups

abbrev pub vertex_of : Placed → ℕ
vertex_of p = p.vertex

-- WHAT ENTERS
abbrev pub count_of : ℕ → List ℕ → ℕ
count_of v [] = 0
count_of v (t ∷ ts) = cond (t == v) 1 0 + count_of v ts

-- the targets of all links of a table
abbrev pub targets : Table → List ℕ
targets t = map (λ (s : Slot). s.target) t.slots ++ t.virtuals

-- how many links, real and virtual, go from one table to a vertex
abbrev pub enters : ℕ → Placed → ℕ
enters v p = count_of v (targets p.table)

abbrev pub links_of : Placed → ℕ
links_of p = length (targets p.table)

-- A VERTEX'S PART: its bytes, or none where there is no such vertex
abbrev pub bytes_at : List Placed → ℕ → Option (List ℕ)
bytes_at [] v = None
bytes_at (p ∷ ps) v = cond (p.vertex == v) (Some p.table.bytes) (bytes_at ps v)

abbrev pub part_of : Model → ℕ → Option (List ℕ)
part_of m v = bytes_at (model_walk m) v
