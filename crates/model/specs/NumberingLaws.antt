-- What a split and a wrap take from the pools, and the numbers of the new vertices, in the subject's words.
use Rattle.std.specs.Prelude.{◌≡◌, ℕ, zero, suc, ◌+◌, ◌*◌, ◌<◌, ◌≤◌, Bool, cond, List, [], ◌∷◌, ◌++◌, map, length, take, drop, Some, Ok, sum_by, filter, Option, nat_le}
use Rattle.std.specs.List.{flat_map, AllByRecursion}
use Rattle.std.specs.Option.{option_to_list}
use Rattle.coverage.specs.Meaning.{Meant}
use Rattle.model.specs.Forest.{Ligature, LigatureSet, Subtable, Lookup, Model}
use Rattle.model.specs.Tables.{Placed, lookup_table, subtable_table, coverage_table, set_table, extension_walk, model_walk, vertex_of, count_of, links_of}
use Rattle.model.specs.Rules.{nth}
use Rattle.model.specs.Cutting.{Cut, cuts}
use Rattle.model.specs.Splitting.{inside, cut_vertices, all_cuts, Part, taken_parts, lookup_room, is_wrapped, split_bill, taken_with, Capacities, Changed, split, wrap}
use Rattle.model.specs.Sound.{Distinct, Good}

-- so many numbers from a first one on
abbrev pub up_from : ℕ → ℕ → List ℕ
up_from first zero = []
up_from first (suc n) = first ∷ up_from (suc first) n

-- FAMILIES: what became of a subtable of the lookup: itself, then its pieces
pub record Family : Type 0 where
  pub original : Subtable
  pub after : List Subtable

-- directly behind each subtable stand its pieces, one for each of its cuts
abbrev pub families : ℕ → List Subtable → List Subtable → List Family
families ceiling [] after = []
families ceiling (s ∷ ss) after =
    record { original = s; after = take (suc (length (cuts ceiling s))) after } ∷ families ceiling ss (drop (suc (length (cuts ceiling s))) after)

abbrev pub pieces_of : Family → List Subtable
pieces_of f = drop 1 f.after

-- the sets whose vertex is new: not below the first free one
abbrev pub new_sets_of : ℕ → Subtable → List LigatureSet
new_sets_of first s = filter (λ (t : LigatureSet). nat_le first t.vertex) s.sets

-- THE NUMBERING RULE
-- for each piece the subtable, its coverage, its new sets; then the extension tables of the pieces, if they have any
abbrev pub piece_vertices : ℕ → Subtable → List ℕ
piece_vertices first s = s.vertex ∷ s.coverage ∷ map (λ (t : LigatureSet). t.vertex) (new_sets_of first s)

abbrev pub family_vertices : ℕ → Family → List ℕ
family_vertices first f = flat_map (piece_vertices first) (pieces_of f) ++ flat_map (λ (s : Subtable). option_to_list s.extension) (pieces_of f)

-- THE BYTES
-- a divided subtable takes 6 + 2c for each piece (c: its sets before), 8 more behind extension tables, 2 + 2m for each new set of m ligatures, 4 + 6 × glyphs for each coverage
abbrev pub piece_bytes : ℕ → Bool → ℕ → Subtable → ℕ
piece_bytes first wrapped c s = 6 + (2 * c + (cond wrapped 8 0 + sum_by (λ (t : LigatureSet). 2 + 2 * length t.ligatures) (new_sets_of first s)))

abbrev pub coverage_bytes : Subtable → ℕ
coverage_bytes s = 4 + 6 * length s.sets

abbrev pub divided_bytes : ℕ → Bool → Subtable → List Subtable → ℕ
divided_bytes first wrapped s [] = 0
divided_bytes first wrapped s (a ∷ []) = 0
divided_bytes first wrapped s (a ∷ p ∷ ps) = sum_by (piece_bytes first wrapped (length s.sets)) (p ∷ ps) + sum_by coverage_bytes (a ∷ p ∷ ps)

abbrev pub family_bytes : ℕ → Bool → Family → ℕ
family_bytes first wrapped f = divided_bytes first wrapped f.original f.after

-- the new lookup table, if there is any cut
abbrev pub lookup_bytes : Lookup → List Cut → ℕ
lookup_bytes after [] = 0
lookup_bytes after (c ∷ cs) = lookup_room after (length after.subtables)

-- WHERE THEY LIE: the new and rewritten tables in the order of the pool
abbrev pub piece_tables : ℕ → Subtable → List Placed
piece_tables first s = subtable_table s ∷ coverage_table s ∷ map (set_table s.coverage) (new_sets_of first s)

abbrev pub divided_tables : ℕ → List Subtable → List Placed
divided_tables first [] = []
divided_tables first (a ∷ []) = []
divided_tables first (a ∷ p ∷ ps) =
    flat_map (piece_tables first) (p ∷ ps) ++ (coverage_table a ∷ flat_map (λ (s : Subtable). extension_walk s.extension s.vertex) (p ∷ ps))

abbrev pub lookup_tables : Lookup → List Cut → List Placed
lookup_tables after [] = []
lookup_tables after (c ∷ cs) = lookup_table after ∷ []

abbrev pub taken_tables : ℕ → ℕ → Lookup → Lookup → List Placed
taken_tables first ceiling l after =
    flat_map (λ (f : Family). divided_tables first f.after) (families ceiling l.subtables after.subtables) ++ lookup_tables after (all_cuts ceiling l)

-- each table lies in the part for its vertex, and has room there
abbrev pub Lie : List Placed → List Part → Type 0
Lie [] [] = Unit {0}
Lie [] (p ∷ ps) = ⊥
Lie (t ∷ ts) [] = ⊥
Lie (t ∷ ts) (p ∷ ps) = ((t.vertex ≡ p.vertex) × (length t.table.bytes ≤ p.reserved)) × Lie ts ps

-- what a codec's coverages are: no longer than 4 + 6 × glyphs
abbrev pub Short : Subtable → Type 0
Short s = length s.covering ≤ coverage_bytes s

-- AN ACCEPTED SPLIT
-- of lookup n, which was l before and is after now
pub record Splits (m : Model) (n ceiling : ℕ) (l after : Lookup) (c : Changed) : Type 0 where
  pub caps : Capacities
  pub wrote : ℕ → List ℕ
  pub was : nth m.lookups n ≡ Some l
  pub accepted : split caps wrote m n ceiling ≡ Ok c
  pub is : nth c.model.lookups n ≡ Some after

-- the new vertices are the next free numbers, in the order of the numbering rule; as many sets are new as cuts fall inside a set
pub record Numbered (m : Model) (n ceiling : ℕ) (l after : Lookup) (c : Changed) : Type 0 where
  pub whole : flat_map (λ (f : Family). f.after) (families ceiling l.subtables after.subtables) ≡ after.subtables
  pub order : flat_map (family_vertices m.taken.vertices) (families ceiling l.subtables after.subtables)
      ≡ up_from m.taken.vertices (sum_by (cut_vertices (is_wrapped l)) (all_cuts ceiling l))
  pub sets : sum_by (λ (f : Family). sum_by (λ (s : Subtable). length (new_sets_of m.taken.vertices s)) (pieces_of f)) (families ceiling l.subtables after.subtables)
      ≡ sum_by inside (all_cuts ceiling l)
  pub taken : c.model.taken.vertices ≡ m.taken.vertices + sum_by (cut_vertices (is_wrapped l)) (all_cuts ceiling l)
  pub count : c.count ≡ length (all_cuts ceiling l)

abbrev pub NumbersNewVertices : Type 0
NumbersNewVertices =
    (meaning : List ℕ → Option Meant) (m : Model) (n ceiling : ℕ) (l after : Lookup) (c : Changed)
    → Good meaning m → Splits m n ceiling l after c → Numbered m n ceiling l after c

-- the tables afterwards have as many vertices and links more as were taken; the bytes taken are those of the rule, and each new or rewritten table has room in its part
pub record Billed (m : Model) (n ceiling : ℕ) (l after : Lookup) (c : Changed) : Type 0 where
  pub taken : c.model.taken ≡ taken_with m.taken (split_bill ceiling m l)
  pub vertices : length (model_walk c.model) ≡ length (model_walk m) + (split_bill ceiling m l).vertices
  pub links : sum_by links_of (model_walk c.model) ≡ sum_by links_of (model_walk m) + (split_bill ceiling m l).links
  pub bytes : (split_bill ceiling m l).bytes
      ≡ sum_by (family_bytes m.taken.vertices (is_wrapped l)) (families ceiling l.subtables after.subtables) + lookup_bytes after (all_cuts ceiling l)
  pub lie : AllByRecursion Short after.subtables → Lie (taken_tables m.taken.vertices ceiling l after) (taken_parts ceiling m.taken.vertices l)

abbrev pub BillsExactly : Type 0
BillsExactly =
    (meaning : List ℕ → Option Meant) (m : Model) (n ceiling : ℕ) (l after : Lookup) (c : Changed)
    → Good meaning m → Splits m n ceiling l after c → Billed m n ceiling l after c

-- VERTICES STAY DISTINCT
-- the numbers of a model: each vertex in use stands at one place, and all are below the first free one; the pools are taken as far as the tables go
pub record Tidy (m : Model) : Type 0 where
  pub distinct : Distinct (map vertex_of (model_walk m))
  pub below : AllByRecursion (λ (p : Placed). p.vertex < m.taken.vertices) (model_walk m)
  pub vertices : length (model_walk m) ≡ m.taken.vertices
  pub links : sum_by links_of (model_walk m) ≡ m.taken.links

abbrev pub Roomy : Model → Type 0
Roomy m = sum_by (λ (p : Placed). length p.table.bytes) (model_walk m) ≤ m.taken.bytes

-- the ligatures of a lookup, by subtable and set
abbrev pub ligatures_of : Lookup → List Ligature
ligatures_of l = flat_map (λ (s : Subtable). flat_map (λ (t : LigatureSet). t.ligatures) s.sets) l.subtables

-- the tables have the vertices that they had, and the new ones; no ligature changes
pub record Kept (m : Model) (n ceiling : ℕ) (l after : Lookup) (c : Changed) : Type 0 where
  pub tidy : Tidy c.model
  pub room : AllByRecursion Short after.subtables → Roomy c.model
  pub same : (v : ℕ) → count_of v (map vertex_of (model_walk c.model))
      ≡ count_of v (map vertex_of (model_walk m)) + count_of v (up_from m.taken.vertices (split_bill ceiling m l).vertices)
  pub ligatures : ligatures_of after ≡ ligatures_of l

abbrev pub KeepsVerticesDistinct : Type 0
KeepsVerticesDistinct =
    (meaning : List ℕ → Option Meant) (m : Model) (n ceiling : ℕ) (l after : Lookup) (c : Changed)
    → Good meaning m → Splits m n ceiling l after c → Kept m n ceiling l after c

-- AN ACCEPTED WRAP
pub record Wraps (m : Model) (n : ℕ) (l after : Lookup) (c : Changed) : Type 0 where
  pub caps : Capacities
  pub was : nth m.lookups n ≡ Some l
  pub accepted : wrap caps m n ≡ Ok c
  pub is : nth c.model.lookups n ≡ Some after

-- the extension tables are numbered by link position; k of them take k vertices, k links and 8k bytes; the walk has no other new table
pub record Wrapped (meaning : List ℕ → Option Meant) (m : Model) (l after : Lookup) (c : Changed) : Type 0 where
  pub extensions : map (λ (s : Subtable). s.extension) after.subtables ≡ map (λ (v : ℕ). Some v) (up_from m.taken.vertices (length l.subtables))
  pub ligatures : ligatures_of after ≡ ligatures_of l
  pub vertices : c.model.taken.vertices ≡ m.taken.vertices + length l.subtables
  pub links : c.model.taken.links ≡ m.taken.links + length l.subtables
  pub bytes : c.model.taken.bytes ≡ m.taken.bytes + 8 * length l.subtables
  pub more_vertices : length (model_walk c.model) ≡ length (model_walk m) + length l.subtables
  pub more_links : sum_by links_of (model_walk c.model) ≡ sum_by links_of (model_walk m) + length l.subtables
  pub more_bytes : sum_by (λ (p : Placed). length p.table.bytes) (model_walk c.model) ≡ sum_by (λ (p : Placed). length p.table.bytes) (model_walk m) + 8 * length l.subtables
  pub same : (v : ℕ) → count_of v (map vertex_of (model_walk c.model)) ≡ count_of v (map vertex_of (model_walk m)) + count_of v (up_from m.taken.vertices (length l.subtables))
  pub count : c.count ≡ length l.subtables
  pub good : Good meaning c.model

abbrev pub WrapsAsBilled : Type 0
WrapsAsBilled = (meaning : List ℕ → Option Meant) (m : Model) (n : ℕ) (l after : Lookup) (c : Changed) → Good meaning m → Wraps m n l after c → Wrapped meaning m l after c
