-- The pieces of a subtable are its parts, in order; and where the vertex of a divided set goes.
use Rattle.std.specs.Prelude.{◌≡◌, ℕ, ◌<◌, ◌≤◌, Bool, true, false, ◌⊎◌, List, [], ◌∷◌, map, length, Some, None, Option}
use Rattle.std.specs.List.{flat_map}
use Rattle.model.specs.Forest.{Ligature, LigatureSet, Subtable, Lookup, Model}
use Rattle.model.specs.Rules.{nth}
use Rattle.model.specs.Cutting.{Entry, entries, parts, cuts, nth_part}
use Rattle.model.specs.Splitting.{Group, groups, has, divided, split_bill}
use Rattle.model.specs.Sound.{glyphs_of}
use Rattle.model.specs.CuttingLaws.{FilledSets, under, covered}
use Rattle.model.specs.Samples.{ligature, ligature_set, subtable_of_three, cut, bill}

-- A PIECE AND ITS PART
abbrev pub held : LigatureSet → ℕ × List Ligature
held t = (t.first, t.ligatures)

abbrev pub gathered : Group → ℕ × List Ligature
gathered t = (t.first, t.ligatures)

-- a subtable that has the ligatures of a part, in order, each under its first glyph; a set for each group of the part
pub record IsPart (p : List Entry) (d : Subtable) : Type 0 where
  pub ligatures : flat_map (λ (t : LigatureSet). map (under t.first) t.ligatures) d.sets ≡ map (λ (e : Entry). under e.first e.ligature) p
  pub sets : map held d.sets ≡ map gathered (groups p)
  pub glyphs : glyphs_of d ≡ covered p

-- the tables of the original stay
pub record Original (s d : Subtable) : Type 0 where
  pub extension : d.extension ≡ s.extension
  pub vertex : d.vertex ≡ s.vertex
  pub coverage : d.coverage ≡ s.coverage

-- as many subtables as parts; the original is the first; the k-th is the k-th part
pub record PartByPart (s : Subtable) (ps : List (List Entry)) (ds : List Subtable) : Type 0 where
  pub count : length ds ≡ length ps
  pub original : (d : Subtable) → nth ds 0 ≡ Some d → Original s d
  pub each : (k : ℕ) (p : List Entry) (d : Subtable) → nth ps k ≡ Some p → nth ds k ≡ Some d → IsPart p d

abbrev pub PiecesAreTheParts : Type 0
PiecesAreTheParts =
    (ceiling : ℕ) (wrapped : Bool) (wrote : ℕ → List ℕ) (fresh : ℕ) (s : Subtable)
    → FilledSets s.sets
    → PartByPart s (parts ceiling (entries s)) (divided wrapped wrote fresh s (parts ceiling (entries s)))

-- WHERE THE VERTEX OF SET i GOES
-- part k has some of the set, and no later part has
pub record LastWith (ps : List (List Entry)) (i k : ℕ) : Type 0 where
  pub here : has i (nth_part ps k) ≡ true
  pub later : (m : ℕ) → k < m → has i (nth_part ps m) ≡ false

-- to the first part, if that has some of the set; else to the last that has
abbrev pub Home : List (List Entry) → ℕ → ℕ → Type 0
Home ps i k = ((has i (nth_part ps 0) ≡ true) × (k ≡ 0)) ⊎ ((has i (nth_part ps 0) ≡ false) × LastWith ps i k)

-- set j of piece k, whose part is p: some ligatures of a set of the subtable, under its first glyph; it has that set's
-- vertex in the piece where that goes, and a new vertex in any other
pub record Settled (fresh : ℕ) (s : Subtable) (ps : List (List Entry)) (k : ℕ) (p : List Entry) (j : ℕ) (t : LigatureSet) : Type 0 where
  pub group : Group
  pub whole : LigatureSet
  pub of : nth (groups p) j ≡ Some group
  pub from : nth s.sets group.set ≡ Some whole
  pub first : t.first ≡ whole.first
  pub ligatures : t.ligatures ≡ group.ligatures
  pub own : Home ps group.set k → t.vertex ≡ whole.vertex
  pub new : (Home ps group.set k → ⊥) → fresh ≤ t.vertex
  -- so that an old vertex stands nowhere else
  pub only : whole.vertex < fresh → t.vertex ≡ whole.vertex → Home ps group.set k

-- a piece with the vertex of set i
pub record Found (ps : List (List Entry)) (ds : List Subtable) (i : ℕ) (whole : LigatureSet) : Type 0 where
  pub piece : ℕ
  pub home : Home ps i piece
  pub part : List Entry
  pub subtable : Subtable
  pub part_of : nth ps piece ≡ Some part
  pub is : nth ds piece ≡ Some subtable
  pub place : ℕ
  pub group : Group
  pub set : LigatureSet
  pub of : nth (groups part) place ≡ Some group
  pub index : group.set ≡ i
  pub there : nth subtable.sets place ≡ Some set
  pub vertex : set.vertex ≡ whole.vertex

pub record OnePlace (fresh : ℕ) (s : Subtable) (ps : List (List Entry)) (ds : List Subtable) : Type 0 where
  pub settled : (k : ℕ) (p : List Entry) (d : Subtable) → nth ps k ≡ Some p → nth ds k ≡ Some d → (j : ℕ) (t : LigatureSet) → nth d.sets j ≡ Some t → Settled fresh s ps k p j t
  pub one : (i k m : ℕ) → Home ps i k → Home ps i m → k ≡ m
  pub found : (i : ℕ) (whole : LigatureSet) → nth s.sets i ≡ Some whole → Found ps ds i whole

abbrev pub DividedSetsVertexGoesToOnePlace : Type 0
DividedSetsVertexGoesToOnePlace =
    (ceiling : ℕ) (wrapped : Bool) (wrote : ℕ → List ℕ) (fresh : ℕ) (s : Subtable)
    → FilledSets s.sets
    → OnePlace fresh s (parts ceiling (entries s)) (divided wrapped wrote fresh s (parts ceiling (entries s)))

-- WORKED CASES at 18, which is the size of a subtable with one ligature of 6 bytes
-- the set of 10 with one ligature, and the set of 20 with three
abbrev pub set_of_one : LigatureSet
set_of_one = ligature_set 3 10 (ligature 4 100 (11 ∷ []) ∷ [])

abbrev pub set_of_three : LigatureSet
set_of_three = ligature_set 5 20 (ligature 6 101 (21 ∷ []) ∷ ligature 7 102 (22 ∷ []) ∷ ligature 8 103 (23 ∷ []) ∷ [])

abbrev pub table : Option ℕ → ℕ → ℕ → List ℕ → List LigatureSet → Subtable
table e v c bs ts = record { extension = e; vertex = v; coverage = c; covering = bs; sets = ts }

abbrev pub one_and_three : Option ℕ → Subtable
one_and_three e = table e 1 2 [] (set_of_one ∷ set_of_three ∷ [])

abbrev pub lookup_of : ℕ → Subtable → Lookup
lookup_of kind s = record { vertex = 0; kind = kind; flag = 0; mark = None; subtables = s ∷ [] }

abbrev pub model_of : ℕ → Lookup → Model
model_of vertices l = record { lookups = l ∷ []; taken = record { vertices = vertices; links = 0; bytes = 0 } }

abbrev pub divided_at : ℕ → Bool → (ℕ → List ℕ) → ℕ → Subtable → List Subtable
divided_at ceiling wrapped wrote fresh s = divided wrapped wrote fresh s (parts ceiling (entries s))

pub record WithoutAHead : Type 0 where
  pub cuts : cuts 18 (one_and_three None) ≡ cut 1 0 ∷ cut 1 1 ∷ cut 1 2 ∷ []
  -- the original keeps none of the set of 20: vertex 5 goes to the last piece, and the two before it have new sets 11 and 14
  pub last : (wrote : ℕ → List ℕ)
      → divided_at 18 false wrote 9 (one_and_three None)
      ≡ table None 1 2 (wrote 2) (set_of_one ∷ [])
      ∷ table None 9 10 (wrote 10) (ligature_set 11 20 (ligature 6 101 (21 ∷ []) ∷ []) ∷ [])
      ∷ table None 12 13 (wrote 13) (ligature_set 14 20 (ligature 7 102 (22 ∷ []) ∷ []) ∷ [])
      ∷ table None 15 16 (wrote 16) (ligature_set 5 20 (ligature 8 103 (23 ∷ []) ∷ []) ∷ [])
      ∷ []
  pub bill : split_bill 18 (model_of 9 (lookup_of 4 (one_and_three None))) (lookup_of 4 (one_and_three None)) ≡ bill 8 10 92
  -- behind extension tables, 9 that of the original: those of the pieces are numbered last
  pub behind : (wrote : ℕ → List ℕ)
      → divided_at 18 true wrote 10 (one_and_three (Some 9))
      ≡ table (Some 9) 1 2 (wrote 2) (set_of_one ∷ [])
      ∷ table (Some 18) 10 11 (wrote 11) (ligature_set 12 20 (ligature 6 101 (21 ∷ []) ∷ []) ∷ [])
      ∷ table (Some 19) 13 14 (wrote 14) (ligature_set 15 20 (ligature 7 102 (22 ∷ []) ∷ []) ∷ [])
      ∷ table (Some 20) 16 17 (wrote 17) (ligature_set 5 20 (ligature 8 103 (23 ∷ []) ∷ []) ∷ [])
      ∷ []
  -- with its head in the original the set's vertex 3 stays there
  pub head : (wrote : ℕ → List ℕ)
      → divided_at 18 false wrote 7 subtable_of_three
      ≡ table None 1 2 (wrote 2) (ligature_set 3 10 (ligature 4 1 (1 ∷ []) ∷ []) ∷ [])
      ∷ table None 7 8 (wrote 8) (ligature_set 9 10 (ligature 5 2 (2 ∷ []) ∷ []) ∷ [])
      ∷ table None 10 11 (wrote 11) (ligature_set 12 10 (ligature 6 3 (3 ∷ []) ∷ []) ∷ [])
      ∷ []
