-- What is shown of cutting: the running size, the parts and their rule, when nothing is cut, and the glyphs that a part covers.
use Rattle.std.specs.Prelude.{◌≡◌, ℕ, suc, ◌+◌, ◌<◌, ◌≤◌, Bool, true, false, cond, ◌||◌, ◌⊎◌, List, [], ◌∷◌, ◌++◌, map, length, Some, None, sum_by, ◌==◌, slice_index_or}
use Rattle.std.specs.List.{flat_map, AllByRecursion, range_with_len}
use Rattle.coverage.specs.Glyphs.{GlyphList}
use Rattle.model.specs.Forest.{Ligature, LigatureSet, Subtable, Lookup, Model}
use Rattle.model.specs.Tables.{Placed, ligature_table, subtable_table, set_walk}
use Rattle.model.specs.Rules.{nth}
use Rattle.model.specs.Cutting.{Entry, entries, table_length, entry_size, run_size, subtable_size, touched, parts, nth_part, Cut, cuts, CutRule}
use Rattle.model.specs.Sound.{glyphs_of}
use Rattle.model.specs.Splitting.{Group, groups, has, all_cuts, split_lookup, split_bill, first_long}

-- a ceiling of at least 16, and no ligature too long for it: each fits into a part of its own
pub record Fit (ceiling : ℕ) (es : List Entry) : Type 0 where
  pub least : 16 ≤ ceiling
  pub short : AllByRecursion (λ (e : Entry). table_length e.ligature + 12 ≤ ceiling) es

-- at such a ceiling, just where a split refuses no ligature as too long
pub record Fitting : Type 0 where
  pub fits : (ceiling : ℕ) (ss : List Subtable) → 16 ≤ ceiling → first_long ceiling ss ≡ None → AllByRecursion (λ (s : Subtable). Fit ceiling (entries s)) ss
  pub short : (ceiling : ℕ) (ss : List Subtable) → AllByRecursion (λ (s : Subtable). Fit ceiling (entries s)) ss → first_long ceiling ss ≡ None

-- whether an entry is of the set that the run before it ends with; if not, it opens a set
abbrev pub goes_on : List Entry → Entry → Bool
goes_on [] e = false
goes_on (f ∷ []) e = f.set == e.set
goes_on (f ∷ g ∷ fs) e = goes_on (g ∷ fs) e

-- THE RUNNING SIZE: one entry more adds its size, and 4 if it opens a set; no run is smaller than a part of it
pub record Running : Type 0 where
  pub start : run_size [] ≡ 6
  pub grows : (run : List Entry) (e : Entry) → run_size (run ++ e ∷ []) ≡ run_size run + (entry_size e + cond (goes_on run e) 0 4)
  pub front : (xs ys : List Entry) → run_size xs ≤ run_size (xs ++ ys)
  pub back : (xs ys : List Entry) → run_size ys ≤ run_size (xs ++ ys)

-- THE PARTS KEEP THE RULE, and none is empty
abbrev pub Filled : List Entry → Type 0
Filled p = 0 < length p

abbrev pub CutsFollowTheRule : Type 0
CutsFollowTheRule =
    (ceiling : ℕ) (es : List Entry) → Fit ceiling es → CutRule ceiling es (parts ceiling es) × (0 < length es → AllByRecursion Filled (parts ceiling es))

-- and no other parts do
abbrev pub RuleAllowsOnlyThese : Type 0
RuleAllowsOnlyThese = (ceiling : ℕ) (es : List Entry) (ps : List (List Entry)) → CutRule ceiling es ps → ps ≡ parts ceiling es

-- NO CUT just where the ceiling is met
abbrev pub Meets : ℕ → Subtable → Type 0
Meets ceiling s = subtable_size s ≤ ceiling

pub record Uncut : Type 0 where
  -- a cut between each two parts
  pub between : (ceiling : ℕ) (s : Subtable) → length (parts ceiling (entries s)) ≡ suc (length (cuts ceiling s))
  pub one : (ceiling : ℕ) (es : List Entry) → run_size es ≤ ceiling → parts ceiling es ≡ es ∷ []
  pub met : (ceiling : ℕ) (es : List Entry) → Fit ceiling es → parts ceiling es ≡ es ∷ [] → run_size es ≤ ceiling
  pub none : (ceiling : ℕ) (s : Subtable) → Meets ceiling s → cuts ceiling s ≡ []
  pub only : (ceiling : ℕ) (s : Subtable) → Fit ceiling (entries s) → cuts ceiling s ≡ [] → Meets ceiling s
  pub lookup : (ceiling : ℕ) (l : Lookup) → AllByRecursion (Meets ceiling) l.subtables → all_cuts ceiling l ≡ []
  -- and then the lookup stays as it is, and nothing is taken
  pub same : (ceiling : ℕ) (wrote : ℕ → List ℕ) (fresh : ℕ) (l : Lookup) → AllByRecursion (Meets ceiling) l.subtables → split_lookup ceiling wrote fresh l ≡ l
  pub free : (ceiling : ℕ) (m : Model) (l : Lookup) → AllByRecursion (Meets ceiling) l.subtables → split_bill ceiling m l ≡ record { vertices = 0; links = 0; bytes = 0 }

-- A CUT names the ligature that the part behind it begins with, by the index of its set and its place there
pub record Before (c : Cut) (p : List Entry) : Type 0 where
  pub entry : Entry
  pub rest : List Entry
  pub part : p ≡ entry ∷ rest
  pub set : c.set ≡ entry.set
  pub place : c.place ≡ entry.place

-- that ligature of that set of the subtable
pub record Stands (s : Subtable) (e : Entry) : Type 0 where
  pub home : LigatureSet
  pub there : nth s.sets e.set ≡ Some home
  pub owner : e.owner ≡ home.vertex
  pub first : e.first ≡ home.first
  pub ligature : nth home.ligatures e.place ≡ Some e.ligature

pub record Naming (ceiling : ℕ) (s : Subtable) : Type 0 where
  pub cut : (k : ℕ) (d : Cut) → k < length (cuts ceiling s) → Before (slice_index_or (cuts ceiling s) k d) (nth_part (parts ceiling (entries s)) (suc k))
  pub stand : AllByRecursion (Stands s) (entries s)

abbrev pub CutsNameTheirLigatures : Type 0
CutsNameTheirLigatures = (ceiling : ℕ) (s : Subtable) → Naming ceiling s

-- ENTRIES IN ORDER, as a subtable has them: each is the next of its set, or the first of a later set
pub record Continues (e f : Entry) : Type 0 where
  pub set : f.set ≡ e.set
  pub owner : f.owner ≡ e.owner
  pub first : f.first ≡ e.first
  pub place : f.place ≡ suc e.place

pub record Opens (e f : Entry) : Type 0 where
  pub set : e.set < f.set
  pub place : f.place ≡ 0

abbrev pub Leads : Entry → List Entry → Type 0
Leads e [] = Unit {0}
Leads e (f ∷ fs) = Continues e f ⊎ Opens e f

abbrev pub InOrder : List Entry → Type 0
InOrder [] = Unit {0}
InOrder (e ∷ es) = Leads e es × InOrder es

-- A SUBTABLE'S SETS AS GROUPS, numbered from i
abbrev pub groups_from : ℕ → List LigatureSet → List Group
groups_from i [] = []
groups_from i (t ∷ ts) = record { set = i; owner = t.vertex; first = t.first; ligatures = t.ligatures } ∷ groups_from (suc i) ts

-- no set is empty
abbrev pub FilledSets : List LigatureSet → Type 0
FilledSets ts = AllByRecursion (λ (t : LigatureSet). 0 < length t.ligatures) ts

-- a ligature with its first glyph
abbrev pub under : ℕ → Ligature → ℕ × Ligature
under first g = (first, g)

-- GROUPS AND ENTRIES
pub record Grouping : Type 0 where
  -- as many groups as sets touched, none empty
  pub count : (es : List Entry) → length (groups es) ≡ touched es
  pub filled : (es : List Entry) → AllByRecursion (λ (t : Group). 0 < length t.ligatures) (groups es)
  -- the ligatures with their first glyphs, in order
  pub flat : (es : List Entry) → InOrder es → flat_map (λ (t : Group). map (under t.first) t.ligatures) (groups es) ≡ map (λ (e : Entry). under e.first e.ligature) es
  pub order : (s : Subtable) → InOrder (entries s)
  -- the groups of a subtable are its sets
  pub sets : (s : Subtable) → FilledSets s.sets → groups (entries s) ≡ groups_from 0 s.sets

-- WHAT SIZES COUNT: the bytes of a subtable's table, its sets and its ligatures, and not of its coverage
abbrev pub bytes_of : Placed → ℕ
bytes_of p = length p.table.bytes

pub record Sized : Type 0 where
  pub ligature : (c : ℕ) (g : Ligature) → table_length g ≡ bytes_of (ligature_table c g)
  pub subtable : (s : Subtable) → FilledSets s.sets → subtable_size s ≡ sum_by bytes_of (subtable_table s ∷ flat_map (set_walk s.coverage) s.sets)

-- THE GLYPHS OF A PART
abbrev pub covered : List Entry → List ℕ
covered p = map (λ (t : Group). t.first) (groups p)

-- those of neighbouring sets of the subtable, just the ones that the part has ligatures of
pub record Covers (s : Subtable) (p : List Entry) : Type 0 where
  pub before : List LigatureSet
  pub own : List LigatureSet
  pub after : List LigatureSet
  pub sets : s.sets ≡ before ++ (own ++ after)
  pub glyphs : covered p ≡ map (λ (t : LigatureSet). t.first) own
  pub owners : map (λ (t : Group). t.owner) (groups p) ≡ map (λ (t : LigatureSet). t.vertex) own
  pub numbers : map (λ (t : Group). t.set) (groups p) ≡ range_with_len (length before) (length own)
  pub inside : (i : ℕ) → length before ≤ i → i < length before + length own → has i p ≡ true
  pub outside : (i : ℕ) → has i p ≡ true → (length before ≤ i) × (i < length before + length own)

-- the place in its set of the ligature that a part begins with
abbrev pub place : List Entry → ℕ
place [] = 0
place (e ∷ es) = e.place

-- a cut before a set: the glyphs of one part follow those of the other
pub record Whole (p q : List Entry) : Type 0 where
  pub start : place q ≡ 0
  pub glyphs : covered (p ++ q) ≡ covered p ++ covered q

-- a cut inside a set: its glyph is the last of one part and the first of the other
pub record Divided (p q : List Entry) : Type 0 where
  pub front : List ℕ
  pub glyph : ℕ
  pub back : List ℕ
  pub start : 0 < place q
  pub left : covered p ≡ front ++ glyph ∷ []
  pub right : covered q ≡ glyph ∷ back
  pub glyphs : covered (p ++ q) ≡ front ++ glyph ∷ back

abbrev pub among : ℕ → List ℕ → Bool
among g [] = false
among g (x ∷ xs) = x == g || among g xs

abbrev pub InBoth : ℕ → List Entry → List Entry → Type 0
InBoth g p q = (among g (covered p) ≡ true) × (among g (covered q) ≡ true)

-- each part covers its glyphs, and so do two neighbours together, which share at most the glyph of a divided set
pub record Coverage (s : Subtable) (ps : List (List Entry)) : Type 0 where
  pub each : (k : ℕ) → k < length ps → Covers s (nth_part ps k)
  pub two : (k : ℕ) → suc k < length ps → Covers s (nth_part ps k ++ nth_part ps (suc k))
  pub shared : (k : ℕ) → suc k < length ps → Whole (nth_part ps k) (nth_part ps (suc k)) ⊎ Divided (nth_part ps k) (nth_part ps (suc k))
  -- where the subtable's glyphs rise, no two glyphs are in both
  pub once : GlyphList (glyphs_of s) → (k : ℕ) → suc k < length ps → (g h : ℕ) → InBoth g (nth_part ps k) (nth_part ps (suc k)) → InBoth h (nth_part ps k) (nth_part ps (suc k)) → g ≡ h

abbrev pub PartsCoverTheirGlyphs : Type 0
PartsCoverTheirGlyphs = (ceiling : ℕ) (s : Subtable) → Fit ceiling (entries s) → FilledSets s.sets → Coverage s (parts ceiling (entries s))
