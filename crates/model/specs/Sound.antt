-- Well-formed models, under a codec's meaning: what load shows of a graph, and what every call keeps.
use Rattle.std.specs.Prelude.{◌≡◌, ℕ, suc, ◌+◌, ◌*◌, ◌%◌, ◌<◌, ◌≤◌, true, false, cond, List, [], ◌∷◌, ◌++◌, map, length, take, is_some, IfSome, Some, sum_by, Option, ◌==◌}
use Rattle.std.specs.List.{AllByRecursion}
use Rattle.data_bytes.specs.BigEndian.{Bytes}
use Rattle.coverage.specs.Glyphs.{GlyphList}
use Rattle.coverage.specs.Meaning.{Meant}
use Rattle.model.specs.Forest.{Ligature, LigatureSet, Subtable, Lookup, Model}
use Rattle.model.specs.Tables.{Placed, model_walk, vertex_of, count_of, links_of}
use Rattle.model.specs.Reading.{has_mark}
use Rattle.model.specs.Splitting.{subtable_limit}

abbrev pub Value : ℕ → Type 0
Value v = v < 65536

pub record GoodLigature (g : Ligature) : Type 0 where
  pub glyph : Value g.glyph
  pub count : Value (suc (length g.components))
  pub components : AllByRecursion Value g.components

-- a set has ligatures
pub record GoodSet (t : LigatureSet) : Type 0 where
  pub some : 0 < length t.ligatures
  pub count : Value (length t.ligatures)
  pub ligatures : AllByRecursion GoodLigature t.ligatures

-- no number twice
abbrev pub Distinct : List ℕ → Type 0
Distinct [] = Unit {0}
Distinct (v ∷ vs) = (count_of v vs ≡ 0) × Distinct vs

abbrev pub glyphs_of : Subtable → List ℕ
glyphs_of s = map (λ (t : LigatureSet). t.first) s.sets

-- the laws of a coverage codec, by what it admits, means and tells as sizes
pub record Lawful (admits : List ℕ → Type 0) (meaning : List ℕ → Option Meant) (span : List ℕ → ℕ) : Type 0 where
  pub front : (bs gs more : List ℕ) (e : ℕ) → meaning bs ≡ Some (gs, e) → meaning (take e bs ++ more) ≡ Some (gs, e)
  pub within : (bs gs : List ℕ) (e : ℕ) → meaning bs ≡ Some (gs, e) → e ≤ length bs
  pub even : (bs gs : List ℕ) (e : ℕ) → meaning bs ≡ Some (gs, e) → e % 2 ≡ 0
  pub short : (bs gs : List ℕ) (e : ℕ) → meaning bs ≡ Some (gs, e) → e ≤ 4 + 6 * length gs
  pub sound : (bs gs : List ℕ) (e : ℕ) → meaning bs ≡ Some (gs, e) → admits gs
  pub listed : (gs : List ℕ) → admits gs → GlyphList gs
  pub parts : (xs ys zs : List ℕ) → 0 < length ys → admits (xs ++ (ys ++ zs)) → admits ys
  pub spans : (gs : List ℕ) → admits gs → (span gs % 2 ≡ 0) × (span gs ≤ 4 + 6 * length gs)

module _ (meaning : List ℕ → Option Meant) where
  -- what a lawful codec wrote for a subtable's coverage: bytes that mean its glyphs, as many as the size told
  pub record WroteWell (span : List ℕ → ℕ) (wrote : ℕ → List ℕ) (s : Subtable) : Type 0 where
    pub bytes : Bytes (wrote s.coverage)
    pub long : length (wrote s.coverage) ≡ span (glyphs_of s)
    pub means : meaning (wrote s.coverage) ≡ Some (glyphs_of s, length (wrote s.coverage))

  -- the coverage's bytes mean the first glyphs of the sets, and end where that ends
  pub record GoodSubtable (s : Subtable) : Type 0 where
    pub some : 0 < length s.sets
    pub sets : AllByRecursion GoodSet s.sets
    pub bytes : Bytes s.covering
    pub means : meaning s.covering ≡ Some (glyphs_of s, length s.covering)

  -- extension tables just where the type is 7; a mark filtering set just where the flag asks for one
  pub record GoodLookup (l : Lookup) : Type 0 where
    pub kind : cond (l.kind == 7) (AllByRecursion (λ (s : Subtable). is_some s.extension ≡ true) l.subtables) ((l.kind ≡ 4) × AllByRecursion (λ (s : Subtable). is_some s.extension ≡ false) l.subtables)
    pub flag : Value l.flag
    pub asks : is_some l.mark ≡ has_mark l.flag
    pub mark : IfSome l.mark Value
    pub count : length l.subtables ≤ subtable_limit
    pub subtables : AllByRecursion GoodSubtable l.subtables

  -- each vertex in use stands at one place; the pools are taken as far as the tables go, bytes perhaps further
  pub record Good (m : Model) : Type 0 where
    pub lookups : AllByRecursion GoodLookup m.lookups
    pub distinct : Distinct (map vertex_of (model_walk m))
    pub below : AllByRecursion (λ (p : Placed). p.vertex < m.taken.vertices) (model_walk m)
    pub vertices : length (model_walk m) ≡ m.taken.vertices
    pub links : sum_by links_of (model_walk m) ≡ m.taken.links
    pub room : sum_by (λ (p : Placed). length p.table.bytes) (model_walk m) ≤ m.taken.bytes
