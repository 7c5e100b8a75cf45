-- The tables of a loaded model are those of its stream, vertex by vertex, and their link rows are what was laid.
use Rattle.std.proofs.Common.{◌≡◌, ℕ, suc, ◌+◌, List, [], ◌∷◌, map, length, Some, None, Option, sym, refl, ap, ◌∙◌, subst, arith}
use Rattle.std.specs.List.{flat_map, AllByRecursion, range_with_len}
use Rattle.std.specs.List.Sorted.{IsPermutation}
use Rattle.std.proofs.lemmas.List.Sorted.{IsPermutation-sym}
use Rattle.std.proofs.ByRecursion.{has_shuffled, All-append}
use Rattle.words.specs.Grammar.{StreamTable, Stream}
use Rattle.coverage.specs.Meaning.{Meant}
use Rattle.model.specs.Forest.{Ligature, LigatureSet, Subtable, Lookup, Model}
use Rattle.model.specs.Tables.{Table, Placed, head, subtable_table, coverage_table, ligature_table, set_walk, extension_walk, subtable_walk, lookup_walk, model_walk}
use Rattle.model.specs.Rules.{nth}
use Rattle.model.specs.Loading.{slots_of, TableAt, Loaded, table_in}
use Rattle.model.proofs.Lists.{all-nth}
use Rattle.model.proofs.LoadSame.{Up, up_from, rising_same}
use Rattle.model.proofs.LoadFull.{held, size}
use Rattle.model.proofs.LoadBack.{found}
use Rattle.graph.specs.Filling.{table_for}
use Rattle.graph.specs.Holding.{tables_of}

-- SLOTS RISE in every table of a model
abbrev Rises : Placed → Type 0
Rises p = Up 0 p.table.slots

all_each : {X Y : Type 0} (P : Y → Type 0) (f : X → List Y) → ((x : X) → AllByRecursion P (f x)) → (xs : List X) → AllByRecursion P (flat_map f xs)
all_each P f h [] = tt
all_each P f h (x ∷ xs) = All-append P (f x) (flat_map f xs) (h x) (all_each P f h xs)

ligatures_rise : (c : ℕ) (gs : List Ligature) → AllByRecursion Rises (map (ligature_table c) gs)
ligatures_rise c [] = tt
ligatures_rise c (g ∷ gs) = (tt, ligatures_rise c gs)

set_rises : (c : ℕ) (y : LigatureSet) → AllByRecursion Rises (set_walk c y)
set_rises c y = (up_from 2 0 (map (λ (g : Ligature). g.vertex) y.ligatures) (omega arith), ligatures_rise c y.ligatures)

extension_rises : (o : Option ℕ) (v : ℕ) → AllByRecursion Rises (extension_walk o v)
extension_rises None v = tt
extension_rises (Some e) v = ((omega arith, tt), tt)

subtable_rises : (x : Subtable) → AllByRecursion Rises (subtable_walk x)
subtable_rises x =
    All-append Rises (extension_walk x.extension x.vertex) (subtable_table x ∷ coverage_table x ∷ flat_map (set_walk x.coverage) x.sets)
    (extension_rises x.extension x.vertex)
    ((omega arith, up_from 6 3 (map (λ (y : LigatureSet). y.vertex) x.sets) (omega arith)), (tt, all_each Rises (set_walk x.coverage) (set_rises x.coverage) x.sets))

lookup_rises : (l : Lookup) → AllByRecursion Rises (lookup_walk l)
lookup_rises l = (up_from 6 0 (map (λ (x : Subtable). head x) l.subtables) (omega arith), all_each Rises subtable_walk subtable_rises l.subtables)

walk_rises : (m : Model) → AllByRecursion Rises (model_walk m)
walk_rises m = all_each Rises lookup_walk lookup_rises m.lookups

-- TABLES ALONG A LIST
tables_along : (f : ℕ → Table) (ts : List StreamTable) (a : ℕ) → ((k : ℕ) (t : StreamTable) → nth ts k ≡ Some t → f (a + k) ≡ table_for t) → map f (range_with_len a (length ts)) ≡ map table_for ts
tables_along f [] a h = refl
tables_along f (t ∷ ts) a h =
    let z : a + 0 ≡ a = omega arith in
    ap (λ x. x ∷ map f (range_with_len (a + 1) (length ts))) (sym (ap f z) ∙ h 0 t refl)
    ∙ ap (λ xs. table_for t ∷ xs) (tables_along f ts (a + 1) (λ k u e. let w : a + 1 + k ≡ a + suc k = omega arith in ap f w ∙ h (suc k) u e))

module _ (meaning : List ℕ → Option Meant) (s : Stream) (m : Model) (h : Loaded meaning s m)
    (rising : (v : ℕ) (t : StreamTable) → TableAt s v t → Up 0 (table_for t).slots)
    (shuffled : (v : ℕ) (t : StreamTable) → TableAt s v t → IsPermutation (table_for t).slots (slots_of t.links)) where
  pub table_is : (v : ℕ) (t : StreamTable) → TableAt s v t → table_in (model_walk m) v ≡ table_for t
  table_is v t e =
      let d = held meaning s m h v t e in
      let p = d.placed in
      let there : table_in (model_walk m) v ≡ p.table =
      subst (λ w. table_in (model_walk m) w ≡ p.table) d.vertex (all-nth (λ (q : Placed). table_in (model_walk m) q.vertex ≡ q.table) (model_walk m) d.index p d.there (found (model_walk m) h.good.distinct)) in
      let up = all-nth Rises (model_walk m) d.index p d.there (walk_rises m) in
      let slots : p.table.slots ≡ (table_for t).slots =
      rising_same 0 0 p.table.slots (table_for t).slots up (rising v t e)
      (λ l i. has_shuffled (slots_of t.links) (table_for t).slots l (IsPermutation-sym (table_for t).slots (slots_of t.links) (shuffled v t e)) (has_shuffled p.table.slots (slots_of t.links) l d.spelt.slots i))
      (λ l i. has_shuffled (slots_of t.links) p.table.slots l (IsPermutation-sym p.table.slots (slots_of t.links) d.spelt.slots) (has_shuffled (table_for t).slots (slots_of t.links) l (shuffled v t e) i)) in
      there ∙ (λ i. record { bytes = sym d.spelt.bytes i; slots = slots i; virtuals = sym d.virtuals i })

  pub tables_are : tables_of m ≡ map table_for s.tables
  tables_are =
      ap (λ n. map (table_in (model_walk m)) (range_with_len 0 n)) (size meaning s m h)
      ∙ tables_along (table_in (model_walk m)) s.tables 0 (λ k t e. let z : 0 + k ≡ k = omega arith in ap (table_in (model_walk m)) z ∙ table_is k t e)
