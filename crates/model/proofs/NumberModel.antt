-- Numbers of a whole model when one lookup takes the place of another: what a good model gives, and what more vertices keep.
use Rattle.std.proofs.Common.{◌≡◌, ℕ, zero, suc, ◌+◌, ◌<◌, ◌≤◌, List, ◌∷◌, map, length, Some, Option, refl, ⊎_elim, arith}
use Rattle.std.specs.List.{flat_map, AllByRecursion}
use Rattle.std.proofs.lemmas.List.{length-map}
use Rattle.std.proofs.ByRecursion.{All-weaker, All-map}
use Rattle.std.proofs.lemmas.Bool.{cases_lt}
use Rattle.coverage.specs.Meaning.{Meant}
use Rattle.model.specs.Forest.{LigatureSet, Subtable, Lookup, Model}
use Rattle.model.specs.Tables.{Placed, subtable_table, coverage_table, set_walk, extension_walk, subtable_walk, lookup_walk, vertex_of, count_of}
use Rattle.model.specs.Rules.{nth}
use Rattle.model.specs.Sound.{GoodSet, GoodSubtable, GoodLookup, Good, Distinct, Lawful, glyphs_of}
use Rattle.model.specs.NumberingLaws.{up_from, Short}
use Rattle.model.proofs.Lists.{all_back, joined_all, all_mapped, all-nth, distinct_count, count_distinct}
use Rattle.model.proofs.NumberSums.{tally, tally_up, one, below_counts, counts_below, up_before, up_once, up_behind, tally_up_each}
use Rattle.model.proofs.NumberEntries.{SomeLigatures}
use Rattle.model.proofs.NumberWeights.{SomeSets}
use Rattle.model.proofs.NumberWalks.{walk_length, walk_count}
use Rattle.model.proofs.NumberOrder.{OldSets}

-- WHAT A GOOD MODEL GIVES
module _ (meaning : List ℕ → Option Meant) (m : Model) (n : ℕ) (l : Lookup) (was : nth m.lookups n ≡ Some l) (g : Good meaning m) where
  pub good_lookup : GoodLookup meaning l
  good_lookup = all-nth (GoodLookup meaning) m.lookups n l was g.lookups

  pub good_sets : AllByRecursion SomeSets l.subtables
  good_sets =
      All-weaker (GoodSubtable meaning) SomeSets (λ s h. All-weaker GoodSet SomeLigatures (λ t k. k.some) s.sets h.sets) l.subtables good_lookup.subtables

  abbrev Below : Placed → Type 0
  Below p = p.vertex < m.taken.vertices

  below_sets : (s : Subtable) → AllByRecursion Below (subtable_walk s) → OldSets m.taken.vertices s
  below_sets s h =
      let rest = all_back Below (extension_walk s.extension s.vertex) (subtable_table s ∷ coverage_table s ∷ flat_map (set_walk s.coverage) s.sets) h in
      All-weaker (λ (t : LigatureSet). AllByRecursion Below (set_walk s.coverage t)) (λ (t : LigatureSet). t.vertex < m.taken.vertices) (λ t k. k.0) s.sets
      (joined_all Below (set_walk s.coverage) s.sets rest.1.1)

  pub old_sets : AllByRecursion (OldSets m.taken.vertices) l.subtables
  old_sets =
      let walks = all-nth (λ (x : Lookup). AllByRecursion Below (lookup_walk x)) m.lookups n l was (joined_all Below lookup_walk m.lookups g.below) in
      All-weaker (λ (s : Subtable). AllByRecursion Below (subtable_walk s)) (OldSets m.taken.vertices) below_sets l.subtables (joined_all Below subtable_walk l.subtables walks.1)

-- the coverages of a good lookup are short, under a lawful codec
pub good_short : (admits : List ℕ → Type 0) (meaning : List ℕ → Option Meant) (span : List ℕ → ℕ) → Lawful admits meaning span → (ss : List Subtable) → AllByRecursion (GoodSubtable meaning) ss → AllByRecursion Short ss
good_short admits meaning span law ss h =
    All-weaker (GoodSubtable meaning) Short
    (λ s k.
    let a = law.short s.covering (glyphs_of s) (length s.covering) k.means in
    let b = length-map s.sets (λ (t : LigatureSet). t.first) in
    omega arith)
    ss h

-- MORE VERTICES
pub up_counts : (v k n : ℕ) → count_of v (up_from k n) ≡ tally_up (one v) k n
up_counts v k zero = refl
up_counts v k (suc n) = omega (arith, up_counts v (suc k) n)

-- some tables more, with the next free numbers
module _ (before after : List Placed) (first more : ℕ) (d : Distinct (map vertex_of before)) (b : AllByRecursion (λ (p : Placed). p.vertex < first) before)
    (grown : (w : ℕ → ℕ) → tally (λ (p : Placed). w p.vertex) after ≡ tally (λ (p : Placed). w p.vertex) before + tally_up w first more) where
  pub grown_length : length after ≡ length before + more
  grown_length =
      let a = grown (λ v. 1) in
      let x = walk_length after in
      let y = walk_length before in
      let z = tally_up_each 1 first more in
      omega arith

  pub grown_count : (v : ℕ) → count_of v (map vertex_of after) ≡ count_of v (map vertex_of before) + count_of v (up_from first more)
  grown_count v =
      let a = grown (one v) in
      let x = walk_count v after in
      let y = walk_count v before in
      let z = up_counts v first more in
      omega arith

  old_below : (v : ℕ) → first ≤ v → count_of v (map vertex_of before) ≡ 0
  old_below v l = below_counts first (map vertex_of before) (All-map (λ x. x < first) vertex_of before b) v l

  pub grown_distinct : Distinct (map vertex_of after)
  grown_distinct =
      count_distinct (map vertex_of after)
      (λ v.
      let a = grown_count v in
      let z = up_counts v first more in
      ⊎_elim
      (λ (lt : v < first).
      let x = distinct_count (map vertex_of before) d v in
      let y = up_before v first more lt in
      omega arith)
      (λ (ge : first ≤ v).
      let x = old_below v ge in
      let y = up_once v first more in
      omega arith)
      (cases_lt v first))

  pub grown_below : AllByRecursion (λ (p : Placed). p.vertex < first + more) after
  grown_below =
      all_mapped (λ x. x < first + more) vertex_of after
      (counts_below (first + more) (map vertex_of after)
      (λ v l.
      let a = grown_count v in
      let z = up_counts v first more in
      let x = old_below v (omega arith) in
      let y = up_behind v first more l in
      omega arith))
