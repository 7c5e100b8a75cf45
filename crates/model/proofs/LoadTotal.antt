-- Every list of words has an outcome: of finitely many places the first faulty one is found, or the model is made.
use Rattle.std.proofs.Common.{◌≡◌, ℕ, zero, suc, ◌+◌, ◌<◌, ◌≤◌, ◌⊎◌, List, [], ◌∷◌, ◌++◌, map, length, Some, None, Ok, Err, Option, Result, sym, refl, ap, ◌∙◌, subst, inl, inr, ⊎_elim, arith}
use Rattle.std.specs.List.{ContainsAt as Has, flat_map, range_with_len}
use Rattle.std.proofs.lemmas.List.{length-map}
use Rattle.std.proofs.lemmas.List.FromFn.{length-range_with_len, get_or-range_with_len}
use Rattle.std.proofs.ByRecursion.{has_append_left, has_append_right}
use Rattle.std.proofs.lemmas.List.Sorted.{length_permutation}
use Rattle.refusals.specs.declared.Pool.{Pool}
use Rattle.refusals.specs.declared.Refusal.{Refusal}
use Rattle.refusals.specs.declared.Refusal.TheVariants.{BadWord, NoRoom, BadLink, BadEntry}
use Rattle.words.specs.Grammar.{StreamTable, Stream, Spells}
use Rattle.words.specs.Reading.{links_in, parse}
use Rattle.words.proofs.Whole.{streams_spell_lem, misfits_tell_lem}
use Rattle.coverage.specs.Meaning.{Meant}
use Rattle.model.specs.Forest.{Ligature, LigatureSet, Subtable, Lookup, Model}
use Rattle.model.specs.Tables.{slots_from, Table, head, lookup_table, subtable_table, set_table}
use Rattle.model.specs.Splitting.{Capacities}
use Rattle.model.specs.Rules.{nth}
use Rattle.model.specs.Loading.{slots_of, TableAt, Spelt, taken_by, short_of, Loosely, Never, Place, at_lookup, at_extension, at_subtable, at_coverage, at_set, at_ligature, path, Before, Kind, Stands, root, extension, plain, wrapped, coverage, set, ligature, Faulty, FirstFault, Loads, misfit, short, loose, astray, faulty, accepted}
use Rattle.model.specs.LoadingLaws.{OutcomesStand}
use Rattle.model.proofs.LoadLists.{nth_below}
use Rattle.model.proofs.LoadSame.{has_cases, has_none}
use Rattle.model.proofs.LoadWalk.{compare}
use Rattle.model.proofs.LoadWhole.{links_parted}
use Rattle.model.proofs.LoadSought.{Settled, has_joined, has-map, loose_sought, strays_sought}
use Rattle.model.proofs.LoadShapes.{heads_of, sets_of, ligatures_of}
use Rattle.model.proofs.LoadEach.{faulty_settled}
use Rattle.model.proofs.LoadBuild.{made_model}

-- THE ORDER OF PLACES
before_same : (ps : List ℕ) → Before ps ps → ⊥
before_same [] h = h
before_same (p ∷ ps) h = ⊎_elim (λ l. omega arith) (λ e. before_same ps e.1) h

before_trans : (ps qs rs : List ℕ) → Before ps qs → Before qs rs → Before ps rs
before_trans [] [] rs a b = absurd a
before_trans [] (q ∷ qs) [] a b = absurd b
before_trans [] (q ∷ qs) (r ∷ rs) a b = tt
before_trans (p ∷ ps) [] rs a b = absurd a
before_trans (p ∷ ps) (q ∷ qs) [] a b = absurd b
before_trans (p ∷ ps) (q ∷ qs) (r ∷ rs) a b =
    ⊎_elim
    (λ l. ⊎_elim (λ m. inl (omega arith)) (λ e. let z = e.0 in inl (omega arith)) b)
    (λ d. let w = d.0 in ⊎_elim (λ m. inl (omega arith)) (λ e. let z = e.0 in inr (w ∙ z, before_trans ps qs rs d.1 e.1)) b)
    a

module _ (F : Place → Type 0) (settle : (p : Place) → Settled (F p)) where
  -- of a list of places the first with F
  record Least (ps : List Place) : Type 0 where
    place : Place
    holds : F place
    first : (q : Place) → Has ps q → F q → Before (path q) (path place) → ⊥

  least : (ps : List Place) → Least ps ⊎ ((q : Place) → Has ps q → F q → ⊥)
  least [] = inr (λ q h f. has_none q h)
  least (p ∷ ps) =
      ⊎_elim
      (λ (a : Least ps). ⊎_elim
      (λ f. ⊎_elim
      (λ b. inl (here f (λ q h g c. a.first q h g (before_trans (path q) (path p) (path a.place) c b))))
      (λ o. inl (there a (λ g c. ⊎_elim (λ d. before_same (path p) (before_trans (path p) (path a.place) (path p) c d)) (λ e. before_same (path p) (subst (λ z. Before (path p) z) (sym e) c)) o)))
      (compare (path p) (path a.place)))
      (λ n. inl (there a (λ g c. n g)))
      (settle p))
      (λ m. ⊎_elim
      (λ f. inl (here f (λ q h g c. m q h g)))
      (λ n. inr (λ q h g. ⊎_elim (λ e. n (subst F (sym e) g)) (λ i. m q i g) (has_cases p ps q h)))
      (settle p))
      (least ps)
    where
      here : F p → ((q : Place) → Has ps q → F q → Before (path q) (path p) → ⊥) → Least (p ∷ ps)
      here f h = record { place = p; holds = f; first = λ q i g c. ⊎_elim (λ e. before_same (path p) (subst (λ z. Before (path z) (path p)) (sym e) c)) (λ j. h q j g c) (has_cases p ps q i) }

      there : (a : Least ps) → (F p → Before (path p) (path a.place) → ⊥) → Least (p ∷ ps)
      there a h =
          record { place = a.place; holds = a.holds; first = λ q i g c. ⊎_elim (λ e. h (subst F (sym e) g) (subst (λ z. Before (path z) (path a.place)) (sym e) c)) (λ j. a.first q j g c) (has_cases p ps q i) }

-- ALL PLACES WITH NUMBERS BELOW A BOUND
abbrev Within : ℕ → Place → Type 0
Within b (at_lookup i) = i < b
Within b (at_extension i j) = (i < b) × (j < b)
Within b (at_subtable i j) = (i < b) × (j < b)
Within b (at_coverage i j) = (i < b) × (j < b)
Within b (at_set i j k) = (i < b) × (j < b) × (k < b)
Within b (at_ligature i j k n) = (i < b) × (j < b) × (k < b) × (n < b)

module _ (b : ℕ) where
  abbrev numbers : List ℕ
  numbers = range_with_len 0 b

  has_number : (i : ℕ) → i < b → Has numbers i
  has_number i l = (i, subst (λ n. i < n) (sym (length-range_with_len 0 b)) l, λ d. get_or-range_with_len 0 b i d l ∙ (let z : 0 + i ≡ i = omega arith in z))

  abbrev ones : (ℕ → Place) → List Place
  ones f = map f numbers

  abbrev twos : (ℕ → ℕ → Place) → List Place
  twos f = flat_map (λ i. ones (f i)) numbers

  abbrev threes : (ℕ → ℕ → ℕ → Place) → List Place
  threes f = flat_map (λ i. twos (f i)) numbers

  abbrev fours : (ℕ → ℕ → ℕ → ℕ → Place) → List Place
  fours f = flat_map (λ i. threes (f i)) numbers

  in_ones : (f : ℕ → Place) (i : ℕ) → i < b → Has (ones f) (f i)
  in_ones f i l = has-map f numbers i (has_number i l)

  in_twos : (f : ℕ → ℕ → Place) (i j : ℕ) → i < b → j < b → Has (twos f) (f i j)
  in_twos f i j l m = has_joined (λ k. ones (f k)) numbers i (f i j) (has_number i l) (in_ones (f i) j m)

  in_threes : (f : ℕ → ℕ → ℕ → Place) (i j k : ℕ) → i < b → j < b → k < b → Has (threes f) (f i j k)
  in_threes f i j k l m n = has_joined (λ h. twos (f h)) numbers i (f i j k) (has_number i l) (in_twos (f i) j k m n)

  in_fours : (f : ℕ → ℕ → ℕ → ℕ → Place) (i j k h : ℕ) → i < b → j < b → k < b → h < b → Has (fours f) (f i j k h)
  in_fours f i j k h l m n o = has_joined (λ g. threes (f g)) numbers i (f i j k h) (has_number i l) (in_threes (f i) j k h m n o)

  abbrev places : List Place
  places = ones at_lookup ++ (twos at_extension ++ (twos at_subtable ++ (twos at_coverage ++ (threes at_set ++ fours at_ligature))))

  in_places : (p : Place) → Within b p → Has places p
  in_places (at_lookup i) w = has_append_left (ones at_lookup) (twos at_extension ++ (twos at_subtable ++ (twos at_coverage ++ (threes at_set ++ fours at_ligature)))) (at_lookup i) (in_ones at_lookup i w)
  in_places (at_extension i j) w =
      has_append_right (ones at_lookup) (twos at_extension ++ (twos at_subtable ++ (twos at_coverage ++ (threes at_set ++ fours at_ligature)))) (at_extension i j)
      (has_append_left (twos at_extension) (twos at_subtable ++ (twos at_coverage ++ (threes at_set ++ fours at_ligature))) (at_extension i j) (in_twos at_extension i j w.0 w.1))
  in_places (at_subtable i j) w =
      has_append_right (ones at_lookup) (twos at_extension ++ (twos at_subtable ++ (twos at_coverage ++ (threes at_set ++ fours at_ligature)))) (at_subtable i j)
      (has_append_right (twos at_extension) (twos at_subtable ++ (twos at_coverage ++ (threes at_set ++ fours at_ligature))) (at_subtable i j)
      (has_append_left (twos at_subtable) (twos at_coverage ++ (threes at_set ++ fours at_ligature)) (at_subtable i j) (in_twos at_subtable i j w.0 w.1)))
  in_places (at_coverage i j) w =
      has_append_right (ones at_lookup) (twos at_extension ++ (twos at_subtable ++ (twos at_coverage ++ (threes at_set ++ fours at_ligature)))) (at_coverage i j)
      (has_append_right (twos at_extension) (twos at_subtable ++ (twos at_coverage ++ (threes at_set ++ fours at_ligature))) (at_coverage i j)
      (has_append_right (twos at_subtable) (twos at_coverage ++ (threes at_set ++ fours at_ligature)) (at_coverage i j)
      (has_append_left (twos at_coverage) (threes at_set ++ fours at_ligature) (at_coverage i j) (in_twos at_coverage i j w.0 w.1))))
  in_places (at_set i j k) w =
      has_append_right (ones at_lookup) (twos at_extension ++ (twos at_subtable ++ (twos at_coverage ++ (threes at_set ++ fours at_ligature)))) (at_set i j k)
      (has_append_right (twos at_extension) (twos at_subtable ++ (twos at_coverage ++ (threes at_set ++ fours at_ligature))) (at_set i j k)
      (has_append_right (twos at_subtable) (twos at_coverage ++ (threes at_set ++ fours at_ligature)) (at_set i j k)
      (has_append_right (twos at_coverage) (threes at_set ++ fours at_ligature) (at_set i j k)
      (has_append_left (threes at_set) (fours at_ligature) (at_set i j k) (in_threes at_set i j k w.0 w.1 w.2)))))
  in_places (at_ligature i j k n) w =
      has_append_right (ones at_lookup) (twos at_extension ++ (twos at_subtable ++ (twos at_coverage ++ (threes at_set ++ fours at_ligature)))) (at_ligature i j k n)
      (has_append_right (twos at_extension) (twos at_subtable ++ (twos at_coverage ++ (threes at_set ++ fours at_ligature))) (at_ligature i j k n)
      (has_append_right (twos at_subtable) (twos at_coverage ++ (threes at_set ++ fours at_ligature)) (at_ligature i j k n)
      (has_append_right (twos at_coverage) (threes at_set ++ fours at_ligature) (at_ligature i j k n)
      (has_append_right (threes at_set) (fours at_ligature) (at_ligature i j k n) (in_fours at_ligature i j k n w.0 w.1 w.2 w.3)))))

-- WHAT STANDS IS WITHIN: no number reaches the number of roots and links
links_least : (ts : List StreamTable) (v : ℕ) (t : StreamTable) → nth ts v ≡ Some t → length t.links ≤ links_in ts
links_least [] v t e = cc
links_least (u ∷ ts) zero t e = let z : length u.links ≡ length t.links = ap (λ o. count o) e in omega arith
  where
    count : Option StreamTable → ℕ
    count None = 0
    count (Some x) = length x.links
links_least (u ∷ ts) (suc v) t e = let r = links_least ts v t e in omega arith

slots_length : (p : ℕ) (us : List ℕ) → length (slots_from p us) ≡ length us
slots_length p [] = refl
slots_length p (u ∷ us) = ap suc (slots_length (p + 2) us)

module _ (s : Stream) where
  abbrev bound : ℕ
  bound = length s.roots + links_in s.tables

  slots_within : (v : ℕ) (t : StreamTable) (a : Table) → TableAt s v t → Spelt t a → length a.slots ≤ links_in s.tables
  slots_within v t a e h =
      let b = length_permutation a.slots (slots_of t.links) h.slots in
      let c = links_parted t.links in
      let d = links_least s.tables v t e in
      omega arith

  in_lookup : (v : ℕ) (t : StreamTable) (l : Lookup) (j : ℕ) (x : Subtable) → TableAt s v t → Spelt t (lookup_table l).table → nth l.subtables j ≡ Some x → j < bound
  in_lookup v t l j x e h i =
      let a = nth_below l.subtables j x i in
      let b = slots_within v t (lookup_table l).table e h in
      let c = slots_length 6 (heads_of l) in
      let d = length-map l.subtables (λ (y : Subtable). head y) in
      omega arith

  in_subtable : (v : ℕ) (t : StreamTable) (x : Subtable) (k : ℕ) (y : LigatureSet) → TableAt s v t → Spelt t (subtable_table x).table → nth x.sets k ≡ Some y → k < bound
  in_subtable v t x k y e h i =
      let a = nth_below x.sets k y i in
      let b = slots_within v t (subtable_table x).table e h in
      let c = slots_length 6 (sets_of x) in
      let d = length-map x.sets (λ (z : LigatureSet). z.vertex) in
      omega arith

  in_set : (v : ℕ) (t : StreamTable) (y : LigatureSet) (n : ℕ) (g : Ligature) → TableAt s v t → Spelt t (set_table 0 y).table → nth y.ligatures n ≡ Some g → n < bound
  in_set v t y n g e h i =
      let a = nth_below y.ligatures n g i in
      let b = slots_within v t (set_table 0 y).table e h in
      let c = slots_length 2 (ligatures_of y) in
      let d = length-map y.ligatures (λ (z : Ligature). z.vertex) in
      omega arith

  within : {p : Place} {k : Kind} {v : ℕ} → Stands s p k v → Within bound p
  within (root i v e) = let l = nth_below s.roots i v e in omega arith
  within (extension i j v t l x a b c d e) = (within a, in_lookup v t l j x b c.table e)
  within (plain i j v t l x a b c d e) = (within a, in_lookup v t l j x b c.table e)
  within (wrapped i j e t v a b c) = within a
  within (coverage i j v t x a b c) = within a
  within (set i j k v t x y a b c d) = let w = within a in (w.0, w.1, in_subtable v t x k y b c d)
  within (ligature i j k n c v t y g a b d e) = let w = within a in (w.0, w.1, w.2, in_set v t y n g b d e)

-- THE FIRST FAULT, OR NONE
module _ (meaning : List ℕ → Option Meant) where
  fault_sought : (s : Stream) → Never (Loosely s) → ((r : Refusal) × FirstFault meaning s r) ⊎ ((p : Place) (r : Refusal) → Faulty meaning s p r → ⊥)
  fault_sought s tight =
      ⊎_elim
      (λ (a : Least F settle (places (bound s))). inl (a.holds.0, record { place = a.place; faulty = a.holds.1; first = λ p q b f. a.first p (there p q f) (q, f) b }))
      (λ n. inr (λ p r f. n p (there p r f) (r, f)))
      (least F settle (places (bound s)))
    where
      F : Place → Type 0
      F p = (r : Refusal) × Faulty meaning s p r

      settle : (p : Place) → Settled ((r : Refusal) × Faulty meaning s p r)
      settle p = ⊎_elim (λ f. inl f) (λ n. inr (λ f. n f.0 f.1)) (faulty_settled meaning s tight p)

      there : (p : Place) (r : Refusal) → Faulty meaning s p r → Has (places (bound s)) p
      there p r f = in_places (bound s) p (within s f.stands)

  -- AN OUTCOME
  module _ (caps : Capacities) (ws : List ℕ) where
    abbrev Outcome : Type 0
    Outcome = (r : Result Model Refusal) × Loads meaning caps ws r

    unstrayed : (s : Stream) → Spells ws s → short_of caps (taken_by s) ≡ None → Never (Loosely s) → Outcome
    unstrayed s h e tight =
        ⊎_elim
        (λ a. (Err (BadEntry a.0), astray s a.0 h e tight a.1))
        (λ strays. ⊎_elim
        (λ f. (Err f.0, faulty s f.0 h e tight strays f.1))
        (λ clear. let m = made_model meaning s h.fine.uncounted tight clear strays in (Ok m.0, accepted s m.0 h e m.1))
        (fault_sought s tight))
        (strays_sought s h.fine.uncounted.roots tight)

    roomy : (s : Stream) → Spells ws s → (o : Option Pool) → short_of caps (taken_by s) ≡ o → Outcome
    roomy s h (Some p) e = (Err (NoRoom p), short s p h e)
    roomy s h None e = ⊎_elim (λ a. (Err (BadLink a.0), loose s a.0 h e a.1)) (λ tight. unstrayed s h e tight) (loose_sought s)

    from : (x : Result Stream ℕ) → parse ws ≡ x → Outcome
    from (Err i) e = (Err (BadWord i), misfit i ((misfits_tell_lem ws i).0 e))
    from (Ok s) e = let h = (streams_spell_lem ws s).0 e in roomy s h (short_of caps (taken_by s)) refl

    pub outcome : (r : Result Model Refusal) × Loads meaning caps ws r
    outcome = from (parse ws) refl

pub outcomes_stand_lem : (meaning : List ℕ → Option Meant) → OutcomesStand meaning
outcomes_stand_lem meaning caps ws = outcome meaning caps ws
