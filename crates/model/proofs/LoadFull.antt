-- In a stream that is a model's tables every link is in place, and every vertex is entered once and reached.
use Rattle.std.proofs.Common.{◌≡◌, ℕ, zero, suc, ◌+◌, ◌<◌, ◌≤◌, Bool, cond, eqb, List, [], ◌∷◌, ◌++◌, map, length, Some, None, sum_by, count_by, Option, sym, refl, ap, ◌∙◌, subst, ⊎_elim, arith, get_or}
use Rattle.std.specs.List.{ContainsAt as Has, flat_map, AllByRecursion, range_with_len}
use Rattle.std.proofs.lemmas.List.{map-append, length-map}
use Rattle.std.proofs.lemmas.List.Sums.{sum_by-cons, sum_by-append, sum_by-le}
use Rattle.std.proofs.ByRecursion.{All-append, All-map, All-weaker, all-has, all_has_itself, all_shuffled, has_shuffled}
use Rattle.std.proofs.lemmas.List.Sorted.{sum_by-IsPermutation}
use Rattle.std.proofs.lemmas.Bool.{cases_eq, cases_lt}
use Rattle.std.proofs.lemmas.Option.{same_Some}
use Rattle.std.proofs.lemmas.List.FromFn.{length-range_with_len}
use Rattle.words.specs.Grammar.{StreamTable, Stream}
use Rattle.coverage.specs.Meaning.{Meant}
use Rattle.model.specs.Forest.{Ligature, LigatureSet, Subtable, Lookup, Taken, Model}
use Rattle.model.specs.Tables.{Slot, slots_from, Table, Placed, head, head_or, lookup_table, extension_table, subtable_table, coverage_table, set_table, ligature_table, set_walk, extension_walk, subtable_walk, lookup_walk, model_walk, vertex_of, count_of}
use Rattle.model.specs.Rules.{nth}
use Rattle.model.specs.Sound.{Distinct}
use Rattle.model.specs.Loading.{slots_of, virtuals_of, bytes_of, TableAt, Spelt, Loose, nowhere, nowhere_virtual, beyond, shared, Loosely, named, entered, Reached, root, onward, Astray, root_entered, entered_twice, named_twice, unreached, Strays, Never, Holds, Loaded, table_in}
use Rattle.model.proofs.Lists.{all_parts_lem, all-nth, count_append, distinct_count, one, one_same, one_other}
use Rattle.model.proofs.LoadLists.{count_cons, nth_below, nth_there, sum_one, sum_zero}
use Rattle.model.proofs.LoadSame.{targets_from}
use Rattle.model.proofs.LoadBack.{SoundSlot, Sound, SoundAt, found, tally, at_position}
use Rattle.model.proofs.NumberSums.{tally_sum, tally_plus}

-- ALL NUMBERS BELOW n, EACH ONCE
pub sum_add : (f g : ℕ → ℕ) (a n : ℕ) → sum_by (λ v. f v + g v) (range_with_len a n) ≡ sum_by f (range_with_len a n) + sum_by g (range_with_len a n)
sum_add f g a n =
    let t = tally_plus f g (range_with_len a n) in
    let x = tally_sum (λ v. f v + g v) (range_with_len a n) in
    let y = tally_sum f (range_with_len a n) in
    let z = tally_sum g (range_with_len a n) in
    omega arith

-- each at most one, and one of them none
sum_gap : (f : ℕ → ℕ) (a n u : ℕ) → ((v : ℕ) → f v ≤ 1) → a ≤ u → u < a + n → f u ≡ 0 → sum_by f (range_with_len a n) < n
sum_gap f a zero u h l k e = absurd (omega arith)
sum_gap f a (suc n) u h l k e =
    let most = sum_by-le f 1 (range_with_len (a + 1) n) (λ i d j. h (get_or (range_with_len (a + 1) n) i d)) in
    let many = length-range_with_len (a + 1) n in
    grind (arith, cases_eq a u, sum_by-cons f a (range_with_len (a + 1) n), h a, sum_gap f (a + 1) n u h)

pub counted_all : (n : ℕ) (vs : List ℕ) → AllByRecursion (λ v. v < n) vs → sum_by (λ v. count_of v vs) (range_with_len 0 n) ≡ length vs
counted_all n [] h = sum_zero (λ v. 0) 0 n (λ v. refl)
counted_all n (u ∷ vs) h =
    let a = sum_add (λ v. one (eqb u v)) (λ v. count_of v vs) 0 n in
    let b = sum_one (λ v. one (eqb u v)) (λ v. 0) 0 n u 1 (omega arith) (let l = h.0 in omega arith) (λ v o. one_other u v (λ e. o (sym e))) refl (one_same u u refl) in
    let z = sum_zero (λ v. 0) 0 n (λ v. refl) in
    let r = counted_all n vs h.1 in
    omega arith

pub full : (n : ℕ) (vs : List ℕ) → Distinct vs → AllByRecursion (λ v. v < n) vs → length vs ≡ n → (v : ℕ) → v < n → 0 < count_of v vs
full n vs d b e v l =
    ⊎_elim
    (λ h. h)
    (λ h. let c = counted_all n vs b in
    let g = sum_gap (λ u. count_of u vs) 0 n v (distinct_count vs d) (omega arith) (omega arith) (omega arith) in
    absurd (omega arith))
    (cases_lt 0 (count_of v vs))

pub counted_nth : (v : ℕ) (ps : List Placed) → 0 < count_of v (map vertex_of ps) → (k : ℕ) × (p : Placed) × (nth ps k ≡ Some p) × (p.vertex ≡ v)
counted_nth v [] h = absurd (omega arith)
counted_nth v (p ∷ ps) h =
    ⊎_elim
    (λ e. (0, p, refl, e))
    (λ o. let z = one_other p.vertex v o in let r = counted_nth v ps (omega arith) in (suc r.0, r.1, r.2, r.3))
    (cases_eq p.vertex v)

-- THE TABLES OF THE STREAM ARE THOSE OF THE MODEL
-- the table of the walk that a table of the stream is
pub record Held (m : Model) (v : ℕ) (t : StreamTable) : Type 0 where
  pub index : ℕ
  pub placed : Placed
  pub there : nth (model_walk m) index ≡ Some placed
  pub vertex : placed.vertex ≡ v
  pub spelt : Spelt t placed.table
  pub virtuals : virtuals_of t.links ≡ placed.table.virtuals

pub table_same : (s : Stream) (v : ℕ) (t u : StreamTable) → TableAt s v t → TableAt s v u → t ≡ u
table_same s v t u e f = same_Some _ _ (sym e ∙ f)

pub held_from : (s : Stream) (m : Model) (v : ℕ) (t : StreamTable) → AllByRecursion (Holds s) (model_walk m) → 0 < count_of v (map vertex_of (model_walk m)) → TableAt s v t → Held m v t
held_from s m v t h c e =
    let f = counted_nth v (model_walk m) c in
    let p = f.1 in
    let a : Holds s p = all-nth (Holds s) (model_walk m) f.0 p f.2 h in
    let same : a.0 ≡ t = table_same s v a.0 t (subst (λ x. TableAt s x a.0) f.3 a.1) e in
    record {
      index = f.0;
      placed = p;
      there = f.2;
      vertex = f.3;
      spelt = subst (λ x. Spelt x p.table) same a.2;
      virtuals = subst (λ (x : StreamTable). virtuals_of x.links ≡ p.table.virtuals) same a.3;
    }

-- LINKS
in_place : (s : Stream) (n : ℕ) (t : StreamTable) (a : Table) → n ≡ length s.tables → Sound n a → Spelt t a → virtuals_of t.links ≡ a.virtuals → Loose s t → ⊥
in_place s n t a size sound spelt virtuals = by
  where
    slots : AllByRecursion (SoundSlot n (length a.bytes)) (slots_of t.links)
    slots = all_shuffled (SoundSlot n (length a.bytes)) a.slots (slots_of t.links) spelt.slots sound.slots

    by : Loose s t → ⊥
    by (nowhere l i g) = let r = (all-has (SoundSlot n (length a.bytes)) (slots_of t.links) l slots i).target in omega arith
    by (nowhere_virtual u i g) = let r = all-has (λ w. w < n) (virtuals_of t.links) u (subst (AllByRecursion (λ w. w < n)) (sym virtuals) sound.virtuals) i in omega arith
    by (beyond l i g) =
        let r = (all-has (SoundSlot n (length a.bytes)) (slots_of t.links) l slots i).within in
        let k : length (bytes_of t) ≡ length a.bytes = ap length spelt.bytes in
        omega arith
    by (shared p g) =
        let r = sound.apart p in
        let k : count_by (at_position p) (slots_of t.links) ≡ count_by (at_position p) a.slots = sum_by-IsPermutation (λ (l : Slot). cond (at_position p l) 1 0) a.slots (slots_of t.links) spelt.slots in
        omega arith

-- ENTRIES
-- how many slots of a table lead to v
abbrev pub into : ℕ → Table → ℕ
into v t = count_of v (map (λ (l : Slot). l.target) t.slots)

abbrev leads_to : ℕ → Slot → Bool
leads_to v l = eqb l.target v

count_targets : (v : ℕ) (ls : List Slot) → count_of v (map (λ (l : Slot). l.target) ls) ≡ count_by (leads_to v) ls
count_targets v [] = refl
count_targets v (l ∷ ls) = let c = count_cons (leads_to v) l ls in let r = count_targets v ls in omega arith

pub shuffled_targets : (v : ℕ) (t : StreamTable) (a : Table) → Spelt t a → count_of v (map (λ (l : Slot). l.target) (slots_of t.links)) ≡ into v a
shuffled_targets v t a h =
    count_targets v (slots_of t.links) ∙ sum_by-IsPermutation (λ (l : Slot). cond (leads_to v l) 1 0) a.slots (slots_of t.links) h.slots ∙ sym (count_targets v a.slots)

pub sum_tables : (f : StreamTable → ℕ) (g : ℕ → ℕ) (a : ℕ) (ts : List StreamTable) → ((k : ℕ) (t : StreamTable) → nth ts k ≡ Some t → f t ≡ g (a + k)) → sum_by f ts ≡ sum_by g (range_with_len a (length ts))
sum_tables f g a [] h = refl
sum_tables f g a (t ∷ ts) h =
    let c = sum_by-cons f t ts in
    let d = sum_by-cons g a (range_with_len (a + 1) (length ts)) in
    let e : f t ≡ g a = h 0 t refl ∙ ap g (let z : a + 0 ≡ a = omega arith in z) in
    let r = sum_tables f g (a + 1) ts (λ k u i. h (suc k) u i ∙ ap g (let z : a + suc k ≡ a + 1 + k = omega arith in z)) in
    omega arith

-- in the walk below a table each vertex but that table's own is entered as often as it stands there
module _ (v : ℕ) where
  abbrev enters : Placed → ℕ
  enters p = into v p.table

  abbrev stand : List Placed → ℕ
  stand ps = count_of v (map vertex_of ps)

  stand_append : (ps qs : List Placed) → stand (ps ++ qs) ≡ stand ps + stand qs
  stand_append ps qs = ap (count_of v) (map-append vertex_of ps qs) ∙ count_append v (map vertex_of ps) (map vertex_of qs)

  each_once : {X : Type 0} (r : X → ℕ) (f : X → List Placed) → ((x : X) → one (eqb (r x) v) + sum_by enters (f x) ≡ stand (f x))
      → (xs : List X) → count_of v (map r xs) + sum_by enters (flat_map f xs) ≡ stand (flat_map f xs)
  each_once r f h [] = refl
  each_once r f h (x ∷ xs) =
      let a = sum_by-append enters (f x) (flat_map f xs) in
      let b = stand_append (f x) (flat_map f xs) in
      let e = h x in
      let i = each_once r f h xs in
      omega arith

  ligatures_once : (c : ℕ) (gs : List Ligature) → count_of v (map (λ (g : Ligature). g.vertex) gs) + sum_by enters (map (ligature_table c) gs) ≡ stand (map (ligature_table c) gs)
  ligatures_once c [] = refl
  ligatures_once c (g ∷ gs) = let a = sum_by-cons enters (ligature_table c g) (map (ligature_table c) gs) in let i = ligatures_once c gs in omega arith

  set_once : (c : ℕ) (t : LigatureSet) → one (eqb t.vertex v) + sum_by enters (set_walk c t) ≡ stand (set_walk c t)
  set_once c t =
      let a = sum_by-cons enters (set_table c t) (map (ligature_table c) t.ligatures) in
      let e : enters (set_table c t) ≡ count_of v (map (λ (g : Ligature). g.vertex) t.ligatures) = ap (count_of v) (targets_from 2 (map (λ (g : Ligature). g.vertex) t.ligatures)) in
      let i = ligatures_once c t.ligatures in
      omega arith

  below_once : (s : Subtable) → one (eqb s.vertex v) + sum_by enters (subtable_table s ∷ coverage_table s ∷ flat_map (set_walk s.coverage) s.sets) ≡ stand (subtable_table s ∷ coverage_table s ∷ flat_map (set_walk s.coverage) s.sets)
  below_once s =
      let a = sum_by-cons enters (subtable_table s) (coverage_table s ∷ flat_map (set_walk s.coverage) s.sets) in
      let b = sum_by-cons enters (coverage_table s) (flat_map (set_walk s.coverage) s.sets) in
      let e : enters (subtable_table s) ≡ one (eqb s.coverage v) + count_of v (map (λ (t : LigatureSet). t.vertex) s.sets) = ap (λ x. one (eqb s.coverage v) + count_of v x) (targets_from 6 (map (λ (t : LigatureSet). t.vertex) s.sets)) in
      let i = each_once (λ (t : LigatureSet). t.vertex) (set_walk s.coverage) (set_once s.coverage) s.sets in
      omega arith

  wrapped_once : (o : Option ℕ) (u : ℕ) (ps : List Placed) → one (eqb u v) + sum_by enters ps ≡ stand ps → one (eqb (head_or o u) v) + sum_by enters (extension_walk o u ++ ps) ≡ stand (extension_walk o u ++ ps)
  wrapped_once None u ps h = h
  wrapped_once (Some e) u ps h = let a = sum_by-cons enters (extension_table e u) ps in omega arith

  subtable_once : (s : Subtable) → one (eqb (head s) v) + sum_by enters (subtable_walk s) ≡ stand (subtable_walk s)
  subtable_once s = wrapped_once s.extension s.vertex (subtable_table s ∷ coverage_table s ∷ flat_map (set_walk s.coverage) s.sets) (below_once s)

  lookup_once : (l : Lookup) → one (eqb l.vertex v) + sum_by enters (lookup_walk l) ≡ stand (lookup_walk l)
  lookup_once l =
      let a = sum_by-cons enters (lookup_table l) (flat_map subtable_walk l.subtables) in
      let e : enters (lookup_table l) ≡ count_of v (map (λ (s : Subtable). head s) l.subtables) = ap (count_of v) (targets_from 6 (map (λ (s : Subtable). head s) l.subtables)) in
      let i = each_once (λ (s : Subtable). head s) subtable_walk subtable_once l.subtables in
      omega arith

  pub walk_once : (m : Model) → count_of v (map (λ (l : Lookup). l.vertex) m.lookups) + sum_by enters (model_walk m) ≡ stand (model_walk m)
  walk_once m = each_once (λ (l : Lookup). l.vertex) lookup_walk lookup_once m.lookups

-- REACHED
module _ (s : Stream) where
  abbrev Reach : Placed → Type 0
  Reach p = Reached s p.vertex

  reach_on : (p : Placed) → Holds s p → Reach p → AllByRecursion (λ (l : Slot). Reached s l.target) p.table.slots
  reach_on p h r =
      All-weaker (Has p.table.slots) (λ (l : Slot). Reached s l.target)
      (λ l i. onward p.vertex h.0 l r h.1 (has_shuffled p.table.slots (slots_of h.0.links) l h.2.slots i))
      p.table.slots (all_has_itself p.table.slots)

  reach_from : (p : ℕ) (ts : List ℕ) → AllByRecursion (λ (l : Slot). Reached s l.target) (slots_from p ts) → AllByRecursion (Reached s) ts
  reach_from p [] h = tt
  reach_from p (t ∷ ts) h = (h.0, reach_from (p + 2) ts h.1)

  -- what stands below tables that are reached
  reach_each : {X : Type 0} (r : X → ℕ) (f : X → List Placed) → ((x : X) → Reached s (r x) → AllByRecursion (Holds s) (f x) → AllByRecursion Reach (f x))
      → (xs : List X) → AllByRecursion (Reached s) (map r xs) → AllByRecursion (Holds s) (flat_map f xs) → AllByRecursion Reach (flat_map f xs)
  reach_each r f h [] a b = tt
  reach_each r f h (x ∷ xs) a b =
      let c = all_parts_lem (Holds s) (f x) (flat_map f xs) b in
      All-append Reach (f x) (flat_map f xs) (h x a.0 c.0) (reach_each r f h xs a.1 c.1)

  reach_ligatures : (c : ℕ) (gs : List Ligature) → AllByRecursion (Reached s) (map (λ (g : Ligature). g.vertex) gs) → AllByRecursion Reach (map (ligature_table c) gs)
  reach_ligatures c [] h = tt
  reach_ligatures c (g ∷ gs) h = (h.0, reach_ligatures c gs h.1)

  reach_set : (c : ℕ) (t : LigatureSet) → Reached s t.vertex → AllByRecursion (Holds s) (set_walk c t) → AllByRecursion Reach (set_walk c t)
  reach_set c t r h = (r, reach_ligatures c t.ligatures (reach_from 2 (map (λ (g : Ligature). g.vertex) t.ligatures) (reach_on (set_table c t) h.0 r)))

  reach_below : (x : Subtable) → Reached s x.vertex → AllByRecursion (Holds s) (subtable_table x ∷ coverage_table x ∷ flat_map (set_walk x.coverage) x.sets) → AllByRecursion Reach (subtable_table x ∷ coverage_table x ∷ flat_map (set_walk x.coverage) x.sets)
  reach_below x r h =
      let a = reach_on (subtable_table x) h.0 r in
      (r, (a.0, reach_each (λ (t : LigatureSet). t.vertex) (set_walk x.coverage) (reach_set x.coverage) x.sets (reach_from 6 (map (λ (t : LigatureSet). t.vertex) x.sets) a.1) h.1.1))

  reach_wrapped : (o : Option ℕ) (u : ℕ) (ps : List Placed) → (Reached s u → AllByRecursion (Holds s) ps → AllByRecursion Reach ps) → Reached s (head_or o u) → AllByRecursion (Holds s) (extension_walk o u ++ ps) → AllByRecursion Reach (extension_walk o u ++ ps)
  reach_wrapped None u ps f r h = f r h
  reach_wrapped (Some e) u ps f r h = (r, f (reach_on (extension_table e u) h.0 r).0 h.1)

  reach_subtable : (x : Subtable) → Reached s (head x) → AllByRecursion (Holds s) (subtable_walk x) → AllByRecursion Reach (subtable_walk x)
  reach_subtable x = reach_wrapped x.extension x.vertex (subtable_table x ∷ coverage_table x ∷ flat_map (set_walk x.coverage) x.sets) (reach_below x)

  reach_lookup : (l : Lookup) → Reached s l.vertex → AllByRecursion (Holds s) (lookup_walk l) → AllByRecursion Reach (lookup_walk l)
  reach_lookup l r h =
      (r, reach_each (λ (x : Subtable). head x) subtable_walk reach_subtable l.subtables (reach_from 6 (map (λ (x : Subtable). head x) l.subtables) (reach_on (lookup_table l) h.0 r)) h.1)

  pub reach_walk : (m : Model) → s.roots ≡ map (λ (l : Lookup). l.vertex) m.lookups → AllByRecursion (Holds s) (model_walk m) → AllByRecursion Reach (model_walk m)
  reach_walk m e h =
      reach_each (λ (l : Lookup). l.vertex) lookup_walk reach_lookup m.lookups
      (subst (AllByRecursion (Reached s)) e (All-weaker (Has s.roots) (Reached s) (λ v i. root v i) s.roots (all_has_itself s.roots))) h

module _ (meaning : List ℕ → Option Meant) (s : Stream) (m : Model) (h : Loaded meaning s m) where
  pub size : m.taken.vertices ≡ length s.tables
  size = ap (λ (t : Taken). t.vertices) h.taken

  pub held : (v : ℕ) (t : StreamTable) → TableAt s v t → Held m v t
  held v t e =
      let l = nth_below s.tables v t e in
      let k = size in
      held_from s m v t h.tables
      (full m.taken.vertices (map vertex_of (model_walk m)) h.good.distinct (All-map (λ u. u < m.taken.vertices) vertex_of (model_walk m) h.good.below) (length-map (model_walk m) vertex_of ∙ h.good.vertices) v (omega arith))
      e

  pub none_loose : AllByRecursion (SoundAt m.taken.vertices) (model_walk m) → Never (Loosely s)
  none_loose sound v x =
      let a = held v x.0 x.1 in
      in_place s m.taken.vertices x.0 a.placed.table size (all-nth (SoundAt m.taken.vertices) (model_walk m) a.index a.placed a.there sound) a.spelt a.virtuals x.2

  -- as often as the walk says
  entered_same : (v : ℕ) → entered s v ≡ sum_by (λ (p : Placed). into v p.table) (model_walk m)
  entered_same v =
      sum_tables (λ (t : StreamTable). count_of v (map (λ (l : Slot). l.target) (slots_of t.links))) (λ u. into v (table_in (model_walk m) u)) 0 s.tables
      (λ k t e. let a = held k t e in
      let f : table_in (model_walk m) a.placed.vertex ≡ a.placed.table = all-nth (λ (p : Placed). table_in (model_walk m) p.vertex ≡ p.table) (model_walk m) a.index a.placed a.there (found (model_walk m) h.good.distinct) in
      let z : a.placed.vertex ≡ 0 + k = a.vertex ∙ (let y : k ≡ 0 + k = omega arith in y) in
      shuffled_targets v t a.placed.table a.spelt ∙ ap (into v) (sym f) ∙ ap (λ u. into v (table_in (model_walk m) u)) z)
      ∙ ap (λ n. sum_by (λ u. into v (table_in (model_walk m) u)) (range_with_len 0 n)) (sym size)
      ∙ tally (into v) refl m.taken.vertices (model_walk m) h.good.distinct h.good.below

  entered_once : (v : ℕ) → named s v + entered s v ≤ 1
  entered_once v =
      let a = walk_once v m in
      let b = distinct_count (map vertex_of (model_walk m)) h.good.distinct v in
      let c : named s v ≡ count_of v (map (λ (l : Lookup). l.vertex) m.lookups) = ap (count_of v) h.roots in
      let d = entered_same v in
      omega arith

  none_astray : (v : ℕ) → v < length s.tables → Astray s v → ⊥
  none_astray v l (root_entered a b) = let o = entered_once v in omega arith
  none_astray v l (entered_twice a b) = let o = entered_once v in omega arith
  none_astray v l (named_twice a) = let o = entered_once v in omega arith
  none_astray v l (unreached f) =
      let t = nth_there s.tables v l in
      let a = held v t.0 t.1 in
      f (subst (Reached s) a.vertex (all-nth (λ (p : Placed). Reached s p.vertex) (model_walk m) a.index a.placed a.there (reach_walk s m h.roots h.tables)))

  pub none_strays : Never (Strays s)
  none_strays v x = none_astray v x.0 x.1
