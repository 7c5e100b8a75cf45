-- Where a rule comes from: its ligature's table stands in the walk, and its bytes are those of its vertex.
use Rattle.std.proofs.Common.{◌≡◌, ℕ, zero, suc, ◌<◌, ◌⊎◌, List, [], ◌∷◌, ◌++◌, map, Some, sym, ap, subst, inl, inr, ⊎_elim, arith}
use Rattle.std.specs.List.{flat_map}
use Rattle.std.proofs.lemmas.Option.{none-some, same_Some}
use Rattle.std.proofs.lemmas.Bool.Decides.{nat_tests}
use Rattle.model.proofs.Lists.{one_same}
use Rattle.model.proofs.LoadLists.{nth-map, nth_mapped}
use Rattle.model.specs.Forest.{Ligature, LigatureSet, Subtable, Lookup, Model}
use Rattle.model.specs.Tables.{Placed, vertex_of, count_of, ligature_table, set_walk, extension_walk, subtable_table, coverage_table, subtable_walk, lookup_walk, model_walk, bytes_at}
use Rattle.model.specs.Rules.{Sourced, rule_of, sourced, sourced_set, sourced_from, sourced_rules, nth}
use Rattle.model.specs.Sound.{Distinct}

-- an element stands somewhere in a list
abbrev pub In : {X : Type 0} → X → List X → Type 0
In x xs = (i : ℕ) × (nth xs i ≡ Some x)

in_behind : {X : Type 0} (xs ys : List X) (x : X) → In x ys → In x (xs ++ ys)
in_behind [] ys x h = h
in_behind (y ∷ xs) ys x h = let r = in_behind xs ys x h in (suc r.0, r.1)

in_front : {X : Type 0} (xs ys : List X) (x : X) → In x xs → In x (xs ++ ys)
in_front [] ys x h = absurd (none-some x h.1)
in_front (y ∷ xs) ys x (zero, e) = (zero, e)
in_front (y ∷ xs) ys x (suc i, e) = let r = in_front xs ys x (i, e) in (suc r.0, r.1)

-- an element of two lists joined is in one of them
pub in_either : {X : Type 0} (xs ys : List X) (k : ℕ) (x : X) → nth (xs ++ ys) k ≡ Some x → In x xs ⊎ In x ys
in_either [] ys k x e = inr (k, e)
in_either (y ∷ xs) ys zero x e = inl (zero, e)
in_either (y ∷ xs) ys (suc k) x e = ⊎_elim (λ h. inl (suc h.0, h.1)) inr (in_either xs ys k x e)

-- a rule with its ligature, whose table is among some tables
pub record Source (ps : List Placed) (x : Sourced) : Type 0 where
  pub ligature : Ligature
  pub coverage : ℕ
  pub first : ℕ
  pub vertex : x.vertex ≡ ligature.vertex
  pub rule : x.rule ≡ rule_of first ligature
  pub here : In (ligature_table coverage ligature) ps

moved : (ps qs : List Placed) (x : Sourced) → ((p : Placed) → In p ps → In p qs) → Source ps x → Source qs x
moved ps qs x f s = record { ligature = s.ligature; coverage = s.coverage; first = s.first; vertex = s.vertex; rule = s.rule; here = f (ligature_table s.coverage s.ligature) s.here }

source_set : (c n : ℕ) (t : LigatureSet) (k : ℕ) (x : Sourced) → nth (sourced_set n t) k ≡ Some x → Source (set_walk c t) x
source_set c n t k x e =
    let m = nth_mapped (sourced n t.first) t.ligatures k x e in
    record {
      ligature = m.0;
      coverage = c;
      first = t.first;
      vertex = ap (λ (z : Sourced). z.vertex) (sym m.2);
      rule = ap (λ (z : Sourced). z.rule) (sym m.2);
      here = (suc k, nth-map (ligature_table c) t.ligatures k m.0 m.1);
    }

source_sets : (c n : ℕ) (ts : List LigatureSet) (k : ℕ) (x : Sourced) → nth (flat_map (sourced_set n) ts) k ≡ Some x → Source (flat_map (set_walk c) ts) x
source_sets c n [] k x e = cc
source_sets c n (t ∷ ts) k x e =
    ⊎_elim
    (λ h. moved (set_walk c t) (flat_map (set_walk c) (t ∷ ts)) x (λ p. in_front (set_walk c t) (flat_map (set_walk c) ts) p) (source_set c n t h.0 x h.1))
    (λ h. moved (flat_map (set_walk c) ts) (flat_map (set_walk c) (t ∷ ts)) x (λ p. in_behind (set_walk c t) (flat_map (set_walk c) ts) p) (source_sets c n ts h.0 x h.1))
    (in_either (sourced_set n t) (flat_map (sourced_set n) ts) k x e)

source_subtable : (n : ℕ) (s : Subtable) (k : ℕ) (x : Sourced) → nth (flat_map (sourced_set n) s.sets) k ≡ Some x → Source (subtable_walk s) x
source_subtable n s k x e =
    moved (flat_map (set_walk s.coverage) s.sets) (subtable_walk s) x
    (λ p h. in_behind (extension_walk s.extension s.vertex) (subtable_table s ∷ coverage_table s ∷ flat_map (set_walk s.coverage) s.sets) p (suc (suc h.0), h.1))
    (source_sets s.coverage n s.sets k x e)

source_subtables : (n : ℕ) (ss : List Subtable) (k : ℕ) (x : Sourced) → nth (sourced_from n ss) k ≡ Some x → Source (flat_map subtable_walk ss) x
source_subtables n [] k x e = cc
source_subtables n (s ∷ ss) k x e =
    ⊎_elim
    (λ h. moved (subtable_walk s) (flat_map subtable_walk (s ∷ ss)) x (λ p. in_front (subtable_walk s) (flat_map subtable_walk ss) p) (source_subtable n s h.0 x h.1))
    (λ h. moved (flat_map subtable_walk ss) (flat_map subtable_walk (s ∷ ss)) x (λ p. in_behind (subtable_walk s) (flat_map subtable_walk ss) p) (source_subtables (suc n) ss h.0 x h.1))
    (in_either (flat_map (sourced_set n) s.sets) (sourced_from (suc n) ss) k x e)

in_lookups : (ls : List Lookup) (n : ℕ) (l : Lookup) (p : Placed) → nth ls n ≡ Some l → In p (lookup_walk l) → In p (flat_map lookup_walk ls)
in_lookups [] n l p e h = cc
in_lookups (k ∷ ls) zero l p e h = in_front (lookup_walk k) (flat_map lookup_walk ls) p (subst (λ (z : Lookup). In p (lookup_walk z)) (sym (same_Some k l e)) h)
in_lookups (k ∷ ls) (suc n) l p e h = in_behind (lookup_walk k) (flat_map lookup_walk ls) p (in_lookups ls n l p e h)

-- a rule of a lookup of a model
pub source : (m : Model) (n : ℕ) (l : Lookup) (k : ℕ) (x : Sourced) → nth m.lookups n ≡ Some l → nth (sourced_rules l) k ≡ Some x → Source (model_walk m) x
source m n l k x is e =
    moved (flat_map subtable_walk l.subtables) (model_walk m) x (λ p h. in_lookups m.lookups n l p is (suc h.0, h.1)) (source_subtables 0 l.subtables k x e)

-- no vertex twice: a table of the walk is the table of its vertex
counted : (ps : List Placed) (i : ℕ) (p : Placed) → nth ps i ≡ Some p → 0 < count_of p.vertex (map vertex_of ps)
counted [] i p e = cc
counted (q ∷ ps) zero p e =
    let same = ap (λ (z : Placed). z.vertex) (same_Some q p e) in
    let b = one_same q.vertex p.vertex same in
    omega arith
counted (q ∷ ps) (suc i) p e = let h = counted ps i p e in omega arith

pub bytes_of : (ps : List Placed) (i : ℕ) (p : Placed) → Distinct (map vertex_of ps) → nth ps i ≡ Some p → bytes_at ps p.vertex ≡ Some p.table.bytes
bytes_of [] i p d e = cc
bytes_of (q ∷ ps) zero p d e = grind (arith, nat_tests)
bytes_of (q ∷ ps) (suc i) p d e = grind (arith, nat_tests, counted ps i p e, d.0, bytes_of ps i p d.1 e)
