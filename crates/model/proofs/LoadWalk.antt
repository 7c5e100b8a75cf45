-- The walk: at each place stands one vertex, of a loaded model the one that its tables have there; so nothing is refused, and refusals are unique.
use Rattle.std.proofs.Common.{◌≡◌, ℕ, zero, suc, ◌⊎◌, List, [], ◌∷◌, map, length, Some, Option, sym, refl, ap, ◌∙◌, subst, inl, inr, ⊎_elim, arith}
use Rattle.std.proofs.lemmas.List.{length-map}
use Rattle.std.proofs.lemmas.Bool.{cases_order}
use Rattle.std.proofs.lemmas.Option.{same_Some}
use Rattle.refusals.specs.declared.Refusal.{Refusal}
use Rattle.words.specs.Grammar.{StreamTable, Stream}
use Rattle.coverage.specs.Meaning.{Meant}
use Rattle.model.specs.Forest.{Ligature, LigatureSet, Subtable, Lookup}
use Rattle.model.specs.Tables.{Table, head, lookup_table, extension_table, subtable_table, set_table}
use Rattle.model.specs.Rules.{nth}
use Rattle.model.specs.Loading.{TableAt, Spelt, LookupShape, Place, at_lookup, at_extension, at_subtable, at_coverage, at_set, at_ligature, path, Before, Kind, is_lookup, is_coverage, is_set, is_ligature, Stands, root, extension, plain, wrapped, coverage, set, ligature, Fault, misshapen, crowded, bare, uncovered, untied, Faulty, FirstFault}
use Rattle.model.proofs.LoadLists.{nth-map}
use Rattle.model.proofs.LoadSame.{lookup_same, extension_same, subtable_same, set_same}
use Rattle.model.proofs.LoadFull.{table_same}

-- ONE VERTEX AT A PLACE
same_nth : {X : Type 0} (r : X → ℕ) (xs ys : List X) (k : ℕ) (x y : X) → map r xs ≡ map r ys → nth xs k ≡ Some x → nth ys k ≡ Some y → r x ≡ r y
same_nth r xs ys k x y e f g = same_Some _ _ (sym (nth-map r xs k x f) ∙ ap (λ zs. nth zs k) e ∙ nth-map r ys k y g)

-- two at one place: of one kind, and the same vertex
abbrev Agree : Kind → ℕ → Kind → ℕ → Type 0
Agree k v j w = (k ≡ j) × (v ≡ w)

pub same_length : {X : Type 0} (r : X → ℕ) (xs ys : List X) → map r xs ≡ map r ys → length xs ≡ length ys
same_length r xs ys e = sym (length-map xs r) ∙ ap length e ∙ length-map ys r

pub set_under : {c d : ℕ} → is_set c ≡ is_set d → c ≡ d
set_under e = cc

-- PLACES IN ORDER
pub compare : (ps qs : List ℕ) → Before ps qs ⊎ (Before qs ps ⊎ (ps ≡ qs))
compare [] [] = inr (inr refl)
compare [] (q ∷ qs) = inl tt
compare (p ∷ ps) [] = inr (inl tt)
compare (p ∷ ps) (q ∷ qs) =
    ⊎_elim
    (λ e. ⊎_elim
    (λ b. inl (inr (e, b)))
    (λ c. ⊎_elim (λ b. inr (inl (inr (sym e, b)))) (λ f. inr (inr (ap (λ z. z ∷ ps) e ∙ ap (λ z. q ∷ z) f))) c)
    (compare ps qs))
    (λ o. ⊎_elim (λ l. inl (inl l)) (λ l. inr (inl (inl l))) o)
    (cases_order p q)

place_of : List ℕ → Place
place_of [] = at_lookup 0
place_of (i ∷ []) = at_lookup i
place_of (i ∷ j ∷ []) = at_lookup 0
place_of (i ∷ j ∷ zero ∷ rest) = at_extension i j
place_of (i ∷ j ∷ suc zero ∷ rest) = at_subtable i j
place_of (i ∷ j ∷ suc (suc zero) ∷ rest) = at_coverage i j
place_of (i ∷ j ∷ suc (suc (suc k)) ∷ []) = at_set i j k
place_of (i ∷ j ∷ suc (suc (suc k)) ∷ n ∷ rest) = at_ligature i j k n

place_back : (p : Place) → place_of (path p) ≡ p
unfolding place_of
place_back (at_lookup i) = refl
place_back (at_extension i j) = refl
place_back (at_subtable i j) = refl
place_back (at_coverage i j) = refl
place_back (at_set i j k) = refl
place_back (at_ligature i j k n) = refl

pub path_same : (p q : Place) → path p ≡ path q → p ≡ q
path_same p q e = sym (place_back p) ∙ ap place_of e ∙ place_back q

module _ (s : Stream) where
  -- a table that two vertices have which are one
  pub shared_table : {v w : ℕ} {t u : StreamTable} (a : Table) → v ≡ w → TableAt s v t → TableAt s w u → Spelt u a → Spelt t a
  shared_table {v} {w} {t} {u} a e x y h = subst (λ z. Spelt z a) (sym (table_same s w t u (subst (λ z. TableAt s z t) e x) y)) h

  pub rooted : {i : ℕ} {k : Kind} {v : ℕ} → Stands s (at_lookup i) k v → nth s.roots i ≡ Some v
  rooted (root i v e) = e

  pub roots_same : {i v w : ℕ} {k j : Kind} → Stands s (at_lookup i) k v → Stands s (at_lookup i) j w → v ≡ w
  roots_same a b = same_Some _ _ (sym (rooted a) ∙ rooted b)

  -- what stands above an extension table
  pub record Extended (i j e : ℕ) : Type 0 where
    pub vertex : ℕ
    pub table : StreamTable
    pub lookup : Lookup
    pub subtable : Subtable
    pub above : Stands s (at_lookup i) is_lookup vertex
    pub is : TableAt s vertex table
    pub shape : LookupShape table lookup
    pub kind : lookup.kind ≡ 7
    pub slot : nth lookup.subtables j ≡ Some subtable
    pub leads : head subtable ≡ e

  pub extended : {i j e : ℕ} {k : Kind} → Stands s (at_extension i j) k e → Extended i j e
  extended (extension i j v t l x a b c d e) = record { vertex = v; table = t; lookup = l; subtable = x; above = a; is = b; shape = c; kind = d; slot = e; leads = refl }

  -- a lookup has one type
  no_both : {i v w : ℕ} {t u : StreamTable} (l k : Lookup) → Stands s (at_lookup i) is_lookup v → Stands s (at_lookup i) is_lookup w → TableAt s v t → TableAt s w u → LookupShape t l → LookupShape u k
      → l.kind ≡ 4 → k.kind ≡ 7 → ⊥
  no_both {t = t} l k a b x y p q e f =
      let z = (lookup_same t l k p.table (shared_table (lookup_table k).table (roots_same a b) x y q.table)).kind in
      omega arith

  heads_same : {i v w : ℕ} {t u : StreamTable} (l k : Lookup) (j : ℕ) (x y : Subtable) → Stands s (at_lookup i) is_lookup v → Stands s (at_lookup i) is_lookup w → TableAt s v t → TableAt s w u
      → LookupShape t l → LookupShape u k → nth l.subtables j ≡ Some x → nth k.subtables j ≡ Some y → head x ≡ head y
  heads_same {t = t} l k j x y a b p q f g =
      same_nth (λ (z : Subtable). head z) l.subtables k.subtables j x y (lookup_same t l k f.table (shared_table (lookup_table k).table (roots_same a b) p q g.table)).heads

  pub stands_same : {p : Place} {k j : Kind} {v w : ℕ} → Stands s p k v → Stands s p j w → Agree k v j w
  stands_same (root i v e) (root i' w f) = (refl, same_Some _ _ (sym e ∙ f))
  stands_same (extension i j v t l x a b c d e) (extension i' j' v' t' l' x' a' b' c' d' e') = (refl, heads_same l l' j x x' a a' b b' c c' e e')
  stands_same (plain i j v t l x a b c d e) (plain i' j' v' t' l' x' a' b' c' d' e') = (refl, heads_same l l' j x x' a a' b b' c c' e e')
  stands_same (plain i j v t l x a b c d e) (wrapped i' j' v' t' u' a' b' c') =
      let r = extended a' in absurd (no_both l r.lookup a r.above b r.is c r.shape d r.kind)
  stands_same (wrapped i j v t u a b c) (plain i' j' v' t' l' x' a' b' c' d' e') =
      let r = extended a in absurd (no_both l' r.lookup a' r.above b' r.is c' r.shape d' r.kind)
  stands_same (wrapped i j v t u a b c) (wrapped i' j' v' t' u' a' b' c') =
      (refl, extension_same t 0 0 u u' c (shared_table (extension_table 0 u').table (stands_same a a').1 b b' c'))
  stands_same (coverage i j v t x a b c) (coverage i' j' v' t' x' a' b' c') =
      let e = subtable_same t x x' c (shared_table (subtable_table x').table (stands_same a a').1 b b' c') in
      (ap is_coverage (same_length (λ (y : LigatureSet). y.vertex) x.sets x'.sets e.1), e.0)
  stands_same (set i j k v t x y a b c d) (set i' j' k' v' t' x' y' a' b' c' d') =
      let e = subtable_same t x x' c (shared_table (subtable_table x').table (stands_same a a').1 b b' c') in
      (ap is_set e.0, same_nth (λ (z : LigatureSet). z.vertex) x.sets x'.sets k y y' e.1 d d')
  stands_same (ligature i j k n c v t y g a b d e) (ligature i' j' k' n' c' v' t' y' g' a' b' d' e') =
      let r = stands_same a a' in
      (ap is_ligature (set_under r.0), same_nth (λ (z : Ligature). z.vertex) y.ligatures y'.ligatures n g g' (set_same t 0 0 y y' d (shared_table (set_table 0 y').table r.1 b b' d')) e e')

-- ONE FAULT AT A PLACE
module _ (meaning : List ℕ → Option Meant) where
  faults_same : {k : Kind} {v : ℕ} {t : StreamTable} {q r : Refusal} → Fault meaning k v t q → Fault meaning k v t r → q ≡ r
  faults_same (misshapen a) (misshapen b) = refl
  faults_same (misshapen a) (crowded b c) = absurd (a b)
  faults_same (misshapen a) (bare b c d) = absurd (a b)
  faults_same (misshapen a) (uncovered b c d e) = absurd (a b)
  faults_same (misshapen a) (untied b c d e f) = absurd (a b)
  faults_same (crowded a x) (misshapen b) = absurd (b a)
  faults_same (crowded a x) (crowded b c) = refl
  faults_same (crowded a x) (bare b c d) = absurd (x c)
  faults_same (crowded a x) (uncovered b c d e) = absurd (x c)
  faults_same (crowded a x) (untied b c d e f) = absurd (x c)
  faults_same (bare a x y) (misshapen b) = absurd (b a)
  faults_same (bare a x y) (crowded b c) = absurd (c x)
  faults_same (bare a x y) (bare b c d) = refl
  faults_same (bare a x y) (uncovered b c d e) = absurd (y d)
  faults_same (bare a x y) (untied b c d e f) = absurd (y d)
  faults_same (uncovered a x y z) (misshapen b) = absurd (b a)
  faults_same (uncovered a x y z) (crowded b c) = absurd (c x)
  faults_same (uncovered a x y z) (bare b c d) = absurd (d y)
  faults_same (uncovered a x y z) (uncovered b c d e) = refl
  faults_same (uncovered a x y z) (untied b c d e f) = absurd (z e)
  faults_same (untied a x y z w) (misshapen b) = absurd (b a)
  faults_same (untied a x y z w) (crowded b c) = absurd (c x)
  faults_same (untied a x y z w) (bare b c d) = absurd (d y)
  faults_same (untied a x y z w) (uncovered b c d e) = absurd (e z)
  faults_same (untied a x y z w) (untied b c d e f) = refl

  faulty_same : (s : Stream) (p : Place) (q r : Refusal) → Faulty meaning s p q → Faulty meaning s p r → q ≡ r
  faulty_same s p q r a b =
      let e = stands_same s a.stands b.stands in
      let t : a.table ≡ b.table = table_same s b.vertex a.table b.table (subst (λ v. TableAt s v a.table) e.1 a.is) b.is in
      faults_same (subst (λ u. Fault meaning b.kind b.vertex u q) t (subst (λ v. Fault meaning b.kind v a.table q) e.1 (subst (λ k. Fault meaning k a.vertex a.table q) e.0 a.fault))) b.fault

  pub first_same : (s : Stream) (q r : Refusal) → FirstFault meaning s q → FirstFault meaning s r → q ≡ r
  first_same s q r a b =
      ⊎_elim
      (λ c. absurd (b.first a.place q c a.faulty))
      (λ c. ⊎_elim
      (λ d. absurd (a.first b.place r d b.faulty))
      (λ d. faulty_same s b.place q r (subst (λ p. Faulty meaning s p q) (path_same a.place b.place d) a.faulty) b.faulty)
      c)
      (compare (path a.place) (path b.place))
