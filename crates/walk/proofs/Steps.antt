-- The walk place by place: what is clear before a place that passes its tests is clear before the next.
use Rattle.std.proofs.Common.{◌≡◌, ℕ, suc, ◌<◌, ◌≤◌, List, [], ◌∷◌, ◌++◌, length, get_or, Some, Option, sym, ap, subst, arith}
use Rattle.words.specs.Grammar.{StreamTable, Stream}
use Rattle.coverage.specs.Meaning.{Meant}
use Rattle.model.specs.Forest.{Ligature, LigatureSet, Subtable, Lookup}
use Rattle.model.specs.Tables.{head, lookup_table, subtable_table, set_table}
use Rattle.model.specs.Rules.{nth}
use Rattle.model.specs.Loading.{TableAt, LookupShape, SubtableShape, SetShape, Place, at_lookup, at_extension, at_subtable, at_coverage, at_set, at_ligature, path, Kind, is_lookup, is_extension, is_subtable, is_coverage, is_set, is_ligature, Stands, root, extension, plain, wrapped, coverage, set, ligature, Fault, Faulty}
use Rattle.model.proofs.LoadLists.{nth_below}
use Rattle.model.proofs.LoadSame.{lookup_same, subtable_same, set_same}
use Rattle.model.proofs.LoadFull.{table_same}
use Rattle.model.proofs.LoadWalk.{path_same, shared_table, roots_same, stands_same, same_length}
use Rattle.model.proofs.LoadOwned.{Passes, passed}
use Rattle.model.proofs.LoadSteps.{SoundlyPlaced, Clear, clear_into, clear_past}

-- WHICH PATHS ARE PLACES
no_pair : (p : Place) (i j : ℕ) → path p ≡ i ∷ j ∷ [] → ⊥
no_pair (at_lookup a) i j e = let z = ap length e in omega arith
no_pair (at_extension a b) i j e = let z = ap length e in omega arith
no_pair (at_subtable a b) i j e = let z = ap length e in omega arith
no_pair (at_coverage a b) i j e = let z = ap length e in omega arith
no_pair (at_set a b c) i j e = let z = ap length e in omega arith
no_pair (at_ligature a b c d) i j e = let z = ap length e in omega arith

no_low : (p : Place) (i j a c : ℕ) (zs : List ℕ) → a < 3 → path p ≡ i ∷ j ∷ a ∷ c ∷ zs → ⊥
no_low (at_lookup x) i j a c zs l e = let z = ap length e in omega arith
no_low (at_extension x y) i j a c zs l e = let z = ap length e in omega arith
no_low (at_subtable x y) i j a c zs l e = let z = ap length e in omega arith
no_low (at_coverage x y) i j a c zs l e = let z = ap length e in omega arith
no_low (at_set x y k) i j a c zs l e = let z = ap length e in omega arith
no_low (at_ligature x y k n) i j a c zs l e = let z : suc (suc (suc k)) ≡ a = ap (λ ws. get_or ws 2 0) e in omega arith

no_deep : (p : Place) (i j a b c : ℕ) (zs : List ℕ) → path p ≡ i ∷ j ∷ a ∷ b ∷ c ∷ zs → ⊥
no_deep (at_lookup x) i j a b c zs e = let z = ap length e in omega arith
no_deep (at_extension x y) i j a b c zs e = let z = ap length e in omega arith
no_deep (at_subtable x y) i j a b c zs e = let z = ap length e in omega arith
no_deep (at_coverage x y) i j a b c zs e = let z = ap length e in omega arith
no_deep (at_set x y k) i j a b c zs e = let z = ap length e in omega arith
no_deep (at_ligature x y k n) i j a b c zs e = let z = ap length e in omega arith

first : Place → ℕ
first (at_lookup i) = i
first (at_extension i j) = i
first (at_subtable i j) = i
first (at_coverage i j) = i
first (at_set i j k) = i
first (at_ligature i j k n) = i

second : Place → ℕ
second (at_lookup i) = 0
second (at_extension i j) = j
second (at_subtable i j) = j
second (at_coverage i j) = j
second (at_set i j k) = j
second (at_ligature i j k n) = j

first_is : (p : Place) (i : ℕ) (zs : List ℕ) → path p ≡ i ∷ zs → first p ≡ i
unfolding first
first_is (at_lookup x) i zs e = ap (λ ws. get_or ws 0 0) e
first_is (at_extension x y) i zs e = ap (λ ws. get_or ws 0 0) e
first_is (at_subtable x y) i zs e = ap (λ ws. get_or ws 0 0) e
first_is (at_coverage x y) i zs e = ap (λ ws. get_or ws 0 0) e
first_is (at_set x y k) i zs e = ap (λ ws. get_or ws 0 0) e
first_is (at_ligature x y k n) i zs e = ap (λ ws. get_or ws 0 0) e

second_is : (p : Place) (i j : ℕ) (zs : List ℕ) → path p ≡ i ∷ j ∷ zs → second p ≡ j
unfolding second
second_is (at_lookup x) i j zs e = let z = ap length e in absurd (omega arith)
second_is (at_extension x y) i j zs e = ap (λ ws. get_or ws 1 0) e
second_is (at_subtable x y) i j zs e = ap (λ ws. get_or ws 1 0) e
second_is (at_coverage x y) i j zs e = ap (λ ws. get_or ws 1 0) e
second_is (at_set x y k) i j zs e = ap (λ ws. get_or ws 1 0) e
second_is (at_ligature x y k n) i j zs e = ap (λ ws. get_or ws 1 0) e

-- WHAT STANDS IS COUNTED
module _ (s : Stream) where
  slot_below : {i v w : ℕ} {t u : StreamTable} (l k : Lookup) (j : ℕ) (x : Subtable) → Stands s (at_lookup i) is_lookup v → Stands s (at_lookup i) is_lookup w → TableAt s v t → TableAt s w u
      → LookupShape t l → LookupShape u k → nth k.subtables j ≡ Some x → j < length l.subtables
  slot_below {t = t} l k j x a b p q f g e =
      let same = lookup_same t l k f.table (shared_table s (lookup_table k).table (roots_same s a b) p q g.table) in
      let n = same_length (λ (z : Subtable). head z) l.subtables k.subtables same.heads in
      let m = nth_below k.subtables j x e in
      omega arith

  at_first : {p : Place} {k : Kind} {v : ℕ} → Stands s p k v → (w : ℕ) × Stands s (at_lookup (first p)) is_lookup w
  unfolding first
  at_first (root i v e) = (v, root i v e)
  at_first (extension i j v t l x a b c d e) = (v, a)
  at_first (plain i j v t l x a b c d e) = (v, a)
  at_first (wrapped i j e t v a b c) = at_first a
  at_first (coverage i j v t x a b c) = at_first a
  at_first (set i j k v t x y a b c d) = at_first a
  at_first (ligature i j k n c v t y g a b d e) = at_first a

  second_below : {p : Place} {d : Kind} {w : ℕ} → Stands s p d w → 1 < length (path p) → (i v : ℕ) (t : StreamTable) (l : Lookup) → first p ≡ i → Stands s (at_lookup i) is_lookup v → TableAt s v t → LookupShape t l
      → second p < length l.subtables
  unfolding first second
  second_below (root i v e) deep i' v' t' l' at st is sh = absurd (omega arith)
  second_below (extension i j v t l x a b c d e) deep i' v' t' l' at st is sh = slot_below l' l j x st (subst (λ z. Stands s (at_lookup z) is_lookup v) at a) is b sh c e
  second_below (plain i j v t l x a b c d e) deep i' v' t' l' at st is sh = slot_below l' l j x st (subst (λ z. Stands s (at_lookup z) is_lookup v) at a) is b sh c e
  second_below (wrapped i j e t v a b c) deep i' v' t' l' at st is sh = second_below a (omega arith) i' v' t' l' at st is sh
  second_below (coverage i j v t x a b c) deep i' v' t' l' at st is sh = second_below a (omega arith) i' v' t' l' at st is sh
  second_below (set i j k v t x y a b c d) deep i' v' t' l' at st is sh = second_below a (omega arith) i' v' t' l' at st is sh
  second_below (ligature i j k n c v t y g a b d e) deep i' v' t' l' at st is sh = second_below a (omega arith) i' v' t' l' at st is sh

  set_below : {i j k w : ℕ} {d : Kind} → Stands s (at_set i j k) d w → (v : ℕ) (t : StreamTable) (x : Subtable) → Stands s (at_subtable i j) is_subtable v → TableAt s v t → SubtableShape t x → k < length x.sets
  set_below (set i j k v t x y a b c d) v' t' x' st is sh =
      let same = subtable_same t' x' x sh (shared_table s (subtable_table x).table (stands_same s st a).1 is b c) in
      let n = same_length (λ (z : LigatureSet). z.vertex) x'.sets x.sets same.1 in
      let m = nth_below x.sets k y d in
      omega arith

  above : {i j k n w : ℕ} {d : Kind} → Stands s (at_ligature i j k n) d w → (c v : ℕ) × Stands s (at_set i j k) (is_set c) v
  above (ligature i j k n c v t y g a b d e) = (c, v, a)

  ligature_below : {i j k n w : ℕ} {d : Kind} → Stands s (at_ligature i j k n) d w → (c v : ℕ) (t : StreamTable) (y : LigatureSet) → Stands s (at_set i j k) (is_set c) v → TableAt s v t → SetShape t y → n < length y.ligatures
  ligature_below (ligature i j k n c v t y g a b d e) c' v' t' y' st is sh =
      let same = set_same t' 0 0 y' y sh (shared_table s (set_table 0 y).table (stands_same s st a).1 is b d) in
      let m = same_length (λ (z : Ligature). z.vertex) y'.ligatures y.ligatures same in
      let h = nth_below y.ligatures n g e in
      omega arith

  no_extension : {i j w : ℕ} {d : Kind} → Stands s (at_extension i j) d w → (v : ℕ) (t : StreamTable) (l : Lookup) → Stands s (at_lookup i) is_lookup v → TableAt s v t → LookupShape t l → l.kind ≡ 4 → ⊥
  no_extension (extension i j v t l x a b c d e) v' t' l' st is sh four =
      let same = lookup_same t' l' l sh.table (shared_table s (lookup_table l).table (roots_same s st a) is b c.table) in
      let z = same.kind in
      omega arith

module _ (meaning : List ℕ → Option Meant) (s : Stream) where
  -- a table that passes is not refused at its place
  pub sound : {p : Place} {k : Kind} {v : ℕ} (t : StreamTable) → Stands s p k v → TableAt s v t → Passes meaning k t → SoundlyPlaced meaning s p
  sound {p} {k} {v} t st e ok r f =
      let a = stands_same s f.stands st in
      let same = table_same s v f.table t (subst (λ w. TableAt s w f.table) a.1 f.is) e in
      passed meaning k v t r ok (subst (λ u. Fault meaning k v u r) same (subst (λ w. Fault meaning k w f.table r) a.1 (subst (λ j. Fault meaning j f.vertex f.table r) a.0 f.fault)))

  down : (q : Place) → Clear meaning s (path q) → SoundlyPlaced meaning s q → Clear meaning s (path q ++ 0 ∷ [])
  down q c h = clear_into meaning s (path q) c (λ p e. subst (SoundlyPlaced meaning s) (sym (path_same p q e)) h)

  pub lookup_passed : {i v : ℕ} (t : StreamTable) → Stands s (at_lookup i) is_lookup v → TableAt s v t → Passes meaning is_lookup t → Clear meaning s (i ∷ []) → Clear meaning s (i ∷ 0 ∷ [])
  lookup_passed {i} t st e ok c = down (at_lookup i) c (sound t st e ok)

  pub subtable_begun : (i j : ℕ) → Clear meaning s (i ∷ j ∷ []) → Clear meaning s (i ∷ j ∷ 0 ∷ [])
  subtable_begun i j c = clear_into meaning s (i ∷ j ∷ []) c (λ p e. absurd (no_pair p i j e))

  low_passed : (i j a : ℕ) → a < 3 → Clear meaning s (i ∷ j ∷ a ∷ 0 ∷ []) → Clear meaning s (i ∷ j ∷ suc a ∷ [])
  low_passed i j a l c = clear_past meaning s (i ∷ j ∷ []) a 0 c (λ p b zs h e. absurd (no_low p i j a b zs l e))

  pub extension_passed : {i j v : ℕ} (t : StreamTable) → Stands s (at_extension i j) is_extension v → TableAt s v t → Passes meaning is_extension t → Clear meaning s (i ∷ j ∷ 0 ∷ []) → Clear meaning s (i ∷ j ∷ 1 ∷ [])
  extension_passed {i} {j} t st e ok c = low_passed i j 0 (omega arith) (down (at_extension i j) c (sound t st e ok))

  pub extension_none : {i v : ℕ} (j : ℕ) (t : StreamTable) (l : Lookup) → Stands s (at_lookup i) is_lookup v → TableAt s v t → LookupShape t l → l.kind ≡ 4 → Clear meaning s (i ∷ j ∷ 0 ∷ []) → Clear meaning s (i ∷ j ∷ 1 ∷ [])
  extension_none {i} {v} j t l st e sh four c = low_passed i j 0 (omega arith) (down (at_extension i j) c (λ r (f : Faulty meaning s (at_extension i j) r). no_extension s f.stands v t l st e sh four))

  pub subtable_passed : {i j v : ℕ} (t : StreamTable) → Stands s (at_subtable i j) is_subtable v → TableAt s v t → Passes meaning is_subtable t → Clear meaning s (i ∷ j ∷ 1 ∷ []) → Clear meaning s (i ∷ j ∷ 2 ∷ [])
  subtable_passed {i} {j} t st e ok c = low_passed i j 1 (omega arith) (down (at_subtable i j) c (sound t st e ok))

  pub coverage_passed : {i j v n : ℕ} (t : StreamTable) → Stands s (at_coverage i j) (is_coverage n) v → TableAt s v t → Passes meaning (is_coverage n) t → Clear meaning s (i ∷ j ∷ 2 ∷ []) → Clear meaning s (i ∷ j ∷ 3 ∷ [])
  coverage_passed {i} {j} t st e ok c = low_passed i j 2 (omega arith) (down (at_coverage i j) c (sound t st e ok))

  pub set_passed : {i j k v d : ℕ} (t : StreamTable) → Stands s (at_set i j k) (is_set d) v → TableAt s v t → Passes meaning (is_set d) t → Clear meaning s (path (at_set i j k)) → Clear meaning s (path (at_ligature i j k 0))
  set_passed {i} {j} {k} t st e ok c = down (at_set i j k) c (sound t st e ok)

  pub ligature_passed : {i j k n v d : ℕ} (t : StreamTable) → Stands s (at_ligature i j k n) (is_ligature d) v → TableAt s v t → Passes meaning (is_ligature d) t → Clear meaning s (path (at_ligature i j k n)) → Clear meaning s (path (at_ligature i j k (suc n)))
  ligature_passed {i} {j} {k} {n} t st e ok c =
      clear_past meaning s (i ∷ j ∷ suc (suc (suc k)) ∷ []) n 0 (down (at_ligature i j k n) c (sound t st e ok)) (λ p b zs h f. absurd (no_deep p i j (suc (suc (suc k))) n b zs f))

  pub set_done : {i j k v d : ℕ} (t : StreamTable) (y : LigatureSet) → Stands s (at_set i j k) (is_set d) v → TableAt s v t → SetShape t y → Clear meaning s (path (at_ligature i j k (length y.ligatures))) → Clear meaning s (path (at_set i j (suc k)))
  set_done {i} {j} {k} {v} {d} t y st is sh c = clear_past meaning s (i ∷ j ∷ []) (suc (suc (suc k))) (length y.ligatures) c (λ p b zs h e. at p b zs h e)
    where
      at : (p : Place) (b : ℕ) (zs : List ℕ) → length y.ligatures ≤ b → path p ≡ i ∷ j ∷ suc (suc (suc k)) ∷ b ∷ zs → SoundlyPlaced meaning s p
      at (at_lookup x) b zs h e r f = let z = ap length e in absurd (omega arith)
      at (at_extension x w) b zs h e r f = let z = ap length e in absurd (omega arith)
      at (at_subtable x w) b zs h e r f = let z = ap length e in absurd (omega arith)
      at (at_coverage x w) b zs h e r f = let z = ap length e in absurd (omega arith)
      at (at_set x w q) b zs h e r f = let z = ap length e in absurd (omega arith)
      at (at_ligature x w q n) b zs h e r f =
          let ei : x ≡ i = ap (λ ws. get_or ws 0 0) e in
          let ej : w ≡ j = ap (λ ws. get_or ws 1 0) e in
          let e3 : suc (suc (suc q)) ≡ suc (suc (suc k)) = ap (λ ws. get_or ws 2 0) e in
          let ek : q ≡ k = omega arith in
          let en : n ≡ b = ap (λ ws. get_or ws 3 0) e in
          let st' = subst (λ z. Stands s (at_ligature i j z n) f.kind f.vertex) ek (subst (λ z. Stands s (at_ligature i z q n) f.kind f.vertex) ej (subst (λ z. Stands s (at_ligature z w q n) f.kind f.vertex) ei f.stands)) in
          let m = ligature_below s st' d v t y st is sh in
          omega arith

  pub subtable_done : {i j v : ℕ} (t : StreamTable) (x : Subtable) → Stands s (at_subtable i j) is_subtable v → TableAt s v t → SubtableShape t x → Clear meaning s (path (at_set i j (length x.sets))) → Clear meaning s (i ∷ suc j ∷ [])
  subtable_done {i} {j} {v} t x st is sh c = clear_past meaning s (i ∷ []) j (suc (suc (suc (length x.sets)))) c (λ p b zs h e. at p b zs h e)
    where
      under : (k w : ℕ) (d : Kind) (a b : ℕ) → a ≡ i → b ≡ j → Stands s (at_set a b k) d w → k < length x.sets
      under k w d a b ei ej q = set_below s (subst (λ z. Stands s (at_set i z k) d w) ej (subst (λ z. Stands s (at_set z b k) d w) ei q)) v t x st is sh

      at : (p : Place) (b : ℕ) (zs : List ℕ) → suc (suc (suc (length x.sets))) ≤ b → path p ≡ i ∷ j ∷ b ∷ zs → SoundlyPlaced meaning s p
      at (at_lookup q) b zs h e r f = let z = ap length e in absurd (omega arith)
      at (at_extension q w) b zs h e r f = let z : 0 ≡ b = ap (λ ws. get_or ws 2 0) e in absurd (omega arith)
      at (at_subtable q w) b zs h e r f = let z : 1 ≡ b = ap (λ ws. get_or ws 2 0) e in absurd (omega arith)
      at (at_coverage q w) b zs h e r f = let z : 2 ≡ b = ap (λ ws. get_or ws 2 0) e in absurd (omega arith)
      at (at_set q w k) b zs h e r f =
          let z : suc (suc (suc k)) ≡ b = ap (λ ws. get_or ws 2 0) e in
          let m = under k f.vertex f.kind q w (ap (λ ws. get_or ws 0 0) e) (ap (λ ws. get_or ws 1 0) e) f.stands in
          omega arith
      at (at_ligature q w k n) b zs h e r f =
          let z : suc (suc (suc k)) ≡ b = ap (λ ws. get_or ws 2 0) e in
          let u = above s f.stands in
          let m = under k u.1 (is_set u.0) q w (ap (λ ws. get_or ws 0 0) e) (ap (λ ws. get_or ws 1 0) e) u.2 in
          omega arith

  pub lookup_done : {i v : ℕ} (t : StreamTable) (l : Lookup) → Stands s (at_lookup i) is_lookup v → TableAt s v t → LookupShape t l → Clear meaning s (i ∷ length l.subtables ∷ []) → Clear meaning s (suc i ∷ [])
  lookup_done {i} {v} t l st is sh c =
      clear_past meaning s [] i (length l.subtables) c
      (λ p b zs h e r (f : Faulty meaning s p r).
      let deep : 1 < length (path p) = (let z = ap length e in omega arith) in
      let m = second_below s f.stands deep i v t l (first_is p i (b ∷ zs) e) st is sh in
      let w = second_is p i b zs e in
      omega arith)
