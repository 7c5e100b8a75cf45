-- A slice whose front is used: what moving rows by one leaves, and what find, put and remove make of it.
use Rattle.std.proofs.Common.{◌≡◌, ℕ, suc, ◌+◌, ◌-◌, ◌<◌, ◌≤◌, List, [], ◌∷◌, ◌++◌, length, get_or, take, drop, set, replicate, Some, None, Result, Ok, Err, sym, refl, ap, ◌∙◌, subst, append_assoc, add-one, arith}
use Rattle.std.specs.List.{insert, remove}
use lib.Seq.{paste}
use Rattle.std.proofs.lemmas.List.{length-take, length-take-le, length-drop, length-append, length-set, take-append-drop, take-take, take_more, drop_at, drop_more, drop-take, set_at, set-append_left}
use Rattle.std.proofs.lemmas.List.Edits.{length-insert, length-remove}
use Rattle.rows.specs.declared.RowKey.{RowKey}
use Rattle.rows.specs.declared.view.KeyedRows.{KeyedRows}
use Rattle.rows.specs.Rows.{Rising, row_of, with_row, without_row, Laid, Spot}
use Rattle.rows.specs.Views.{lent, in_use, spare}
use Rattle.rows.proofs.Places.{removed_at_place, nothing_removed, replaced_at_place, inserted_at_place}

-- the rows from `at` on, copied one up, and x laid in the gap
pub laid : {X : Type 0} (old new : List X) (n at : ℕ) (x : X) → at ≤ n → n < length old → new ≡ paste old (at + 1) (drop at old) (n - at) → set new at x ≡ insert (take n old) at x ++ drop (n + 1) old
laid old new n at x le lt e =
    let M = take (n - at) (drop at old) in
    let D = drop (n + 1) old in
    let y = get_or old at x in
    let q : at + (n - at) ≡ n = omega arith in
    let p : at + 1 + (n - at) ≡ n + 1 = omega arith in
    let t = take_more old at x (omega arith) in
    let f = take-take at n old le in
    let m : drop at (take n old) ≡ M = subst (λ k. drop at (take k old) ≡ M) q (drop-take at (n - at) old) in
    let l = length-take-le at old (omega arith) in
    let s : new ≡ take at old ++ y ∷ (M ++ D) = e ∙ rw (t, p) (simp append_assoc) in
    rw (s, f, m) (set_at (take at old) y (M ++ D) x at l ∙ sym (append_assoc (take at old) (x ∷ M) D))

-- the rows behind `at`, copied one down, and z laid where the last stood
pub closed : {X : Type 0} (old new : List X) (n at : ℕ) (z : X) → at < n → n ≤ length old → new ≡ paste old at (drop (at + 1) old) (n - (at + 1)) → set new (n - 1) z ≡ remove (take n old) at ++ z ∷ drop n old
closed old new n at z lt le e =
    let M = take (n - (at + 1)) (drop (at + 1) old) in
    let y = get_or old (n - 1) z in
    let q : at + 1 + (n - (at + 1)) ≡ n = omega arith in
    let p : at + (n - (at + 1)) ≡ n - 1 = omega arith in
    let r : n - 1 + 1 ≡ n = omega arith in
    let d : drop (n - 1) old ≡ y ∷ drop n old = drop_more old (n - 1) z (omega arith) ∙ ap (λ k. y ∷ drop k old) r in
    let f = take-take at n old (omega arith) in
    let m : drop (suc at) (take n old) ≡ M = ap (λ k. drop k (take n old)) (sym (add-one at)) ∙ subst (λ k. drop (at + 1) (take k old) ≡ M) q (drop-take (at + 1) (n - (at + 1)) old) in
    let l : length (take at old ++ M) ≡ n - 1 = simp (length-append, length-take, length-drop) (omega arith) in
    let s : new ≡ (take at old ++ M) ++ y ∷ drop n old = e ∙ rw (p, d) in
    rw (s, f, m) (set_at (take at old ++ M) y (drop n old) z (n - 1) l)

-- what a put and a removal make of the view v, where its rows rise: w is the view that they leave
module _ {X : Type 0} (key : X → RowKey) (v : KeyedRows X) where
  size : length (in_use v) ≡ v.used
  size = length-take-le v.used (lent v) v.fits

  module _ (r : X) (k : RowKey) (same_key : k ≡ key r) (i : ℕ) where
    spot_of : (s : Result ℕ ℕ) → Spot key k (in_use v) s → Spot key (key r) (in_use v) s
    spot_of s = subst (λ l. Spot key l (in_use v) s) same_key

    pub put_there : i < v.used → (Rising key (in_use v) → Spot key k (in_use v) (Ok i)) → Rising key (in_use v) → Laid (with_row key r (in_use v)) (lent v) (set (lent v) i r) (Some v.used)
    put_there lt spot up =
        let sp = spot_of (Ok i) (spot up) in
        let l = size in
        let q = sp.0 in
        let s : set (in_use v) i r ≡ with_row key r (in_use v) = rw q (replaced_at_place key r (in_use v) r (omega arith) (rw (← q) (sp.1 r))) in
        let a = set-append_left (in_use v) (spare v) i r (omega arith) in
        let c : v.used ≡ length (with_row key r (in_use v)) = omega (arith, ap length s, length-set (in_use v) i r) in
        record {
          fits = λ le. (ap (λ t. set t i r) (sym (take-append-drop v.used (lent v))) ∙ a ∙ rw (s, ← c), ap Some c);
          full = λ lt'. absurd (omega arith);
        }

    module _ (le : i ≤ v.used) (spot : Rising key (in_use v) → Spot key k (in_use v) (Err i)) (up : Rising key (in_use v)) where
      inserted_is : insert (in_use v) i r ≡ with_row key r (in_use v)
      inserted_is = let sp = spot_of (Err i) (spot up) in rw sp.0 (inserted_at_place key r (in_use v) sp.1)

      one_more : v.used + 1 ≡ length (with_row key r (in_use v))
      one_more = let l = size in omega (arith, ap length inserted_is, length-insert (in_use v) i r (omega arith))

      pub put_new : (w : KeyedRows X) → w.used ≡ v.used + 1 → v.used < length (lent v) → lent w ≡ insert (in_use v) i r ++ drop (v.used + 1) (lent v) → Laid (with_row key r (in_use v)) (lent v) (lent w) (Some w.used)
      put_new w n lt e =
          let c = one_more in
          record {
            fits = λ _. (e ∙ rw (inserted_is, c), ap Some (n ∙ c));
            full = λ lt'. absurd (omega arith);
          }

      pub put_full : v.used ≡ length (lent v) → Laid (with_row key r (in_use v)) (lent v) (lent v) None
      put_full e = let c = one_more in record { fits = λ le'. absurd (omega arith); full = λ _. (refl, refl) }

  module _ (k : RowKey) (z : X) where
    pub remove_there : (i : ℕ) → i < v.used → Spot key k (in_use v) (Ok i) → (w : KeyedRows X) → lent w ≡ remove (in_use v) i ++ z ∷ spare v → w.used + 1 ≡ v.used → (lent w ≡ without_row key k (in_use v) ++ (replicate (length (in_use v) - length (without_row key k (in_use v))) z ++ spare v)) × (w.used ≡ length (without_row key k (in_use v)))
    remove_there i lt spot w e n =
        let p = spot.0 in
        let l = size in
        let s : remove (in_use v) i ≡ without_row key k (in_use v) = rw p (removed_at_place key k (in_use v) z (omega arith) (rw (← p) (spot.1 z))) in
        let h = length-remove (in_use v) i (omega arith) in
        let c : w.used ≡ length (without_row key k (in_use v)) = omega (arith, ap length s) in
        let f : length (in_use v) - length (without_row key k (in_use v)) ≡ 1 = omega arith in
        (e ∙ rw (s, f), c)

    pub remove_none : row_of key k (in_use v) ≡ None → (lent v ≡ without_row key k (in_use v) ++ (replicate (length (in_use v) - length (without_row key k (in_use v))) z ++ spare v)) × (v.used ≡ length (without_row key k (in_use v)))
    remove_none none =
        let l = size in
        let s = nothing_removed key k (in_use v) none in
        let c : v.used ≡ length (without_row key k (in_use v)) = omega (arith, ap length s) in
        let f : length (in_use v) - length (without_row key k (in_use v)) ≡ 0 = omega arith in
        (rw (f, ← s) (sym (take-append-drop v.used (lent v))), c)

  pub behind_removed : (z : X) (i : ℕ) → i < v.used → (new : List X) → new ≡ remove (in_use v) i ++ z ∷ spare v → drop v.used new ≡ spare v
  behind_removed z i lt new e =
      let l = size in
      let h = length-remove (in_use v) i (omega arith) in
      let s : new ≡ (remove (in_use v) i ++ z ∷ []) ++ spare v = e ∙ sym (append_assoc (remove (in_use v) i) (z ∷ []) (spare v)) in
      ap (drop v.used) s ∙ drop_at (remove (in_use v) i ++ z ∷ []) (spare v) v.used (omega (arith, length-append (remove (in_use v) i) (z ∷ [])))
