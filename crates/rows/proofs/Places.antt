-- Where a key stands among rows, and what a look-up, a put and a removal make of that place.
use Rattle.std.proofs.Common.{Less, Equal, Greater, ◌≡◌, ℕ, zero, suc, ◌<◌, ◌≤◌, List, [], ◌∷◌, length, get_or, set, Some, None, Result, Ok, Err, IfOk, sym, refl, ap, subst, inl, inr, arith}
use Rattle.std.specs.List.{HoldsAt, insert, remove}
use Rattle.std.specs.List.Sorted.{IsSearchInRange, IsBinarySearchResult, IsNonDecreasingBy}
use Rattle.std.specs.Ordering.{ordering_index}
use Rattle.std.proofs.ByRecursion.{All-get_or}
use Rattle.std.proofs.lemmas.Bool.{cases_Bool, cases_order}
use Rattle.rows.specs.declared.RowKey.{RowKey}
use Rattle.rows.specs.Keys.{precedes, same, Before}
use Rattle.rows.specs.Rows.{Rising, row_of, with_row, without_row, place_of, Spot}
use Rattle.rows.proofs.Order.{key_cmp, ranked, rank_rises, not_back, not_before_self, same_from_eq, apart_before, apart_after}
use Rattle.rows.proofs.Laws.{rising_pairs}

module _ {X : Type 0} (key : X → RowKey) (k : RowKey) where
  -- rows that rise answer a search in the order that it asks
  ranks_rise : (xs : List X) → Rising key xs → IsNonDecreasingBy (λ x. ordering_index (key_cmp (key x) k)) xs
  ranks_rise xs up i j d le in' =
      elim (cases_order i j) [
        | inl e ↦ rw e (omega arith)
        | inr s ↦ elim s [
          | inl lt ↦ rank_rises (key (get_or xs i d)) (key (get_or xs j d)) k (rising_pairs key xs up i j d lt in')
          | inr gt ↦ absurd (omega arith)
        ]
      ]

  -- a row that has the key stands at the key's place
  place_at_key : (xs : List X) (i : ℕ) (d : X) → Rising key xs → i < length xs → key (get_or xs i d) ≡ k → i ≡ place_of key k xs
  place_at_key [] i d up in' e = absurd (omega arith)
  place_at_key (x ∷ xs) zero d up in' e = rw (not_before_self (key x) k e)
  place_at_key (x ∷ xs) (suc i) d up in' e =
      let in'' : i < length xs = omega arith in
      let b : Before (key x) k = subst (Before (key x)) e (All-get_or (λ y. Before (key x) (key y)) xs i d in'' up.0) in
      rw b (ap suc (place_at_key xs i d up.1 in'' e))

  -- between rows before the key and rows behind it is its place, and no row has it
  place_between : (xs : List X) (i : ℕ) → i ≤ length xs → ((j : ℕ) (d : X) → j < i → Before (key (get_or xs j d)) k) → ((j : ℕ) (d : X) → i ≤ j → j < length xs → Before k (key (get_or xs j d))) → (i ≡ place_of key k xs) × (row_of key k xs ≡ None)
  place_between [] i le below above = (omega arith, refl)
  place_between (x ∷ xs) zero le below above =
      let b = above 0 x (omega arith) (omega arith) in
      let h = place_between xs 0 (omega arith) (λ j d lt. absurd (omega arith)) (λ j d ge lt. above (suc j) d (omega arith) (omega arith)) in
      (rw (not_back k (key x) b), rw (apart_after (key x) k b) h.1)
  place_between (x ∷ xs) (suc i) le below above =
      let b = below 0 x (omega arith) in
      let h = place_between xs i (omega arith) (λ j d lt. below (suc j) d (omega arith)) (λ j d ge lt. above (suc j) d (omega arith) (omega arith)) in
      (rw b (ap suc h.0), rw (apart_before (key x) k b) h.1)

  -- where a binary search by the order of keys ends
  pub searched : (xs : List X) (r : Result ℕ ℕ) → IsSearchInRange r (length xs) → IsBinarySearchResult (λ x. key_cmp (key x) k) xs r → IfOk r (HoldsAt (λ x. key x ≡ k) xs) × (Rising key xs → Spot key k xs r)
  searched [] (Ok i) in' at' = absurd (omega arith)
  searched (x ∷ xs) (Ok i) in' at' =
      let has : HoldsAt (λ y. key y ≡ k) (x ∷ xs) i = λ d. ranked (key (get_or (x ∷ xs) i d)) k Equal (sym (at' d)) in
      (has, λ up. (place_at_key (x ∷ xs) i x up in' (has x), has))
  searched xs (Err i) in' at' = (
    tt,
    λ up.
        let p = at' (ranks_rise xs up) in
        place_between
        xs
        i
        in'
        (λ j d lt. ranked (key (get_or xs j d)) k Less (sym (p.0 j d (omega arith) lt)))
        (λ j d ge lt. ranked (key (get_or xs j d)) k Greater (sym (p.1 j d ge lt))),
  )

module _ {X : Type 0} (key : X → RowKey) (k : RowKey) where
  -- a removal takes out the row at the place, if it has the key
  pub removed_at_place : (xs : List X) (d : X) → place_of key k xs < length xs → key (get_or xs (place_of key k xs) d) ≡ k → remove xs (place_of key k xs) ≡ without_row key k xs
  removed_at_place [] d in' e = absurd (omega arith)
  removed_at_place (x ∷ xs) d in' e =
      elim (cases_Bool (precedes (key x) k)) [
        | inl b ↦
            let s = apart_before (key x) k b in
            rw (b, s) (ap (λ t. x ∷ t) (removed_at_place xs d (omega (arith, rw b at in')) (rw b at e)))
        | inr b ↦ let s = same_from_eq (key x) k (rw b at e) in rw (b, s)
      ]

  pub nothing_removed : (xs : List X) → row_of key k xs ≡ None → xs ≡ without_row key k xs
  nothing_removed [] e = refl
  nothing_removed (x ∷ xs) e =
      elim (cases_Bool (same (key x) k)) [
        | inl s ↦ let e' : Some x ≡ None = rw s at e in let z : ◌≡◌ {A = ℕ} 0 1 = cc in absurd (omega arith)
        | inr s ↦ rw s (ap (λ t. x ∷ t) (nothing_removed xs (rw s at e)))
      ]

-- a put replaces it
pub replaced_at_place : {X : Type 0} (key : X → RowKey) (r : X) (xs : List X) (d : X) → place_of key (key r) xs < length xs → key (get_or xs (place_of key (key r) xs) d) ≡ key r → set xs (place_of key (key r) xs) r ≡ with_row key r xs
replaced_at_place key r [] d in' e = absurd (omega arith)
replaced_at_place key r (x ∷ xs) d in' e =
    elim (cases_Bool (precedes (key x) (key r))) [
      | inl b ↦ rw b (ap (λ t. x ∷ t) (replaced_at_place key r xs d (omega (arith, rw b at in')) (rw b at e)))
      | inr b ↦ let s = same_from_eq (key x) (key r) (rw b at e) in rw (b, s)
    ]

-- where no row has the key, a put inserts the row at the place
pub inserted_at_place : {X : Type 0} (key : X → RowKey) (r : X) (xs : List X) → row_of key (key r) xs ≡ None → insert xs (place_of key (key r) xs) r ≡ with_row key r xs
inserted_at_place key r [] e = refl
inserted_at_place key r (x ∷ xs) e =
    elim (cases_Bool (precedes (key x) (key r))) [
      | inl b ↦ let s = apart_before (key x) (key r) b in rw b (ap (λ t. x ∷ t) (inserted_at_place key r xs (rw s at e)))
      | inr b ↦ elim (cases_Bool (same (key x) (key r))) [
        | inl s ↦ let e' : Some x ≡ None = rw s at e in let z : ◌≡◌ {A = ℕ} 0 1 = cc in absurd (omega arith)
        | inr s ↦ rw (b, s)
      ]
    ]
