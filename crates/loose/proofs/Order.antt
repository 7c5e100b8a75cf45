-- Lists in order of a key: the same elements, and keys that do not fall.
use Rattle.std.proofs.Common.{ℕ, ◌≤◌, leb, List, [], ◌∷◌, refl, arith}
use Rattle.std.specs.List.Sorted.{IsPermutation}
use Rattle.std.proofs.lemmas.List.Sorted.{IsPermutation-refl, IsPermutation-cons, IsPermutation-swap, IsPermutation-trans}
use Rattle.std.proofs.lemmas.Bool.{cond_both, leb-true, leb-false}
use Rattle.graph.specs.Filling.{insert_by, ordered}

module _ {X : Type 0} (key : X → ℕ) where
  swapped : (x y : X) (ys : List X) → IsPermutation (x ∷ y ∷ ys) (y ∷ x ∷ ys)
  swapped x y ys = IsPermutation-swap (x ∷ y ∷ ys) (y ∷ x ∷ ys) 0 1 (omega arith) (omega arith) refl

  insert_shuffled : (x : X) (ys : List X) → IsPermutation (x ∷ ys) (insert_by key x ys)
  insert_shuffled x [] = IsPermutation-refl (x ∷ [])
  insert_shuffled x (y ∷ ys) =
      cond_both (leb (key x) (key y)) (x ∷ y ∷ ys) (y ∷ insert_by key x ys) (IsPermutation (x ∷ y ∷ ys))
      (λ e. IsPermutation-refl (x ∷ y ∷ ys))
      (λ e. IsPermutation-trans (x ∷ y ∷ ys) (y ∷ x ∷ ys) (y ∷ insert_by key x ys) (swapped x y ys) (IsPermutation-cons y (x ∷ ys) (insert_by key x ys) (insert_shuffled x ys)))

  pub ordered_shuffled : (xs : List X) → IsPermutation xs (ordered key xs)
  ordered_shuffled [] = IsPermutation-refl []
  ordered_shuffled (x ∷ xs) = IsPermutation-trans (x ∷ xs) (x ∷ ordered key xs) (insert_by key x (ordered key xs)) (IsPermutation-cons x xs (ordered key xs) (ordered_shuffled xs)) (insert_shuffled x (ordered key xs))

  -- keys do not fall
  abbrev pub Rise : ℕ → List X → Type 0
  Rise a [] = Unit {0}
  Rise a (x ∷ xs) = (a ≤ key x) × Rise (key x) xs

  insert_rise : (a : ℕ) (x : X) (ys : List X) → a ≤ key x → Rise a ys → Rise a (insert_by key x ys)
  insert_rise a x [] h r = (h, tt)
  insert_rise a x (y ∷ ys) h r =
      cond_both (leb (key x) (key y)) (x ∷ y ∷ ys) (y ∷ insert_by key x ys) (Rise a)
      (λ e. (h, (leb-true (key x) (key y) e, r.1)))
      (λ e. (r.0, insert_rise (key y) x ys (let k = leb-false (key x) (key y) e in omega arith) r.1))

  pub ordered_rise : (xs : List X) → Rise 0 (ordered key xs)
  ordered_rise [] = tt
  ordered_rise (x ∷ xs) = insert_rise 0 x (ordered key xs) (omega arith) (ordered_rise xs)
