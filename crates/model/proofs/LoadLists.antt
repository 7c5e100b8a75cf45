-- Lists for the proofs about loading: elements by number, sums over all numbers below a bound.
use Rattle.std.proofs.Common.{◌≡◌, ℕ, zero, suc, ◌+◌, ◌%◌, ◌<◌, ◌≤◌, Bool, cond, List, [], ◌∷◌, map, length, get_or, Some, sum_by, count_by, refl, ap, ◌∙◌, arith}
use Rattle.std.specs.List.{ContainsAt as Has, AllByRecursion, range_with_len}
use Rattle.std.proofs.lemmas.List.Sums.{sum_by-cons}
use Rattle.std.proofs.lemmas.Bool.{cases_eq}
use Rattle.std.proofs.lemmas.Option.{same_Some}
use Rattle.data_bytes.specs.BigEndian.{Bytes}
use Rattle.data_bytes.specs.Values.{value_bytes, values}
use Rattle.model.specs.Rules.{nth}
use Rattle.model.proofs.Lists.{one}

-- ELEMENTS BY NUMBER
pub nth_below : {X : Type 0} (xs : List X) (n : ℕ) (x : X) → nth xs n ≡ Some x → n < length xs
nth_below [] n x e = cc
nth_below (y ∷ xs) zero x e = omega arith
nth_below (y ∷ xs) (suc n) x e = let h = nth_below xs n x e in omega arith

pub nth-has : {X : Type 0} (xs : List X) (n : ℕ) (x : X) → nth xs n ≡ Some x → Has xs x
nth-has {X} xs n x e = (n, nth_below xs n x e, λ d. at xs n d e)
  where
    at : (ys : List X) (k : ℕ) (d : X) → nth ys k ≡ Some x → get_or ys k d ≡ x
    at [] k d f = cc
    at (y ∷ ys) zero d f = same_Some _ _ f
    at (y ∷ ys) (suc k) d f = at ys k d f

pub nth-map : {X Y : Type 0} (f : X → Y) (xs : List X) (n : ℕ) (x : X) → nth xs n ≡ Some x → nth (map f xs) n ≡ Some (f x)
nth-map f [] n x e = cc
nth-map f (y ∷ xs) zero x e = ap (λ z. Some (f z)) (same_Some _ _ e)
nth-map f (y ∷ xs) (suc n) x e = nth-map f xs n x e

pub nth_mapped : {X Y : Type 0} (f : X → Y) (xs : List X) (n : ℕ) (y : Y) → nth (map f xs) n ≡ Some y → (x : X) × (nth xs n ≡ Some x) × (f x ≡ y)
nth_mapped f [] n y e = cc
nth_mapped f (x ∷ xs) zero y e = (x, refl, same_Some _ _ e)
nth_mapped f (x ∷ xs) (suc n) y e = nth_mapped f xs n y e

pub nth_there : {X : Type 0} (xs : List X) (n : ℕ) → n < length xs → (x : X) × (nth xs n ≡ Some x)
nth_there [] n h = absurd (omega arith)
nth_there (x ∷ xs) zero h = (x, refl)
nth_there (x ∷ xs) (suc n) h = nth_there xs n (omega arith)

pub nth_counting : {X : Type 0} (f : ℕ → X) (a n k : ℕ) → k < n → nth (map f (range_with_len a n)) k ≡ Some (f (a + k))
nth_counting f a zero k h = absurd (omega arith)
nth_counting f a (suc n) zero h = let e : a ≡ a + 0 = omega arith in ap (λ x. Some (f x)) e
nth_counting f a (suc n) (suc k) h =
    let e : a + 1 + k ≡ a + suc k = omega arith in
    nth_counting f (a + 1) n k (omega arith) ∙ ap (λ x. Some (f x)) e

-- WHAT A TEST COUNTS
pub count_cons : {X : Type 0} (p : X → Bool) (x : X) (xs : List X) → count_by p (x ∷ xs) ≡ one (p x) + count_by p xs
count_cons p x xs = sum_by-cons (λ y. cond (p y) 1 0) x xs

-- SUMS OVER THE NUMBERS FROM a ON
module _ (f g : ℕ → ℕ) where
  pub sum_same : (a n : ℕ) → ((v : ℕ) → a ≤ v → f v ≡ g v) → sum_by f (range_with_len a n) ≡ sum_by g (range_with_len a n)
  sum_same a zero h = refl
  sum_same a (suc n) h = omega (arith, sum_by-cons f a (range_with_len (a + 1) n), sum_by-cons g a (range_with_len (a + 1) n), h a, sum_same (a + 1) n (λ v l. h v (omega arith)))

  -- that differ at one number only
  pub sum_one : (a n u x : ℕ) → a ≤ u → u < a + n → ((v : ℕ) → (v ≡ u → ⊥) → f v ≡ g v) → g u ≡ 0 → f u ≡ x → sum_by f (range_with_len a n) ≡ x + sum_by g (range_with_len a n)
  sum_one a zero u x l h same e i = absurd (omega arith)
  sum_one a (suc n) u x l h same e i =
      let rest : a ≡ u → sum_by f (range_with_len (a + 1) n) ≡ sum_by g (range_with_len (a + 1) n) = λ q. sum_same (a + 1) n (λ v m. same v (λ w. omega arith)) in
      grind (arith, cases_eq a u, sum_by-cons f a (range_with_len (a + 1) n), sum_by-cons g a (range_with_len (a + 1) n), same a, rest, sum_one (a + 1) n u x)

pub sum_zero : (f : ℕ → ℕ) (a n : ℕ) → ((v : ℕ) → f v ≡ 0) → sum_by f (range_with_len a n) ≡ 0
sum_zero f a zero h = refl
sum_zero f a (suc n) h = omega (arith, sum_by-cons f a (range_with_len (a + 1) n), h a, sum_zero f (a + 1) n h)

-- BYTES TWO BY TWO
pub value_bytes_values : (bs : List ℕ) → Bytes bs → length bs % 2 ≡ 0 → value_bytes (values bs) ≡ bs
value_bytes_values [] h e = refl
value_bytes_values (x ∷ []) h e = absurd (omega arith)
value_bytes_values (x ∷ y ∷ bs) h e =
    let low : y < 256 = h 1 (omega arith) in
    grind (arith, value_bytes_values bs (λ k l. h (suc (suc k)) (omega arith)))

pub values_small : (bs : List ℕ) → Bytes bs → AllByRecursion (λ v. v < 65536) (values bs)
values_small [] h = tt
values_small (x ∷ []) h = tt
values_small (x ∷ y ∷ bs) h = (omega (arith, h 0, h 1), values_small bs (λ k l. h (suc (suc k)) (omega arith)))
