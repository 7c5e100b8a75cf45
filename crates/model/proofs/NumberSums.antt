-- Sums over lists and over runs of numbers, and how often a number stands in a list.
use Rattle.std.proofs.Common.{◌≡◌, ℕ, zero, suc, ◌+◌, ◌<◌, ◌≤◌, cond, eqb, List, [], ◌∷◌, ◌++◌, map, length, sum_by, refl, ap, ◌∙◌, arith, ◌*◌, sym, Bool, true, false}
use Rattle.std.specs.List.{flat_map, AllByRecursion}
use Rattle.std.proofs.lemmas.List.Sums.{sum_by-cons}
use Rattle.std.proofs.Math.Nat.{mul-zero, mul-suc}
use Rattle.std.proofs.lemmas.Bool.Decides.{nat_tests}
use Rattle.model.specs.Tables.{count_of}
use Rattle.model.specs.NumberingLaws.{up_from}

-- a sum from the left end on
abbrev pub tally : {X : Type 0} → (X → ℕ) → List X → ℕ
tally f [] = 0
tally f (x ∷ xs) = f x + tally f xs

pub tally_sum : {X : Type 0} (f : X → ℕ) (xs : List X) → sum_by f xs ≡ tally f xs
tally_sum f [] = refl
tally_sum f (x ∷ xs) = sum_by-cons f x xs ∙ ap (λ n. f x + n) (tally_sum f xs)

pub tally_append : {X : Type 0} (f : X → ℕ) (xs ys : List X) → tally f (xs ++ ys) ≡ tally f xs + tally f ys
tally_append f [] ys = omega arith
tally_append f (x ∷ xs) ys = omega (arith, tally_append f xs ys)

pub tally_plus : {X : Type 0} (f g : X → ℕ) (xs : List X) → tally (λ x. f x + g x) xs ≡ tally f xs + tally g xs
tally_plus f g [] = refl
tally_plus f g (x ∷ xs) = omega (arith, tally_plus f g xs)

pub tally_ones : {X : Type 0} (xs : List X) → tally (λ x. 1) xs ≡ length xs
tally_ones [] = refl
tally_ones (x ∷ xs) = omega (arith, tally_ones xs)

pub tally_map : {X Y : Type 0} (f : Y → ℕ) (g : X → Y) (xs : List X) → tally f (map g xs) ≡ tally (λ x. f (g x)) xs
tally_map f g [] = refl
tally_map f g (x ∷ xs) = omega (arith, tally_map f g xs)

pub tally_joined : {X Y : Type 0} (f : Y → ℕ) (g : X → List Y) (xs : List X) → tally f (flat_map g xs) ≡ tally (λ x. tally f (g x)) xs
tally_joined f g [] = refl
tally_joined f g (x ∷ xs) = omega (arith, tally_joined f g xs, tally_append f (g x) (flat_map g xs))

-- the sum over n numbers from a first one on
abbrev pub tally_up : (ℕ → ℕ) → ℕ → ℕ → ℕ
tally_up w k zero = 0
tally_up w k (suc n) = w k + tally_up w (suc k) n

pub tally_up_more : (w : ℕ → ℕ) (k a b : ℕ) → tally_up w k (a + b) ≡ tally_up w k a + tally_up w (k + a) b
tally_up_more w k zero b = grind arith
tally_up_more w k (suc a) b =
    let y : k + suc a ≡ suc k + a = omega arith in
    let z : suc a + b ≡ suc (a + b) = omega arith in
    rw (y, z) (omega (arith, tally_up_more w (suc k) a b))

-- one more or not
pub tally_up_cond : (w : ℕ → ℕ) (k n : ℕ) (b : Bool) → tally_up w k (cond b 0 1 + n) ≡ cond b (tally_up w k n) (w k + tally_up w (suc k) n)
tally_up_cond w k n true = let z : 0 + n ≡ n = omega arith in ap (tally_up w k) z
tally_up_cond w k n false = let z : 1 + n ≡ suc n = omega arith in ap (tally_up w k) z

pub tally_up_each : (c k n : ℕ) → tally_up (λ v. c) k n ≡ c * n
tally_up_each c k zero = sym (mul-zero c)
tally_up_each c k (suc n) = omega (arith, tally_up_each c (suc k) n, mul-suc c n)

pub up_from_more : (k a b : ℕ) → up_from k (a + b) ≡ up_from k a ++ up_from (k + a) b
up_from_more k zero b = grind arith
up_from_more k (suc a) b =
    let y : k + suc a ≡ suc k + a = omega arith in
    let z : suc a + b ≡ suc (a + b) = omega arith in
    rw (y, z) (rw (up_from_more (suc k) a b))

-- HOW OFTEN A NUMBER STANDS THERE
-- 1 at v
abbrev pub one : ℕ → ℕ → ℕ
one v t = cond (eqb t v) 1 0

pub one_le : (v t : ℕ) → one v t ≤ 1
one_le v t = grind (arith, nat_tests)

pub count_tally : (v : ℕ) (ts : List ℕ) → count_of v ts ≡ tally (one v) ts
count_tally v [] = refl
count_tally v (t ∷ ts) = omega (arith, count_tally v ts)

-- below a bound: what is not, is counted nowhere
pub below_counts : (n : ℕ) (xs : List ℕ) → AllByRecursion (λ x. x < n) xs → (v : ℕ) → n ≤ v → count_of v xs ≡ 0
below_counts n [] h v l = refl
below_counts n (x ∷ xs) h v l = grind (arith, nat_tests, below_counts n xs h.1 v l)

pub counts_below : (n : ℕ) (xs : List ℕ) → ((v : ℕ) → n ≤ v → count_of v xs ≡ 0) → AllByRecursion (λ x. x < n) xs
counts_below n [] h = tt
counts_below n (x ∷ xs) h = (grind (arith, nat_tests, h x), counts_below n xs (λ v l. omega (arith, h v l)))

-- numbers from a first one on: each once, and no other
pub up_before : (v k n : ℕ) → v < k → tally_up (one v) k n ≡ 0
up_before v k zero l = refl
up_before v k (suc n) l = grind (arith, nat_tests, up_before v (suc k) n)

pub up_once : (v k n : ℕ) → tally_up (one v) k n ≤ 1
up_once v k zero = omega arith
up_once v k (suc n) = grind (arith, nat_tests, up_before v (suc k) n, up_once v (suc k) n)

pub up_within : (v k n : ℕ) → k ≤ v → v < k + n → tally_up (one v) k n ≡ 1
up_within v k zero l u = absurd (omega arith)
up_within v k (suc n) l u = grind (arith, nat_tests, up_before v (suc k) n, up_within v (suc k) n)

pub up_behind : (v k n : ℕ) → k + n ≤ v → tally_up (one v) k n ≡ 0
up_behind v k zero l = refl
up_behind v k (suc n) l = grind (arith, nat_tests, up_behind v (suc k) n)
