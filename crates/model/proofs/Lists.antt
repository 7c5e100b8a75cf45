-- Lists: what holds of each element, elements by number, one element put in another's place, how often a number stands.
use Rattle.std.proofs.Common.{◌≡◌, ℕ, zero, suc, ◌+◌, ◌≤◌, Bool, cond, eqb, List, [], ◌∷◌, ◌++◌, map, length, set, IfSome, Some, None, Option, refl, ap, subst, arith}
use Rattle.std.specs.Option.{option_to_list}
use Rattle.std.specs.List.{flat_map, AllByRecursion}
use Rattle.std.proofs.ByRecursion.{All-append}
use Rattle.std.proofs.lemmas.Bool.{eq-eqb, ne_eqb, cond-true, cond-false}
use Rattle.std.proofs.lemmas.Option.{same_Some}
use Rattle.std.proofs.lemmas.Bool.Decides.{nat_tests}
use Rattle.model.specs.Rules.{nth}
use Rattle.model.specs.Tables.{count_of}
use Rattle.model.specs.Sound.{Distinct}

-- WHAT HOLDS OF EACH
pub all_front : {X : Type 0} (P : X → Type 0) (xs ys : List X) → AllByRecursion P (xs ++ ys) → AllByRecursion P xs
all_front P [] ys h = tt
all_front P (x ∷ xs) ys h = (h.0, all_front P xs ys h.1)

pub all_back : {X : Type 0} (P : X → Type 0) (xs ys : List X) → AllByRecursion P (xs ++ ys) → AllByRecursion P ys
all_back P [] ys h = h
all_back P (x ∷ xs) ys h = all_back P xs ys h.1

pub all_parts_lem : {X : Type 0} (P : X → Type 0) (xs ys : List X) → AllByRecursion P (xs ++ ys) → AllByRecursion P xs × AllByRecursion P ys
all_parts_lem P xs ys h = (all_front P xs ys h, all_back P xs ys h)

pub all_any : {X : Type 0} (P : X → Type 0) → ((x : X) → P x) → (xs : List X) → AllByRecursion P xs
all_any P f [] = tt
all_any P f (x ∷ xs) = (f x, all_any P f xs)

pub all_both : {X : Type 0} (P Q : X → Type 0) (xs : List X) → AllByRecursion P xs → AllByRecursion Q xs → AllByRecursion (λ (x : X). P x × Q x) xs
all_both P Q [] p q = tt
all_both P Q (x ∷ xs) p q = ((p.0, q.0), all_both P Q xs p.1 q.1)

pub all_mapped : {X Y : Type 0} (P : Y → Type 0) (f : X → Y) (xs : List X) → AllByRecursion P (map f xs) → AllByRecursion (λ (x : X). P (f x)) xs
all_mapped P f [] h = tt
all_mapped P f (x ∷ xs) h = (h.0, all_mapped P f xs h.1)

pub all_joined : {X Y : Type 0} (P : Y → Type 0) (f : X → List Y) (xs : List X) → AllByRecursion (λ (x : X). AllByRecursion P (f x)) xs → AllByRecursion P (flat_map f xs)
all_joined P f [] h = tt
all_joined P f (x ∷ xs) h = All-append P (f x) (flat_map f xs) h.0 (all_joined P f xs h.1)

pub joined_all : {X Y : Type 0} (P : Y → Type 0) (f : X → List Y) (xs : List X) → AllByRecursion P (flat_map f xs) → AllByRecursion (λ (x : X). AllByRecursion P (f x)) xs
joined_all P f [] h = tt
joined_all P f (x ∷ xs) h = (all_front P (f x) (flat_map f xs) h, joined_all P f xs (all_back P (f x) (flat_map f xs) h))

-- ELEMENTS BY NUMBER
pub all-nth : {X : Type 0} (P : X → Type 0) (xs : List X) (n : ℕ) (x : X) → nth xs n ≡ Some x → AllByRecursion P xs → P x
all-nth P [] n x e h = cc
all-nth P (y ∷ xs) zero x e h = subst P (same_Some _ _ e) h.0
all-nth P (y ∷ xs) (suc n) x e h = all-nth P xs n x e h.1

pub nth_set_same : {X : Type 0} (xs : List X) (n : ℕ) (x y : X) → nth xs n ≡ Some x → nth (set xs n y) n ≡ Some y
nth_set_same [] n x y h = cc
nth_set_same (w ∷ xs) zero x y h = refl
nth_set_same (w ∷ xs) (suc n) x y h = nth_set_same xs n x y h

pub nth_set_other : {X : Type 0} (xs : List X) (n k : ℕ) (y : X) → (k ≡ n → ⊥) → nth (set xs n y) k ≡ nth xs k
nth_set_other [] n k y ne = refl
nth_set_other (w ∷ xs) zero zero y ne = absurd (ne refl)
nth_set_other (w ∷ xs) zero (suc k) y ne = refl
nth_set_other (w ∷ xs) (suc n) zero y ne = refl
nth_set_other (w ∷ xs) (suc n) (suc k) y ne = nth_set_other xs n k y (λ e. ne (ap suc e))

-- what does not see a change at n sees none anywhere
pub nth_set_kept : {X : Type 0} (P : Option X → Option X → Type 0) (xs : List X) (n : ℕ) (x y : X) → nth xs n ≡ Some x → P (Some y) (Some x) → ((o : Option X) → P o o) → (k : ℕ) → P (nth (set xs n y) k) (nth xs k)
nth_set_kept P [] n x y h p same k = cc
nth_set_kept P (w ∷ xs) zero x y h p same zero = rw h p
nth_set_kept P (w ∷ xs) zero x y h p same (suc k) = same (nth xs k)
nth_set_kept P (w ∷ xs) (suc n) x y h p same zero = same (Some w)
nth_set_kept P (w ∷ xs) (suc n) x y h p same (suc k) = nth_set_kept P xs n x y h p same k

-- AT MOST ONE ELEMENT
pub option_few : {X : Type 0} (o : Option X) → length (option_to_list o) ≤ 1
option_few None = omega arith
option_few (Some x) = omega arith

pub option_all : {X : Type 0} (P : X → Type 0) (o : Option X) → IfSome o P → AllByRecursion P (option_to_list o)
option_all P None h = tt
option_all P (Some x) h = (h, tt)

-- HOW OFTEN A NUMBER STANDS
abbrev pub one : Bool → ℕ
one b = cond b 1 0

pub one_same : (a b : ℕ) → a ≡ b → one (eqb a b) ≡ 1
one_same a b e = cond-true (eqb a b) 1 0 (eq-eqb a b e)

pub one_other : (a b : ℕ) → (a ≡ b → ⊥) → one (eqb a b) ≡ 0
one_other a b o = cond-false (eqb a b) 1 0 (ne_eqb a b o)

pub count_append : (v : ℕ) (us vs : List ℕ) → count_of v (us ++ vs) ≡ count_of v us + count_of v vs
count_append v [] vs = omega arith
count_append v (u ∷ us) vs = omega (arith, count_append v us vs)

pub distinct_count : (vs : List ℕ) → Distinct vs → (v : ℕ) → count_of v vs ≤ 1
distinct_count [] d v = omega arith
distinct_count (u ∷ us) d v = grind (arith, nat_tests, distinct_count us d.1 v)

pub count_distinct : (vs : List ℕ) → ((v : ℕ) → count_of v vs ≤ 1) → Distinct vs
count_distinct [] h = tt
count_distinct (u ∷ us) h = (grind (arith, nat_tests, h u), count_distinct us (λ v. omega (arith, h v)))
