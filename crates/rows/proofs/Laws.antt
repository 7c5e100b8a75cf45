-- The laws of keyed rows: each is a short induction over the rows.
use Rattle.std.proofs.Common.{◌≡◌, ℕ, zero, suc, ◌<◌, false, cond, List, [], ◌∷◌, length, get_or, Some, None, sym, refl, ap, ◌∙◌, subst, inl, inr, ⊎_elim, add-one, arith}
use Rattle.std.specs.List.{AllByRecursion}
use Rattle.std.proofs.ByRecursion.{All-get_or, All-weaker, has_append_right}
use Rattle.std.proofs.lemmas.Bool.{cases_Bool}
use Rattle.rows.specs.declared.RowKey.{RowKey}
use Rattle.rows.specs.Keys.{precedes, same, Before}
use Rattle.rows.specs.Rows.{Rising, row_of, with_row, without_row, Answered}
use Rattle.rows.specs.Laws.{RisingPairs, RisingFromNeighbours, LookUpSound, LookUpComplete, FoundAfterPut, OthersAfterPut, GoneAfterRemove, OthersAfterRemove, RisingAfterPut, RisingAfterRemove, CountAfterPut, CountAfterRemove, ToldByLookUps}
use Rattle.rows.proofs.Order.{before_trans, cases_key, not_back, not_before_self, same_from_eq, eq_from_same, apart_before, apart_after, apart}

-- what stands before a row stands before all that follow it
pub behind : {X : Type 0} (key : X → RowKey) (k : RowKey) (x : X) (xs : List X) → Before k (key x) → AllByRecursion (λ y. Before (key x) (key y)) xs → AllByRecursion (λ y. Before k (key y)) xs
behind key k x xs h = All-weaker (λ y. Before (key x) (key y)) (λ y. Before k (key y)) (λ y. before_trans k (key x) (key y) h) xs

-- a key before all rows is the key of none
pub none_behind : {X : Type 0} (key : X → RowKey) (k : RowKey) (xs : List X) → AllByRecursion (λ x. Before k (key x)) xs → row_of key k xs ≡ None
none_behind key k [] a = refl
none_behind key k (x ∷ xs) a = let s = apart_after (key x) k a.0 in rw s (none_behind key k xs a.1)

pub rising_pairs : {X : Type 0} (key : X → RowKey) → RisingPairs key
rising_pairs key [] up i j d lt in' = absurd (omega arith)
rising_pairs key (x ∷ xs) up i zero d lt in' = absurd (omega arith)
rising_pairs key (x ∷ xs) up zero (suc j) d lt in' = All-get_or (λ y. Before (key x) (key y)) xs j d (omega arith) up.0
rising_pairs key (x ∷ xs) up (suc i) (suc j) d lt in' = rising_pairs key xs up.1 i j d (omega arith) (omega arith)

pub rising_from_neighbours : {X : Type 0} (key : X → RowKey) → RisingFromNeighbours key
rising_from_neighbours key [] h = tt
rising_from_neighbours key (x ∷ []) h = (tt, tt)
rising_from_neighbours key (x ∷ y ∷ ys) h =
    let r = rising_from_neighbours key (y ∷ ys) (λ i d lt. rw add-one (rw add-one at (h (suc i) d (omega arith)))) in
    let b : Before (key x) (key y) = h 0 x (omega arith) in
    ((b, behind key (key x) y ys b r.0), r)

pub look_up_sound : {X : Type 0} (key : X → RowKey) → LookUpSound key
look_up_sound key [] k x e = let z : ◌≡◌ {A = ℕ} 0 1 = cc in absurd (omega arith)
look_up_sound key (y ∷ ys) k x e =
    ⊎_elim
    (λ s. let e' : Some y ≡ Some x = rw s at e in let q : y ≡ x = cc in ((0, omega arith, λ d. q), ap key (sym q) ∙ eq_from_same (key y) k s))
    (λ s. let h = look_up_sound key ys k x (rw s at e) in (has_append_right (y ∷ []) ys x h.0, h.1))
    (cases_Bool (same (key y) k))

look_up_at : {X : Type 0} (key : X → RowKey) (xs : List X) (i : ℕ) (d : X) → Rising key xs → i < length xs → row_of key (key (get_or xs i d)) xs ≡ Some (get_or xs i d)
look_up_at key [] i d up in' = absurd (omega arith)
look_up_at key (x ∷ xs) zero d up in' = rw (same_from_eq (key x) (key x) refl)
look_up_at key (x ∷ xs) (suc i) d up in' =
    let in'' : i < length xs = omega arith in
    let s = apart_before (key x) (key (get_or xs i d)) (All-get_or (λ y. Before (key x) (key y)) xs i d in'' up.0) in
    rw s (look_up_at key xs i d up.1 in'')

pub look_up_complete : {X : Type 0} (key : X → RowKey) → LookUpComplete key
look_up_complete key xs up x has = subst (λ t. row_of key (key t) xs ≡ Some t) (has.2 x) (look_up_at key xs has.0 x up has.1)

-- so an answer that is one of them, with the key sought, is what it finds
pub found_from_answer : {X : Type 0} (key : X → RowKey) (k : RowKey) (xs : List X) (x : X) → Answered key k xs (Some x) → Rising key xs → Some x ≡ row_of key k xs
found_from_answer key k xs x a up =
    sym (subst (λ l. row_of key l xs ≡ Some x) (a.keyed x refl) (look_up_complete key xs up x (a.used x refl)))

pub found_after_put : {X : Type 0} (key : X → RowKey) → FoundAfterPut key
found_after_put key r [] = rw (same_from_eq (key r) (key r) refl)
found_after_put key r (x ∷ xs) =
    let s = same_from_eq (key r) (key r) refl in
    ⊎_elim
    (λ e. let b = not_before_self (key x) (key r) e in let t = same_from_eq (key x) (key r) e in rw (b, t, s))
    (⊎_elim
    (λ b. let t = apart_before (key x) (key r) b in rw (b, t) (found_after_put key r xs))
    (λ h. let b = not_back (key r) (key x) h in let t = apart_after (key x) (key r) h in rw (b, t, s)))
    (cases_key (key x) (key r))

pub others_after_put : {X : Type 0} (key : X → RowKey) → OthersAfterPut key
others_after_put key r [] k n = let s = apart (key r) k (λ e. n (sym e)) in rw s
others_after_put key r (x ∷ xs) k n =
    let s = apart (key r) k (λ e. n (sym e)) in
    ⊎_elim
    (λ e. let b = not_before_self (key x) (key r) e in let t = same_from_eq (key x) (key r) e in
    let u = apart (key x) k (λ q. n (sym q ∙ e)) in rw (b, t, s, u))
    (⊎_elim
    (λ b. rw b (ap (cond (same (key x) k) (Some x)) (others_after_put key r xs k n)))
    (λ h. let b = not_back (key r) (key x) h in let t = apart_after (key x) (key r) h in rw (b, t, s)))
    (cases_key (key x) (key r))

pub gone_after_remove : {X : Type 0} (key : X → RowKey) → GoneAfterRemove key
gone_after_remove key k [] up = refl
gone_after_remove key k (x ∷ xs) up =
    elim (cases_Bool (same (key x) k)) [
      | inl s ↦ rw s (none_behind key k xs (subst (λ t. AllByRecursion (λ y. Before t (key y)) xs) (eq_from_same (key x) k s) up.0))
      | inr s ↦ rw (s, s) (gone_after_remove key k xs up.1)
    ]

pub others_after_remove : {X : Type 0} (key : X → RowKey) → OthersAfterRemove key
others_after_remove key k [] l n = refl
others_after_remove key k (x ∷ xs) l n =
    ⊎_elim
    (λ s. let u = apart (key x) l (λ q. n (sym q ∙ eq_from_same (key x) k s)) in rw (s, u))
    (λ s. rw s (ap (cond (same (key x) l) (Some x)) (others_after_remove key k xs l n)))
    (cases_Bool (same (key x) k))

-- what holds of the row and of all rows holds of all rows with it
pub all_with_row : {X : Type 0} (key : X → RowKey) (P : X → Type 0) (r : X) (xs : List X) → P r → AllByRecursion P xs → AllByRecursion P (with_row key r xs)
all_with_row key P r [] p a = (p, tt)
all_with_row key P r (x ∷ xs) p a =
    elim (cases_Bool (precedes (key x) (key r))) [
      | inl b ↦ rw b (a.0, all_with_row key P r xs p a.1)
      | inr b ↦ elim (cases_Bool (same (key x) (key r))) [ inl s ↦ rw (b, s) (p, a.1) | inr s ↦ rw (b, s) (p, a) ]
    ]

pub all_without_row : {X : Type 0} (key : X → RowKey) (P : X → Type 0) (k : RowKey) (xs : List X) → AllByRecursion P xs → AllByRecursion P (without_row key k xs)
all_without_row key P k [] a = tt
all_without_row key P k (x ∷ xs) a =
    ⊎_elim (λ s. rw s a.1) (λ s. rw s (a.0, all_without_row key P k xs a.1)) (cases_Bool (same (key x) k))

pub rising_after_put : {X : Type 0} (key : X → RowKey) → RisingAfterPut key
rising_after_put key r [] up = (tt, tt)
rising_after_put key r (x ∷ xs) up =
    ⊎_elim
    (λ e. let b = not_before_self (key x) (key r) e in let t = same_from_eq (key x) (key r) e in
    rw (b, t) (subst (λ u. AllByRecursion (λ y. Before u (key y)) xs) e up.0, up.1))
    (⊎_elim
    (λ b. rw b (all_with_row key (λ y. Before (key x) (key y)) r xs b up.0, rising_after_put key r xs up.1))
    (λ h. let b = not_back (key r) (key x) h in let t = apart_after (key x) (key r) h in
    rw (b, t) ((h, behind key (key r) x xs h up.0), up)))
    (cases_key (key x) (key r))

pub rising_after_remove : {X : Type 0} (key : X → RowKey) → RisingAfterRemove key
rising_after_remove key k [] up = tt
rising_after_remove key k (x ∷ xs) up =
    ⊎_elim
    (λ s. rw s up.1)
    (λ s. rw s (all_without_row key (λ y. Before (key x) (key y)) k xs up.0, rising_after_remove key k xs up.1))
    (cases_Bool (same (key x) k))

pub count_after_put : {X : Type 0} (key : X → RowKey) → CountAfterPut key
count_after_put key r [] up = omega arith
count_after_put key r (x ∷ xs) up =
    ⊎_elim
    (λ e. let b = not_before_self (key x) (key r) e in let t = same_from_eq (key x) (key r) e in rw (b, t) (omega arith))
    (⊎_elim
    (λ b. let t = apart_before (key x) (key r) b in let h = count_after_put key r xs up.1 in rw (b, t) (omega arith))
    (λ h. let b = not_back (key r) (key x) h in let t = apart_after (key x) (key r) h in
    let z = none_behind key (key r) xs (behind key (key r) x xs h up.0) in rw (b, t, z) (omega arith)))
    (cases_key (key x) (key r))

pub count_after_remove : {X : Type 0} (key : X → RowKey) → CountAfterRemove key
count_after_remove key k [] = omega arith
count_after_remove key k (x ∷ xs) =
    ⊎_elim (λ s. rw s (omega arith)) (λ s. let h = count_after_remove key k xs in rw s (omega arith)) (cases_Bool (same (key x) k))

-- a row is not found among rows that all stand behind it
never : {X : Type 0} (key : X → RowKey) (x : X) (xs ys : List X) → AllByRecursion (λ y. Before (key x) (key y)) ys → row_of key (key x) (x ∷ xs) ≡ row_of key (key x) ys → ⊥
never {X} key x xs ys a e =
    let s = same_from_eq (key x) (key x) refl in
    let e' : Some x ≡ row_of key (key x) ys = rw s at e in
    let n = none_behind key (key x) ys a in
    let z : ◌≡◌ {A = ℕ} 0 1 = cc in omega arith

-- behind first rows of one key, the rest has the same look-ups
tails : {X : Type 0} (key : X → RowKey) (x : X) (xs : List X) (y : X) (ys : List X) → key x ≡ key y → Rising key (x ∷ xs) → Rising key (y ∷ ys) → ((k : RowKey) → row_of key k (x ∷ xs) ≡ row_of key k (y ∷ ys)) → (k : RowKey) → row_of key k xs ≡ row_of key k ys
tails key x xs y ys e up vp h k =
    ⊎_elim
    (λ s. let q = eq_from_same (key x) k s in
    let a = none_behind key k xs (subst (λ u. AllByRecursion (λ z. Before u (key z)) xs) q up.0) in
    let b = none_behind key k ys (subst (λ u. AllByRecursion (λ z. Before u (key z)) ys) (sym e ∙ q) vp.0) in
    a ∙ sym b)
    (λ s. let t : same (key y) k ≡ false = subst (λ u. same u k ≡ false) e s in rw (s, t) at (h k))
    (cases_Bool (same (key x) k))

pub told_by_look_ups : {X : Type 0} (key : X → RowKey) → ToldByLookUps key
told_by_look_ups key [] [] up vp h = refl
told_by_look_ups key [] (y ∷ ys) up vp h = absurd (never key y ys [] tt (sym (h (key y))))
told_by_look_ups key (x ∷ xs) [] up vp h = absurd (never key x xs [] tt (h (key x)))
told_by_look_ups key (x ∷ xs) (y ∷ ys) up vp h =
    ⊎_elim
    (λ e. let s = same_from_eq (key x) (key x) refl in
    let t = same_from_eq (key y) (key x) (sym e) in
    let q : Some x ≡ Some y = rw (s, t) at (h (key x)) in
    let p : x ≡ y = cc in
    let rest = told_by_look_ups key xs ys up.1 vp.1 (tails key x xs y ys e up vp h) in cc)
    (⊎_elim
    (λ b. absurd (never key x xs (y ∷ ys) (b, behind key (key x) y ys b vp.0) (h (key x))))
    (λ b. absurd (never key y ys (x ∷ xs) (b, behind key (key y) x xs b up.0) (sym (h (key y))))))
    (cases_key (key x) (key y))
