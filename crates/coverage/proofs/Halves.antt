-- Where a search by halving has looked, and what it finds in a list.
use Rattle.std.proofs.Common.{◌≡◌, ℕ, ◌+◌, ◌<◌, ◌≤◌, ◌≢◌, true, List, length, get_or, Some, None, Ok, Option, Result, refl, sym, ap, ◌∙◌, inl, inr, arith}
use Rattle.std.proofs.lemmas.Bool.{cases_lt}
use Rattle.std.proofs.lemmas.List.{map-id}
use Rattle.std.specs.Cmp.{nat_cmp_is}
use Rattle.std.specs.Ordering.{nat_cmp}
use Rattle.std.specs.declared.cmp.Ordering.{Ordering}
use Rattle.std.specs.declared.cmp.Ordering.TheVariants.{Less, Equal, Greater}
use Rattle.coverage.specs.Glyphs.{rises, index_in}
use Rattle.coverage.specs.Halving.{Ascends, IsHalvingResult}
use Rattle.coverage.proofs.Lists.{index_at, index_none, ranked, cmp_equal}

-- what is sought is nowhere in front of low, and nowhere from high on
pub record Outside {E : Type 0} (answer : ℕ → Result Ordering E) (n low high : ℕ) : Type 0 where
  pub before : (k : ℕ) → k < low → answer k ≢ Ok Equal
  pub behind : (k : ℕ) → high ≤ k → k < n → answer k ≢ Ok Equal

module _ {E : Type 0} (answer : ℕ → Result Ordering E) (n low high mid : ℕ) (up : Ascends answer n) (o : Outside answer n low high) (lt : mid < n) where
  pub outside_less : (side : Ordering) → answer mid ≡ Ok side → side ≡ Less → Outside answer n (mid + 1) high
  outside_less side is less = record { before = λ k h e. let r = up k mid Equal Less (omega arith) lt e (is ∙ ap Ok less) in omega arith; behind = o.behind }

  pub outside_greater : (side : Ordering) → answer mid ≡ Ok side → side ≢ Equal → side ≢ Less → Outside answer n low mid
  outside_greater Less is e l = absurd (l refl)
  outside_greater Equal is e l = absurd (e refl)
  outside_greater Greater is e l = record { before = o.before; behind = λ k h h' q. let r = up mid k Greater Equal h h' is q in omega arith }

pub outside_none : {E : Type 0} (answer : ℕ → Result Ordering E) (n low high : ℕ) → Outside answer n low high → high ≤ low → (k : ℕ) → k < n → answer k ≢ Ok Equal
outside_none answer n low high o le k lt = elim (cases_lt k low) [ inl h ↦ o.before k h | inr h ↦ o.behind k (omega arith) lt ]

-- where each call compares a glyph of a list that rises
module _ {E : Type 0} (answer : ℕ → Result Ordering E) (gs : List ℕ) (g n : ℕ) (up : rises gs ≡ true) (long : length gs ≡ n) (compared : (k : ℕ) → k < n → answer k ≡ Ok (nat_cmp (get_or gs k 0) g)) where
  ascends : Ascends answer n
  ascends i j a b le lt is is' =
      let r = ranked (λ x. x) gs g (ap rises (map-id gs) ∙ up) i j 0 le (omega arith) in
      let w = compared i (omega arith) in
      let w' = compared j lt in
      let ea : nat_cmp (get_or gs i 0) g ≡ a = cc in
      let eb : nat_cmp (get_or gs j 0) g ≡ b = cc in
      rw (← ea, ← eb) r

  pub index_halved : (r : Option ℕ) → IsHalvingResult answer n (Ok r) → index_in g gs ≡ r
  index_halved (Some k) at =
      let w = compared k at.0 in
      let e : nat_cmp (get_or gs k 0) g ≡ Equal = cc in
      index_at g gs k up (omega arith) (cmp_equal _ _ e)
  index_halved None at = index_none g gs (λ k lt e. at ascends k (omega arith) (compared k (omega arith) ∙ ap (λ t. Ok (nat_cmp t g)) e ∙ ap Ok (sym (nat_cmp_is g g Equal refl))))
