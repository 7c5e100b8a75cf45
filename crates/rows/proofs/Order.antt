-- Keys are in a strict total order, and the tests tell it.
use Rattle.std.proofs.Common.{Ordering, Less, Equal, Greater, ◌≡◌, ◌≤◌, true, false, ◌≢◌, ⊎_elim, arith}
use Rattle.std.specs.Ordering.{MatchOrdering, nat_cmp, ordering_then, ordering_index}
use Rattle.std.proofs.lemmas.Bool.Decides.{nat_tests}
use Rattle.rows.specs.declared.RowKey.{RowKey}
use Rattle.rows.specs.Keys.{precedes, same, Before}
use Rattle.rows.specs.Laws.{Lexicographic, Ordered, Irreflexive, Transitive}

-- the order that `RowKey` derives
abbrev pub key_cmp : RowKey → RowKey → Ordering
key_cmp k l = ordering_then (nat_cmp k.list l.list) (nat_cmp k.place l.place)

pub lexicographic : Lexicographic
lexicographic k l = (λ b. grind (arith, nat_tests), λ s. grind (arith, nat_tests))

same_key : (k l : RowKey) → k.list ≡ l.list → k.place ≡ l.place → k ≡ l
same_key k l p q = let e : ◌≡◌ {A = RowKey} (record { list = k.list; place = k.place }) (record { list = l.list; place = l.place }) = cc in e

pub cases_key : Ordered
cases_key k l = grind (arith, nat_tests)

pub before_irrefl : Irreflexive
before_irrefl k b = grind (arith, nat_tests)

pub before_trans : Transitive
before_trans k l m b d = grind (arith, nat_tests)

pub not_back : (k l : RowKey) → Before k l → precedes l k ≡ false
not_back k l b = grind (arith, nat_tests)

pub not_before_self : (k l : RowKey) → k ≡ l → precedes k l ≡ false
not_before_self k l e = rw e (grind (arith, nat_tests))

pub same_from_eq : (k l : RowKey) → k ≡ l → same k l ≡ true
same_from_eq k l e = rw e (grind (arith, nat_tests))

pub eq_from_same : (k l : RowKey) → same k l ≡ true → k ≡ l
eq_from_same k l e = same_key k l (grind (arith, nat_tests)) (grind (arith, nat_tests))

pub apart_before : (k l : RowKey) → Before k l → same k l ≡ false
apart_before k l b = grind (arith, nat_tests)

pub apart_after : (k l : RowKey) → Before l k → same k l ≡ false
apart_after k l b = grind (arith, nat_tests)

pub apart : (k l : RowKey) → k ≢ l → same k l ≡ false
apart k l n = ⊎_elim (λ e. absurd (n e)) (⊎_elim (apart_before k l) (apart_after k l)) (cases_key k l)

-- what the order of keys answers, and that it does not fall along keys that rise
pub ranked : (k l : RowKey) (o : Ordering) → o ≡ key_cmp k l → MatchOrdering o (Before k l) (k ≡ l) (Before l k)
ranked k l Less e = grind (arith, nat_tests)
ranked k l Equal e = same_key k l (grind (arith, nat_tests)) (grind (arith, nat_tests))
ranked k l Greater e = grind (arith, nat_tests)

pub rank_rises : (k l m : RowKey) → Before k l → ordering_index (key_cmp k m) ≤ ordering_index (key_cmp l m)
rank_rises k l m b = grind (arith, nat_tests)
