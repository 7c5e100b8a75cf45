-- The groups of a part, by set: which get their own vertex and how many get a new one.
use Rattle.std.proofs.Common.{◌≡◌, ℕ, ◌+◌, ◌<◌, false, cond, ◌||◌, eqb, List, [], ◌∷◌, sym, refl, ap, ◌∙◌, ⊎_elim, arith}
use Rattle.std.specs.List.{AllByRecursion}
use Rattle.std.proofs.lemmas.Bool.{eq-eqb, ne_eqb, cond-true, cond-false}
use Rattle.std.proofs.Math.Bool.{or_self_left}
use Rattle.std.proofs.lemmas.Bool.Decides.{nat_tests}
use Rattle.model.proofs.KeepSizes.{Starts, join_starts}
use Rattle.model.specs.Forest.{LigatureSet}
use Rattle.model.specs.Cutting.{Entry}
use Rattle.model.specs.Splitting.{Group, alone, with_first, join_group, groups, has}
use Rattle.model.proofs.NumberSums.{tally}
use Rattle.model.proofs.NumberEntries.{Run, tally_sets, sets_same, sets_plus, sets_none, Owned, opening}

-- by set and owner
abbrev pub by_owner : (ℕ → ℕ → ℕ) → Group → ℕ
by_owner h t = h t.set t.owner

join_same : (h : ℕ → ℕ → ℕ) (e : Entry) (i : ℕ) (ts : List Group) → Starts i ts → e.set ≡ i → tally (by_owner h) (join_group e ts) ≡ tally (by_owner h) ts
join_same h e i [] l q = absurd l
join_same h e i (t ∷ ts) l q = ap (tally (by_owner h)) (cond-true (eqb e.set t.set) (with_first e.ligature t ∷ ts) (alone e ∷ t ∷ ts) (eq-eqb e.set t.set (q ∙ sym l)))

join_other : (h : ℕ → ℕ → ℕ) (e : Entry) (i : ℕ) (ts : List Group) → Starts i ts → (e.set ≡ i → ⊥) → tally (by_owner h) (join_group e ts) ≡ h e.set e.owner + tally (by_owner h) ts
join_other h e i [] l q = absurd l
join_other h e i (t ∷ ts) l q =
    ap (tally (by_owner h)) (cond-false (eqb e.set t.set) (with_first e.ligature t ∷ ts) (alone e ∷ t ∷ ts) (ne_eqb e.set t.set (λ r. q (r ∙ l))))

-- no entry of a run is of an earlier set
has_not : (i : ℕ) (e : Entry) (es : List Entry) → Run (e ∷ es) → i < e.set → has i (e ∷ es) ≡ false
has_not i e [] r l = grind (arith, nat_tests)
has_not i e (f ∷ fs) r l = grind (arith, nat_tests, r.0, has_not i f fs r.1)

-- groups of a run, summed up by the indices of the sets
module _ (ts : List LigatureSet) (h : ℕ → ℕ → ℕ) where
  abbrev present : List Entry → ℕ → LigatureSet → ℕ
  present p k t = cond (has k p) (h k t.vertex) 0

  apart : (e : Entry) (es : List Entry) → ((k : ℕ) → e.set ≡ k → has k es ≡ false) → (k : ℕ) (t : LigatureSet)
      → present (e ∷ es) k t ≡ cond (eqb e.set k) (h k t.vertex) 0 + present es k t
  apart e es n k t = grind (arith, nat_tests, n k)

  one_more : (e : Entry) (es : List Entry) → Owned 0 ts e → ((k : ℕ) → e.set ≡ k → has k es ≡ false)
      → tally_sets (present (e ∷ es)) 0 ts ≡ h e.set e.owner + tally_sets (present es) 0 ts
  one_more e es o n =
      let a = sets_same (present (e ∷ es)) (λ k t. cond (eqb e.set k) (h k t.vertex) 0 + present es k t) (apart e es n) 0 ts in
      let b = sets_plus (λ k t. cond (eqb e.set k) (h k t.vertex) 0) (present es) 0 ts in
      let c = o.tells h in
      omega arith

  pub groups_weigh : (p : List Entry) → Run p → AllByRecursion (Owned 0 ts) p → tally (by_owner h) (groups p) ≡ tally_sets (λ k t. cond (has k p) (h k t.vertex) 0) 0 ts
  groups_weigh [] r o = sym (sets_none 0 ts)
  groups_weigh (e ∷ []) r o =
      let a = one_more e [] o.0 (λ k q. refl) in
      let b = sets_none 0 ts in
      omega arith
  groups_weigh (e ∷ f ∷ fs) r o =
      let ih = groups_weigh (f ∷ fs) r.1 o.1 in
      let l = join_starts f (groups fs) in
      ⊎_elim
      (λ (s : (e.set ≡ f.set) × (0 < f.place)).
      let a = join_same h e f.set (groups (f ∷ fs)) l s.0 in
      let b = sets_same (present (e ∷ f ∷ fs)) (present (f ∷ fs)) (λ k t. ap (λ b. cond b (h k t.vertex) 0) (ap (λ x. eqb x k || has k (f ∷ fs)) s.0 ∙ or_self_left (eqb f.set k) (has k fs))) 0 ts in
      a ∙ ih ∙ sym b)
      (λ (s : (e.set < f.set) × (f.place ≡ 0)).
      let lt : e.set < f.set = s.0 in
      let a = join_other h e f.set (groups (f ∷ fs)) l (λ q. omega arith) in
      let b = one_more e (f ∷ fs) o.0 (λ k q. has_not k f fs r.1 (omega arith)) in
      omega arith)
      r.0

-- as many groups as entries that open a set, and one more where the first does not
abbrev pub within : List Entry → ℕ
within [] = 0
within (e ∷ es) = cond (eqb e.place 0) 0 1

pub within_not : (e : Entry) (es : List Entry) → e.place ≡ 0 → within (e ∷ es) ≡ 0
within_not e es h = cond-true (eqb e.place 0) 0 1 (eq-eqb e.place 0 h)

pub within_so : (e : Entry) (es : List Entry) → 0 < e.place → within (e ∷ es) ≡ 1
within_so e es h = cond-false (eqb e.place 0) 0 1 (ne_eqb e.place 0 (λ q. omega arith))

either : (e : Entry) (es : List Entry) → opening e + within (e ∷ es) ≡ 1
either e es = grind (arith, nat_tests)

abbrev each_one : ℕ → ℕ → ℕ
each_one i v = 1

pub groups_count : (p : List Entry) → Run p → tally (λ (t : Group). 1) (groups p) ≡ tally opening p + within p
groups_count [] r = refl
groups_count (e ∷ []) r = let a = either e [] in omega arith
groups_count (e ∷ f ∷ fs) r =
    let ih = groups_count (f ∷ fs) r.1 in
    let l = join_starts f (groups fs) in
    let x = either e (f ∷ fs) in
    ⊎_elim
    (λ (s : (e.set ≡ f.set) × (0 < f.place)).
    let a = join_same each_one e f.set (groups (f ∷ fs)) l s.0 in
    let b = within_so f fs s.1 in
    omega arith)
    (λ (s : (e.set < f.set) × (f.place ≡ 0)).
    let lt : e.set < f.set = s.0 in
    let a = join_other each_one e f.set (groups (f ∷ fs)) l (λ q. omega arith) in
    let b = within_not f fs s.1 in
    omega arith)
    r.0
