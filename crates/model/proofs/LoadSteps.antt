-- The walk step by step: no place before a path is faulty, from the first path on to the end.
use Rattle.std.proofs.Common.{◌≡◌, ℕ, suc, ◌<◌, ◌≤◌, ◌⊎◌, List, [], ◌∷◌, ◌++◌, length, Option, refl, ap, inl, inr, ⊎_elim, arith}
use Rattle.std.proofs.lemmas.Bool.{cases_lt}
use Rattle.refusals.specs.declared.Refusal.{Refusal}
use Rattle.words.specs.Grammar.{Stream}
use Rattle.coverage.specs.Meaning.{Meant}
use Rattle.model.specs.Loading.{Place, at_lookup, at_extension, at_subtable, at_coverage, at_set, at_ligature, path, Before, Kind, Stands, root, extension, plain, wrapped, coverage, set, ligature, Faulty, FirstFault}
use Rattle.model.proofs.LoadLists.{nth_below}

before_none : (qs : List ℕ) → Before qs [] → ⊥
before_none [] h = h
before_none (q ∷ qs) h = h

-- nothing stands between a path and its first child
into : (xs qs : List ℕ) → Before qs (xs ++ 0 ∷ []) → Before qs xs ⊎ (qs ≡ xs)
into [] [] h = inr refl
into [] (q ∷ qs) h = absurd (⊎_elim (λ l. omega arith) (λ e. before_none qs e.1) h)
into (x ∷ xs) [] h = inl tt
into (x ∷ xs) (q ∷ qs) h =
    ⊎_elim
    (λ l. inl (inl l))
    (λ e. ⊎_elim (λ b. inl (inr (e.0, b))) (λ f. inr (λ i. e.0 i ∷ f i)) (into xs qs e.1))
    h

-- between a path's child b and the next path stand only its children from b on, and what is below these
abbrev Later : List ℕ → ℕ → ℕ → List ℕ → Type 0
Later xs a b qs = (c : ℕ) × (zs : List ℕ) × (b ≤ c) × (qs ≡ xs ++ a ∷ c ∷ zs)

past : (xs : List ℕ) (a b : ℕ) (qs : List ℕ) → Before qs (xs ++ suc a ∷ []) → Before qs (xs ++ a ∷ b ∷ []) ⊎ Later xs a b qs
past [] a b [] h = inl tt
past [] a b (q ∷ qs) h =
    ⊎_elim
    (λ l. ⊎_elim (λ m. inl (inl m)) (λ m. let e : q ≡ a = omega arith in child e qs) (cases_lt q a))
    (λ e. absurd (before_none qs e.1))
    h
  where
    child : q ≡ a → (rs : List ℕ) → Before (q ∷ rs) (a ∷ b ∷ []) ⊎ Later [] a b (q ∷ rs)
    child e [] = inl (inr (e, tt))
    child e (c ∷ zs) = ⊎_elim (λ l. inl (inr (e, inl l))) (λ l. inr (c, zs, l, ap (λ z. z ∷ c ∷ zs) e)) (cases_lt c b)
past (x ∷ xs) a b [] h = inl tt
past (x ∷ xs) a b (q ∷ qs) h =
    ⊎_elim
    (λ l. inl (inl l))
    (λ e. ⊎_elim (λ f. inl (inr (e.0, f))) (λ r. inr (r.0, r.1, r.2, λ i. e.0 i ∷ r.3 i)) (past xs a b qs e.1))
    h

module _ (meaning : List ℕ → Option Meant) (s : Stream) where
  abbrev pub SoundlyPlaced : Place → Type 0
  SoundlyPlaced p = (r : Refusal) → Faulty meaning s p r → ⊥

  -- no place before the path is faulty
  abbrev pub Clear : List ℕ → Type 0
  Clear xs = (p : Place) (r : Refusal) → Before (path p) xs → Faulty meaning s p r → ⊥

  first_number : Place → ℕ
  first_number (at_lookup i) = i
  first_number (at_extension i j) = i
  first_number (at_subtable i j) = i
  first_number (at_coverage i j) = i
  first_number (at_set i j k) = i
  first_number (at_ligature i j k n) = i

  rooted_below : {p : Place} {k : Kind} {v : ℕ} → Stands s p k v → first_number p < length s.roots
  unfolding first_number
  rooted_below (root i v e) = nth_below s.roots i v e
  rooted_below (extension i j v t l x a b c d e) = rooted_below a
  rooted_below (plain i j v t l x a b c d e) = rooted_below a
  rooted_below (wrapped i j e t v a b c) = rooted_below a
  rooted_below (coverage i j v t x a b c) = rooted_below a
  rooted_below (set i j k v t x y a b c d) = rooted_below a
  rooted_below (ligature i j k n c v t y g a b d e) = rooted_below a

  lower_first : (p : Place) (n : ℕ) → first_number p < n → Before (path p) (n ∷ [])
  unfolding first_number
  lower_first (at_lookup i) n l = inl l
  lower_first (at_extension i j) n l = inl l
  lower_first (at_subtable i j) n l = inl l
  lower_first (at_coverage i j) n l = inl l
  lower_first (at_set i j k) n l = inl l
  lower_first (at_ligature i j k n') n l = inl l

  from_first : (p : Place) (n : ℕ) → Before (path p) (n ∷ []) → first_number p < n
  unfolding first_number
  from_first (at_lookup i) n b = ⊎_elim (λ l. l) (λ e. absurd e.1) b
  from_first (at_extension i j) n b = ⊎_elim (λ l. l) (λ e. absurd e.1) b
  from_first (at_subtable i j) n b = ⊎_elim (λ l. l) (λ e. absurd e.1) b
  from_first (at_coverage i j) n b = ⊎_elim (λ l. l) (λ e. absurd e.1) b
  from_first (at_set i j k) n b = ⊎_elim (λ l. l) (λ e. absurd e.1) b
  from_first (at_ligature i j k n') n b = ⊎_elim (λ l. l) (λ e. absurd e.1) b

  -- before the first lookup there is nothing
  pub clear_start : Clear (0 ∷ [])
  clear_start p r b f = let l = from_first p 0 b in omega arith

  -- a fault where all before is clear is the first
  pub clear_fault : (p : Place) (r : Refusal) → Clear (path p) → Faulty meaning s p r → FirstFault meaning s r
  clear_fault p r c f = record { place = p; faulty = f; first = c }

  -- on to the first child; a path that is no place's is passed by freely
  pub clear_into : (xs : List ℕ) → Clear xs → ((p : Place) → path p ≡ xs → SoundlyPlaced p) → Clear (xs ++ 0 ∷ [])
  clear_into xs c h p r b f = ⊎_elim (λ d. c p r d f) (λ e. h p e r f) (into xs (path p) b)

  -- on to the next path, where from child b on nothing stands or nothing is faulty
  pub clear_past : (xs : List ℕ) (a b : ℕ) → Clear (xs ++ a ∷ b ∷ []) → ((p : Place) (c : ℕ) (zs : List ℕ) → b ≤ c → path p ≡ xs ++ a ∷ c ∷ zs → SoundlyPlaced p) → Clear (xs ++ suc a ∷ [])
  clear_past xs a b c h p r d f = ⊎_elim (λ e. c p r e f) (λ e. h p e.0 e.1 e.2 e.3 r f) (past xs a b (path p) d)

  -- behind the last root all is clear
  pub clear_end : (n : ℕ) → Clear (n ∷ []) → length s.roots ≤ n → (p : Place) → SoundlyPlaced p
  clear_end n c l p r f = c p r (lower_first p n (let k = rooted_below f.stands in omega arith)) f
