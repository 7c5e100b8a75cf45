-- Faults by the rest of the rows: none, or a first one.
use Rattle.std.proofs.Common.{◌≡◌, ℕ, zero, suc, ◌<◌, ◌⊎◌, List, [], ◌∷◌, ◌++◌, length, Some, None, Option, inl, inr, ⊎_elim, arith}
use Rattle.std.specs.List.{AllByRecursion}
use Rattle.rows.specs.declared.LinkRow.{LinkRow}
use Rattle.graph.specs.declared.VertexRow.{VertexRow}
use Rattle.graph.specs.Memory.{vertex_at}
use Rattle.loose.specs.Faults.{row_at, Fault, Faulty, Faultless, FirstFault}

-- the row that stands in front of rows behind xs
abbrev pub last : Option LinkRow → List LinkRow → Option LinkRow
last b [] = b
last b (r ∷ rs) = last (Some r) rs

module _ (vs : List VertexRow) where
  abbrev pub Wrong : Option LinkRow → LinkRow → Type 0
  Wrong b r = Fault (length vs) (vertex_at vs r.owner).size b r

  abbrev pub Free : Option LinkRow → List LinkRow → Type 0
  Free b [] = Unit {0}
  Free b (r ∷ rs) = (Wrong b r → ⊥) × Free (Some r) rs

  abbrev pub Stops : Option LinkRow → List LinkRow → ℕ → Type 0
  Stops b [] u = ⊥
  Stops b (r ∷ rs) u = (Wrong b r × (r.owner ≡ u)) ⊎ ((Wrong b r → ⊥) × Stops (Some r) rs u)

  -- FROM THE PLACES OF ROWS
  abbrev before_from : Option LinkRow → List LinkRow → ℕ → Option LinkRow
  before_from b rows zero = b
  before_from b rows (suc j) = Some (row_at rows j)

  abbrev WrongAt : Option LinkRow → List LinkRow → ℕ → Type 0
  WrongAt b rows i = Wrong (before_from b rows i) (row_at rows i)

  on : (b : Option LinkRow) (r : LinkRow) (rs : List LinkRow) (i : ℕ) → WrongAt (Some r) rs i → WrongAt b (r ∷ rs) (suc i)
  on b r rs zero f = f
  on b r rs (suc i) f = f

  back : (b : Option LinkRow) (r : LinkRow) (rs : List LinkRow) (i : ℕ) → WrongAt b (r ∷ rs) (suc i) → WrongAt (Some r) rs i
  back b r rs zero f = f
  back b r rs (suc i) f = f

  none_at : (b : Option LinkRow) (rows : List LinkRow) → ((i : ℕ) → i < length rows → WrongAt b rows i → ⊥) → Free b rows
  none_at b [] h = tt
  none_at b (r ∷ rs) h = (h 0 (omega arith), none_at (Some r) rs (λ i l f. h (suc i) (omega arith) (on b r rs i f)))

  stops_at : (b : Option LinkRow) (rows : List LinkRow) (u i : ℕ) → i < length rows → (row_at rows i).owner ≡ u → WrongAt b rows i → ((k : ℕ) → k < i → WrongAt b rows k → ⊥) → Stops b rows u
  stops_at b [] u i l e f h = absurd (omega arith)
  stops_at b (r ∷ rs) u zero l e f h = inl (f, e)
  stops_at b (r ∷ rs) u (suc i) l e f h = inr (h 0 (omega arith), stops_at (Some r) rs u i (omega arith) e (back b r rs i f) (λ k m g. h (suc k) (omega arith) (on b r rs k g)))

  at_start : (rows : List LinkRow) (i : ℕ) → Faulty vs rows i → WrongAt None rows i
  at_start rows zero f = f
  at_start rows (suc i) f = f

  from_start : (rows : List LinkRow) (i : ℕ) → WrongAt None rows i → Faulty vs rows i
  from_start rows zero f = f
  from_start rows (suc i) f = f

  pub free_all : (rows : List LinkRow) → Faultless vs rows → Free None rows
  free_all rows h = none_at None rows (λ i l f. h i l (from_start rows i f))

  pub stops_first : (rows : List LinkRow) (u : ℕ) → FirstFault vs rows u → Stops None rows u
  stops_first rows u h = stops_at None rows u h.at h.within h.vertex (at_start rows h.at h.faulty) (λ k l f. h.lower k l (from_start rows k f))

  -- ONE PART BEHIND ANOTHER
  pub free_split : (b : Option LinkRow) (xs ys : List LinkRow) → Free b (xs ++ ys) → Free b xs × Free (last b xs) ys
  free_split b [] ys h = (tt, h)
  free_split b (x ∷ xs) ys h = let r = free_split (Some x) xs ys h.1 in ((h.0, r.0), r.1)

  pub stops-split : (b : Option LinkRow) (xs ys : List LinkRow) (u : ℕ) → Stops b (xs ++ ys) u → Stops b xs u ⊎ (Free b xs × Stops (last b xs) ys u)
  stops-split b [] ys u h = inr (tt, h)
  stops-split b (x ∷ xs) ys u h =
      ⊎_elim
      (λ f. inl (inl f))
      (λ n. ⊎_elim (λ s. inl (inr (n.0, s))) (λ r. inr ((n.0, r.0), r.1)) (stops-split (Some x) xs ys u n.1))
      h

-- rows of lower vertices stand in front
abbrev pub Lower : Option LinkRow → ℕ → Type 0
Lower None v = Unit {0}
Lower (Some r) v = r.owner < v

pub lower_more : (b : Option LinkRow) (v : ℕ) → Lower b v → Lower b (suc v)
lower_more None v h = tt
lower_more (Some r) v h = omega arith

pub last_lower : (b : Option LinkRow) (xs : List LinkRow) (v : ℕ) → AllByRecursion (λ (r : LinkRow). r.owner ≡ v) xs → Lower b (suc v) → Lower (last b xs) (suc v)
last_lower b [] v h l = l
last_lower b (x ∷ xs) v h l = last_lower (Some x) xs v h.1 (let e = h.0 in omega arith)
