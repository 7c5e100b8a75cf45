-- Lists of rows in rising order of their keys: look-up, the rows with one more, the rows without one.
use Rattle.std.specs.Prelude.{◌≡◌, ℕ, suc, ◌+◌, ◌<◌, ◌≤◌, cond, ◌⊎◌, List, [], ◌∷◌, ◌++◌, length, take, drop, Some, None, Option, Result, MatchResult, slice_set}
use Rattle.std.specs.List.{HoldsAt, ContainsAt as Has, insert, remove, AllByRecursion}
use Rattle.rows.specs.declared.RowKey.{RowKey}
use Rattle.rows.specs.Keys.{precedes, same, Before}

-- each row stands before all that follow it
abbrev pub Rising : {X : Type 0} → (X → RowKey) → List X → Type 0
Rising key [] = Unit {0}
Rising key (x ∷ xs) = AllByRecursion (λ y. Before (key x) (key y)) xs × Rising key xs

-- the row with the key k
abbrev pub row_of : {X : Type 0} → (X → RowKey) → RowKey → List X → Option X
row_of key k [] = None
row_of key k (x ∷ xs) = cond (same (key x) k) (Some x) (row_of key k xs)

-- the rows with the row r: behind all that stand before it, and in place of the row with its key if there is one
abbrev pub with_row : {X : Type 0} → (X → RowKey) → X → List X → List X
with_row key r [] = r ∷ []
with_row key r (x ∷ xs) = cond (precedes (key x) (key r)) (x ∷ with_row key r xs) (cond (same (key x) (key r)) (r ∷ xs) (r ∷ x ∷ xs))

-- the rows without the one with the key k
abbrev pub without_row : {X : Type 0} → (X → RowKey) → RowKey → List X → List X
without_row key k [] = []
without_row key k (x ∷ xs) = cond (same (key x) k) xs (x ∷ without_row key k xs)

-- what the slice old becomes where the rows us are to stand in its front, and what is answered:
-- they are laid over what stood there and counted, or, if they do not fit, nothing changes
pub record Laid {X : Type 0} (us old new : List X) (answer : Option ℕ) : Type 0 where
  pub fits : length us ≤ length old → (new ≡ us ++ drop (length us) old) × (answer ≡ Some (length us))
  pub full : length old < length us → (new ≡ old) × (answer ≡ None)

-- The next three hold in whatever order the rows us stand.

-- a look-up answers only one of the rows us, and only one with the key k
pub record Answered {X : Type 0} (key : X → RowKey) (k : RowKey) (us : List X) (answer : Option X) : Type 0 where
  pub used : (x : X) → answer ≡ Some x → Has us x
  pub keyed : (x : X) → answer ≡ Some x → key x ≡ k

-- a put of the row r into the slice old, of which the first rows are used: it takes the place of one used row that has its key,
-- or is inserted at one place among the used rows, or, if no row is spare, nothing changes
abbrev pub OnePut : {X : Type 0} → (X → RowKey) → X → ℕ → List X → List X → Option ℕ → Type 0
OnePut key r used old new answer =
    ((i : ℕ) × (i < length (take used old)) × HoldsAt (λ x. key x ≡ key r) old i × (new ≡ slice_set old i r) × (answer ≡ Some (length (take used old))))
    ⊎ ((i : ℕ) × (i ≤ used) × (used < length old) × (new ≡ insert (take used old) i r ++ drop (used + 1) old) × (answer ≡ Some (used + 1)))
    ⊎ ((length old ≤ used) × (new ≡ old) × (answer ≡ None))

-- a removal from the used rows us, with the spare rows behind them: one row that has the key k is taken out,
-- and the zero row z stands behind those left, or nothing changes
abbrev pub OneLess : {X : Type 0} → (X → RowKey) → RowKey → X → List X → List X → List X → ℕ → Type 0
OneLess key k z us spare new m =
    ((i : ℕ) × (i < length us) × HoldsAt (λ x. key x ≡ k) us i × (new ≡ remove us i ++ z ∷ spare) × (m + 1 ≡ length us))
    ⊎ ((new ≡ us ++ spare) × (m ≡ length us))

-- how many rows in front stand before the key k
abbrev pub place_of : {X : Type 0} → (X → RowKey) → RowKey → List X → ℕ
place_of key k [] = 0
place_of key k (x ∷ xs) = cond (precedes (key x) k) (suc (place_of key k xs)) 0

-- where a search for the key k ends: at the row with that key, or, if there is none, where such a row belongs
abbrev pub Spot : {X : Type 0} → (X → RowKey) → RowKey → List X → Result ℕ ℕ → Type 0
Spot key k xs r = MatchResult r (λ i. (i ≡ place_of key k xs) × HoldsAt (λ x. key x ≡ k) xs i) (λ i. (i ≡ place_of key k xs) × (row_of key k xs ≡ None))
