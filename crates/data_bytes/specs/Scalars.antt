-- What is read and written of scalars of any width, and the laws of it.
use Rattle.std.specs.Prelude.{◌≡◌, ℕ, ◌+◌, ◌^◌, ◌<◌, ◌≤◌, true, cond, ◌⊎◌, List, length, Some, None, Option}
use Rattle.data_bytes.specs.BigEndian.{Bytes, within, number_at, written_at}
use Rattle.data_bytes.specs.declared.DataBytes.{DataBytes}

-- the scalar in the w bytes from i on, if all of them are there
abbrev pub read_at_of : {X : Type 0} → (ℕ → X) → ℕ → List ℕ → ℕ → Option X
read_at_of scalar w bs i = cond (within w bs i) (Some (scalar (number_at w bs i))) None

-- what is read has the number of its bytes
abbrev pub ReadsNumber : {X : Type 0} → (X → ℕ) → (ℕ → X) → ℕ → Type 0
ReadsNumber {X} number scalar w =
    (bs : List ℕ) (i : ℕ) (x : X) → Bytes bs → read_at_of scalar w bs i ≡ Some x → (i + w ≤ length bs) × (number x ≡ number_at w bs i)

-- a scalar that was written is read again
abbrev pub ScalarReadsBack : {X : Type 0} → (X → ℕ) → (ℕ → X) → ℕ → Type 0
ScalarReadsBack {X} number scalar w =
    (bs : List ℕ) (i : ℕ) (x : X) → number x < 256 ^ w → within w bs i ≡ true → read_at_of scalar w (written_at w bs i (number x)) i ≡ Some x

-- the w bytes from i on and the u bytes from j on do not overlap
abbrev pub Apart : ℕ → ℕ → ℕ → ℕ → Type 0
Apart i w j u = (i + w ≤ j) ⊎ (j + u ≤ i)

-- the bytes that a view is lent
abbrev pub lent : DataBytes → List ℕ
lent v = v.bytes.now

-- both views are over the same slice
abbrev pub SameSlice : DataBytes → DataBytes → Type 0
SameSlice v u = v.bytes.ghost_name ≡ u.bytes.ghost_name
