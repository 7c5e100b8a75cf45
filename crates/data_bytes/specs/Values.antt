-- Tables as lists of 16-bit values: the bytes that spell them, and the values that bytes spell.
use Rattle.std.specs.Prelude.{ℕ, ◌+◌, ◌*◌, ◌/◌, ◌%◌, List, [], ◌∷◌, take, drop}

-- each value's two bytes, the high one first
abbrev pub value_bytes : List ℕ → List ℕ
value_bytes [] = []
value_bytes (v ∷ vs) = v / 256 ∷ v % 256 ∷ value_bytes vs

-- the values that bytes spell, two by two
abbrev pub values : List ℕ → List ℕ
values [] = []
values (x ∷ []) = []
values (h ∷ l ∷ bs) = (h * 256 + l) ∷ values bs

-- the n values from the i-th byte on
abbrev pub values_at : List ℕ → ℕ → ℕ → List ℕ
values_at bs i n = values (take (2 * n) (drop i bs))
