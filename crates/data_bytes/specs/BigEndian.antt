-- Big-endian numbers in a list of bytes: of two bytes, and of any width.
use Rattle.std.specs.Prelude.{ℕ, zero, suc, ◌+◌, ◌*◌, ◌/◌, ◌%◌, ◌<◌, Bool, cond, List, [], ◌∷◌, ◌++◌, length, take, drop, nat_le, slice_index, slice_set}
use Rattle.std.specs.Int.Digits.{number_from_digits}

-- each is a byte
abbrev pub Bytes : List ℕ → Type 0
Bytes bs = (k : ℕ) → k < length bs → slice_index bs k < 256

-- the number of two bytes from i on
abbrev pub word16 : List ℕ → ℕ → ℕ
word16 bs i = slice_index bs i * 256 + slice_index bs (i + 1)

-- the bytes with w in the two from i on
abbrev pub put16 : List ℕ → ℕ → ℕ → List ℕ
put16 bs i w = slice_set (slice_set bs i (w / 256)) (i + 1) (w % 256)

-- the number that bytes spell: they are its digits in base 256, the high one first
abbrev pub big_endian : List ℕ → ℕ
big_endian bs = number_from_digits 256 bs

-- the low w bytes of n, the high one first: all of n, if it is below 256 ^ w
abbrev pub spelled : ℕ → ℕ → List ℕ
spelled zero n = []
spelled (suc w) n = spelled w (n / 256) ++ (n % 256 ∷ [])

-- whether all of the w bytes from i on are there
abbrev pub within : ℕ → List ℕ → ℕ → Bool
within w bs i = nat_le (i + w) (length bs)

-- the number of the w bytes from i on
abbrev pub number_at : ℕ → List ℕ → ℕ → ℕ
number_at w bs i = big_endian (take w (drop i bs))

-- the bytes with n in the w from i on
abbrev pub put_at : ℕ → List ℕ → ℕ → ℕ → List ℕ
put_at w bs i n = take i bs ++ spelled w n ++ drop (i + w) bs

-- the bytes after n was to be written into the w from i on: if one of these is not there, as before
abbrev pub written_at : ℕ → List ℕ → ℕ → ℕ → List ℕ
written_at w bs i n = cond (within w bs i) (put_at w bs i n) bs
