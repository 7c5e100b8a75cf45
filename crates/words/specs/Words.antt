-- A word of 32 bits: four bits for its kind, zero bits, and a number in the rest.
use Rattle.std.specs.Prelude.{ℕ, ◌+◌, ◌-◌, ◌*◌, ◌/◌, ◌%◌, ◌^◌, ◌<◌, cond, List, [], ◌∷◌, Some, None, Option, ◌==◌, nat_lt}
use Rattle.words.specs.declared.WordKind.{WordKind}
use Rattle.words.specs.declared.WordKind.TheVariants.{Table, Value, Link2, Link4, Target, Virtual, Root, Count}
use Rattle.words.specs.declared.KindRow.{KindRow}
use Rattle.words.specs.declared.Token.{Token}

-- the top four bits
abbrev pub code_of : WordKind → ℕ
code_of Table = 1
code_of Value = 2
code_of Link2 = 3
code_of Link4 = 4
code_of Target = 5
code_of Virtual = 6
code_of Root = 7
code_of Count = 8

-- how many zero bits stand below them
abbrev pub zero_bits_of : WordKind → ℕ
zero_bits_of Table = 4
zero_bits_of Value = 12
zero_bits_of Link2 = 4
zero_bits_of Link4 = 4
zero_bits_of Target = 4
zero_bits_of Virtual = 4
zero_bits_of Root = 4
zero_bits_of Count = 4

-- the numbers that a word has room for are those below this
abbrev pub room_of : WordKind → ℕ
room_of k = 2 ^ (28 - zero_bits_of k)

-- a word that says a kind and a number
abbrev pub Fits : Token → Type 0
Fits t = t.number < room_of t.kind

abbrev pub word_of : Token → ℕ
word_of t = code_of t.kind * 2 ^ 28 + t.number

-- the other way: what a word says, if anything
abbrev pub kinds : List WordKind
kinds = Table ∷ Value ∷ Link2 ∷ Link4 ∷ Target ∷ Virtual ∷ Root ∷ Count ∷ []

abbrev pub kind_among : List WordKind → ℕ → Option WordKind
kind_among [] c = None
kind_among (k ∷ ks) c = cond (code_of k == c) (Some k) (kind_among ks c)

abbrev pub token_with : ℕ → Option WordKind → Option Token
token_with m None = None
token_with m (Some k) = cond (nat_lt m (room_of k)) (Some (record { kind = k; number = m })) None

abbrev pub token_of : ℕ → Option Token
token_of w = token_with (w % 2 ^ 28) (kind_among kinds (w / 2 ^ 28))

-- the value that a word says, if it is a value
abbrev pub value_as : WordKind → ℕ → Option ℕ
value_as Table m = None
value_as Value m = Some m
value_as Link2 m = None
value_as Link4 m = None
value_as Target m = None
value_as Virtual m = None
value_as Root m = None
value_as Count m = None

abbrev pub value_in : Option Token → Option ℕ
value_in None = None
value_in (Some t) = value_as t.kind t.number

abbrev pub value_of : ℕ → Option ℕ
value_of w = value_in (token_of w)

-- the row of the code's table
abbrev pub row_for : WordKind → KindRow
row_for k = record { kind = k; code = code_of k; zero_bits = zero_bits_of k }

abbrev pub row_from : Option WordKind → Option KindRow
row_from None = None
row_from (Some k) = Some (row_for k)

abbrev pub row_of : ℕ → Option KindRow
row_of c = row_from (kind_among kinds c)
