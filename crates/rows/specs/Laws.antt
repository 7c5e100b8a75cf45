-- The laws of keyed rows, for any type of row and any key.
use Rattle.std.specs.Prelude.{◌≡◌, ℕ, ◌+◌, ◌<◌, cond, ◌≢◌, ◌⊎◌, List, length, is_some, Some, None, slice_index_or}
use Rattle.std.specs.List.{ContainsAt as Has}
use Rattle.rows.specs.declared.RowKey.{RowKey}
use Rattle.rows.specs.Keys.{Before}
use Rattle.rows.specs.Rows.{Rising, row_of, with_row, without_row}

-- the order is the lexicographic one: by list, and within a list by place
abbrev pub Lexicographic : Type 0
Lexicographic = (k l : RowKey) → (Before k l → (k.list < l.list) ⊎ ((k.list ≡ l.list) × (k.place < l.place))) × ((k.list < l.list) ⊎ ((k.list ≡ l.list) × (k.place < l.place)) → Before k l)

-- of two keys one stands before the other, or they are the same
abbrev pub Ordered : Type 0
Ordered = (k l : RowKey) → (k ≡ l) ⊎ (Before k l ⊎ Before l k)

abbrev pub Irreflexive : Type 0
Irreflexive = (k : RowKey) → Before k k → ⊥

abbrev pub Transitive : Type 0
Transitive = (k l m : RowKey) → Before k l → Before l m → Before k m

-- rows that rise stand in the order of their keys, whichever two are taken
abbrev pub RisingPairs : {X : Type 0} → (X → RowKey) → Type 0
RisingPairs {X} key = (xs : List X) → Rising key xs → (i j : ℕ) (d : X) → i < j → j < length xs → Before (key (slice_index_or xs i d)) (key (slice_index_or xs j d))

-- rows rise if each stands before the next
abbrev pub RisingFromNeighbours : {X : Type 0} → (X → RowKey) → Type 0
RisingFromNeighbours {X} key = (xs : List X) → ((i : ℕ) (d : X) → i + 1 < length xs → Before (key (slice_index_or xs i d)) (key (slice_index_or xs (i + 1) d))) → Rising key xs

-- a look-up finds only a row that is there, with the key sought
abbrev pub LookUpSound : {X : Type 0} → (X → RowKey) → Type 0
LookUpSound {X} key = (xs : List X) (k : RowKey) (x : X) → row_of key k xs ≡ Some x → Has xs x × (key x ≡ k)

-- among rows that rise it finds each
abbrev pub LookUpComplete : {X : Type 0} → (X → RowKey) → Type 0
LookUpComplete {X} key = (xs : List X) → Rising key xs → (x : X) → Has xs x → row_of key (key x) xs ≡ Some x

abbrev pub FoundAfterPut : {X : Type 0} → (X → RowKey) → Type 0
FoundAfterPut {X} key = (r : X) (xs : List X) → row_of key (key r) (with_row key r xs) ≡ Some r

abbrev pub OthersAfterPut : {X : Type 0} → (X → RowKey) → Type 0
OthersAfterPut {X} key = (r : X) (xs : List X) (k : RowKey) → k ≢ key r → row_of key k (with_row key r xs) ≡ row_of key k xs

abbrev pub GoneAfterRemove : {X : Type 0} → (X → RowKey) → Type 0
GoneAfterRemove {X} key = (k : RowKey) (xs : List X) → Rising key xs → row_of key k (without_row key k xs) ≡ None

abbrev pub OthersAfterRemove : {X : Type 0} → (X → RowKey) → Type 0
OthersAfterRemove {X} key = (k : RowKey) (xs : List X) (l : RowKey) → l ≢ k → row_of key l (without_row key k xs) ≡ row_of key l xs

abbrev pub RisingAfterPut : {X : Type 0} → (X → RowKey) → Type 0
RisingAfterPut {X} key = (r : X) (xs : List X) → Rising key xs → Rising key (with_row key r xs)

abbrev pub RisingAfterRemove : {X : Type 0} → (X → RowKey) → Type 0
RisingAfterRemove {X} key = (k : RowKey) (xs : List X) → Rising key xs → Rising key (without_row key k xs)

-- a put adds one row exactly if the key was not there
abbrev pub CountAfterPut : {X : Type 0} → (X → RowKey) → Type 0
CountAfterPut {X} key = (r : X) (xs : List X) → Rising key xs → length (with_row key r xs) ≡ length xs + cond (is_some (row_of key (key r) xs)) 0 1

-- a removal takes one row away exactly if the key was there
abbrev pub CountAfterRemove : {X : Type 0} → (X → RowKey) → Type 0
CountAfterRemove {X} key = (k : RowKey) (xs : List X) → length (without_row key k xs) + cond (is_some (row_of key k xs)) 1 0 ≡ length xs

-- rows that rise are told by their look-ups alone
abbrev pub ToldByLookUps : {X : Type 0} → (X → RowKey) → Type 0
ToldByLookUps {X} key = (xs ys : List X) → Rising key xs → Rising key ys → ((k : RowKey) → row_of key k xs ≡ row_of key k ys) → xs ≡ ys
