-- What load lays into memory for the tables of a stream: vertex rows, bytes, and link rows in order of position.
use Rattle.std.specs.Prelude.{ℕ, suc, ◌+◌, ◌*◌, min, false, cond, List, [], ◌∷◌, ◌++◌, length, Ok, Err, Result, nat_le}
use Rattle.std.specs.List.{flat_map}
use Rattle.rows.specs.declared.LinkRow.{LinkRow}
use Rattle.rows.specs.declared.LinkWidth.{LinkWidth}
use Rattle.rows.specs.declared.LinkWidth.TheVariants as row
use Rattle.words.specs.declared.Width.{Width}
use Rattle.words.specs.declared.Width.TheVariants.{Two, Four}
use Rattle.words.specs.Grammar.{StreamLink, real, virtual, StreamTable, Stream, link_tokens}
use Rattle.words.specs.Reading.{parse}
use Rattle.data_bytes.specs.Values.{value_bytes}
use Rattle.graph.specs.declared.VertexRow.{VertexRow}
use Rattle.model.specs.Tables.{Slot, Table}
use Rattle.model.specs.Loading.{slots_of, virtuals_of}
use Rattle.graph.specs.Memory.{behind_all}

-- THE STREAM that words spell; without tables and roots where they spell none
abbrev pub stream_or : Result Stream ℕ → Stream
stream_or (Ok s) = s
stream_or (Err i) = record { tables = []; roots = [] }

abbrev pub stream_in : List ℕ → Stream
stream_in ws = stream_or (parse ws)

-- VERTEX ROWS, from the first free byte a, link row b and word q on; queue has the word where the links begin
abbrev pub size_of : StreamTable → ℕ
size_of t = 2 * length t.values

abbrev pub link_words : StreamTable → ℕ
link_words t = length (flat_map link_tokens t.links)

abbrev pub filled_row : ℕ → ℕ → ℕ → StreamTable → VertexRow
filled_row a b q t = record { start = a; size = size_of t; first = b; links = length t.links; parent = 0; lookup = 0; entries = 0; queue = q + (1 + length t.values); reached = false }

abbrev pub filled_rows : ℕ → ℕ → ℕ → List StreamTable → List VertexRow
filled_rows a b q [] = []
filled_rows a b q (t ∷ ts) = filled_row a b q t ∷ filled_rows (a + size_of t) (b + length t.links) (q + (1 + length t.values + link_words t)) ts

-- BYTES: those of the tables, one behind the other
abbrev pub filled_bytes : List StreamTable → List ℕ
filled_bytes ts = flat_map (λ (t : StreamTable). value_bytes t.values) ts

-- LINK ROWS of a table as its words have them; virtual links are numbered from behind all positions on
abbrev pub row_width : Width → LinkWidth
row_width Two = row.Two
row_width Four = row.Four

abbrev pub stream_rows : ℕ → ℕ → List StreamLink → List LinkRow
stream_rows v k [] = []
stream_rows v k (real w p t ∷ ls) = record { owner = v; position = p; width = row_width w; target = t } ∷ stream_rows v k ls
stream_rows v k (virtual t ∷ ls) = record { owner = v; position = behind_all + k; width = row.Zero; target = t } ∷ stream_rows v (suc k) ls

-- in order of a key; what has the same key stays in the order that it had
abbrev pub insert_by : {X : Type 0} → (X → ℕ) → X → List X → List X
insert_by key x [] = x ∷ []
insert_by key x (y ∷ ys) = cond (nat_le (key x) (key y)) (x ∷ y ∷ ys) (y ∷ insert_by key x ys)

abbrev pub ordered : {X : Type 0} → (X → ℕ) → List X → List X
ordered key [] = []
ordered key (x ∷ xs) = insert_by key x (ordered key xs)

-- by position; those behind the table's end, virtual ones among them, count as one position
abbrev pub clipped : ℕ → LinkRow → ℕ
clipped size r = min r.position size

abbrev pub block_of : ℕ → StreamTable → List LinkRow
block_of v t = ordered (clipped (size_of t)) (stream_rows v 0 t.links)

-- those of all tables that are numbered on from v
abbrev pub blocks_from : ℕ → List StreamTable → List LinkRow
blocks_from v [] = []
blocks_from v (t ∷ ts) = block_of v t ++ blocks_from (suc v) ts

-- THE TABLE that a stream's table is, its slots by position
abbrev pub table_for : StreamTable → Table
table_for t = record { bytes = value_bytes t.values; slots = ordered (λ (l : Slot). l.position) (slots_of t.links); virtuals = virtuals_of t.links }
