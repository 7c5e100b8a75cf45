-- Reading a stream word by word: where a word may stand, what the words say, and what there is to count.
use Rattle.std.specs.Prelude.{ℕ, zero, suc, ◌+◌, ◌*◌, ◌/◌, ◌%◌, ◌^◌, ◌<◌, Bool, true, false, cond, ◌&&◌, List, [], ◌∷◌, length, Some, None, Ok, Err, Option, Result, ◌==◌, nat_lt}
use Rattle.refusals.specs.declared.Refusal.{Refusal}
use Rattle.refusals.specs.declared.Refusal.TheVariants.{BadWord}
use Rattle.words.specs.declared.WordKind.{WordKind}
use Rattle.words.specs.declared.WordKind.TheVariants.{Table, Value, Link2, Link4, Target, Virtual, Root, Count}
use Rattle.words.specs.declared.Width.TheVariants.{Two, Four}
use Rattle.words.specs.declared.Token.{Token}
use Rattle.words.specs.declared.Place.{Place}
use Rattle.words.specs.declared.Place.TheVariants.{Start, Inside, Linking, Rooting, Closed}
use Rattle.words.specs.declared.StreamCounts.{StreamCounts}
use Rattle.words.specs.declared.Reading.{Reading}
use Rattle.words.specs.Words.{token_of}
use Rattle.words.specs.Grammar.{StreamLink, real, virtual, StreamTable, Stream}

-- a link may stand here
abbrev pub linkable : Place → Bool
linkable Start = false
linkable (Inside zero) = true
linkable (Inside (suc k)) = false
linkable (Linking w p) = false
linkable Rooting = false
linkable Closed = false

-- a table may stand here
abbrev pub openable : Place → Bool
openable Start = true
openable (Inside zero) = true
openable (Inside (suc k)) = false
openable (Linking w p) = false
openable Rooting = false
openable Closed = false

-- a root or the count may stand here
abbrev pub closable : Place → Bool
closable Start = true
closable (Inside zero) = true
closable (Inside (suc k)) = false
closable (Linking w p) = false
closable Rooting = true
closable Closed = false

abbrev pub after_value : Place → Option Place
after_value Start = None
after_value (Inside zero) = None
after_value (Inside (suc k)) = Some (Inside k)
after_value (Linking w p) = None
after_value Rooting = None
after_value Closed = None

abbrev pub after_target : Place → Option Place
after_target Start = None
after_target (Inside k) = None
after_target (Linking w p) = Some (Inside 0)
after_target Rooting = None
after_target Closed = None

abbrev pub if_so : Bool → Place → Option Place
if_so b p = cond b (Some p) None

-- where the reader stands behind a word of this kind and number, n tables having begun; none where it does not fit
abbrev pub place_after : WordKind → ℕ → Place → ℕ → Option Place
place_after Table m p n = if_so (openable p && m % 2 == 0) (Inside (m / 2))
place_after Value m p n = after_value p
place_after Link2 m p n = if_so (linkable p) (Linking Two m)
place_after Link4 m p n = if_so (linkable p) (Linking Four m)
place_after Target m p n = after_target p
place_after Virtual m p n = if_so (linkable p) (Inside 0)
place_after Root m p n = if_so (closable p && nat_lt m n) Rooting
place_after Count m p n = if_so (closable p && m == n) Closed

abbrev pub next_place : Place → ℕ → Token → Option Place
next_place p n t = place_after t.kind t.number p n

-- the number of tables begun, with a word of this kind
abbrev pub tables_with : WordKind → ℕ → ℕ
tables_with Table n = n + 1
tables_with Value n = n
tables_with Link2 n = n
tables_with Link4 n = n
tables_with Target n = n
tables_with Virtual n = n
tables_with Root n = n
tables_with Count n = n

-- WHAT THE WORDS SAY
-- what is still to come: values and links of the table that is open, then tables, then roots
pub record Rest : Type 0 where
  pub values : List ℕ
  pub links : List StreamLink
  pub tables : List StreamTable
  pub roots : List ℕ

abbrev pub rest : List ℕ → List StreamLink → List StreamTable → List ℕ → Rest
rest vs ls ts rs = record { values = vs; links = ls; tables = ts; roots = rs }

abbrev pub nothing : Rest
nothing = rest [] [] [] []

-- the links, with the one that a target completes
abbrev pub linked : Place → ℕ → List StreamLink → List StreamLink
linked Start t ls = ls
linked (Inside k) t ls = ls
linked (Linking w p) t ls = real w p t ∷ ls
linked Rooting t ls = ls
linked Closed t ls = ls

-- one word more in front of the rest
abbrev pub word_then : WordKind → ℕ → Place → Rest → Rest
word_then Table m p r = rest [] [] (record { values = r.values; links = r.links } ∷ r.tables) r.roots
word_then Value m p r = rest (m ∷ r.values) r.links r.tables r.roots
word_then Link2 m p r = r
word_then Link4 m p r = r
word_then Target m p r = rest r.values (linked p m r.links) r.tables r.roots
word_then Virtual m p r = rest r.values (virtual m ∷ r.links) r.tables r.roots
word_then Root m p r = rest r.values r.links r.tables (m ∷ r.roots)
word_then Count m p r = r

abbrev pub further : (Rest → Rest) → Result Rest ℕ → Result Rest ℕ
further f (Ok r) = Ok (f r)
further f (Err i) = Err (suc i)

abbrev pub at_end : Place → Result Rest ℕ
at_end Start = Err 0
at_end (Inside k) = Err 0
at_end (Linking w p) = Err 0
at_end Rooting = Err 0
at_end Closed = Ok nothing

abbrev pub onward_to : (Place → ℕ → Result Rest ℕ) → Place → ℕ → Token → Option Place → Result Rest ℕ
onward_to go p n t None = Err 0
onward_to go p n t (Some q) = further (word_then t.kind t.number p) (go q (tables_with t.kind n))

abbrev pub onward : (Place → ℕ → Result Rest ℕ) → Place → ℕ → Option Token → Result Rest ℕ
onward go p n None = Err 0
onward go p n (Some t) = onward_to go p n t (next_place p n t)

-- what the words say from a place on, n tables having begun; or the index of the first that does not fit
abbrev pub read : List ℕ → Place → ℕ → Result Rest ℕ
read [] p n = at_end p
read (w ∷ ws) p n = onward (λ q m. read ws q m) p n (token_of w)

abbrev pub stream_of : Result Rest ℕ → Result Stream ℕ
stream_of (Ok r) = Ok (record { tables = r.tables; roots = r.roots })
stream_of (Err i) = Err i

-- the stream that the words spell, or the index of the first misfit
abbrev pub parse : List ℕ → Result Stream ℕ
parse ws = stream_of (read ws Start 0)

-- WHAT THERE IS TO COUNT
abbrev pub links_in : List StreamTable → ℕ
links_in [] = 0
links_in (t ∷ ts) = length t.links + links_in ts

abbrev pub bytes_in : List StreamTable → ℕ
bytes_in [] = 0
bytes_in (t ∷ ts) = 2 * length t.values + bytes_in ts

abbrev pub counts_of : Stream → StreamCounts
counts_of s = record { tables = length s.tables; links = links_in s.tables; bytes = bytes_in s.tables; roots = length s.roots }

abbrev pub scanned_as : Result Stream ℕ → Result StreamCounts Refusal
scanned_as (Ok s) = Ok (counts_of s)
scanned_as (Err i) = Err (BadWord i)

abbrev pub scanned : List ℕ → Result StreamCounts Refusal
scanned ws = scanned_as (parse ws)

-- the counts with one word more
abbrev pub counted : WordKind → StreamCounts → StreamCounts
counted Table c = record { tables = c.tables + 1; links = c.links; bytes = c.bytes; roots = c.roots }
counted Value c = record { tables = c.tables; links = c.links; bytes = c.bytes + 2; roots = c.roots }
counted Link2 c = c
counted Link4 c = c
counted Target c = record { tables = c.tables; links = c.links + 1; bytes = c.bytes; roots = c.roots }
counted Virtual c = record { tables = c.tables; links = c.links + 1; bytes = c.bytes; roots = c.roots }
counted Root c = record { tables = c.tables; links = c.links; bytes = c.bytes; roots = c.roots + 1 }
counted Count c = c

-- each count can take one word more
pub record Countable (c : StreamCounts) : Type 0 where
  pub tables : c.tables + 1 < 2 ^ 64
  pub links : c.links + 1 < 2 ^ 64
  pub bytes : c.bytes + 2 < 2 ^ 64
  pub roots : c.roots + 1 < 2 ^ 64

-- where the reader stands behind a word, with what it has counted
abbrev pub stepped_to : WordKind → StreamCounts → Option Place → Option Reading
stepped_to k c None = None
stepped_to k c (Some q) = Some (record { place = q; counts = counted k c })

abbrev pub stepped_by : Reading → Option Token → Option Reading
stepped_by r None = None
stepped_by r (Some t) = stepped_to t.kind r.counts (next_place r.place r.counts.tables t)

abbrev pub stepped : Reading → ℕ → Option Reading
stepped r w = stepped_by r (token_of w)
