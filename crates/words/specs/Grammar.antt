-- What a stream says, how it is spelled in words, and which words are the front of a stream.
use Rattle.std.specs.Prelude.{◌≡◌, ℕ, ◌+◌, ◌*◌, ◌^◌, ◌<◌, ◌≤◌, List, [], ◌∷◌, ◌++◌, map, length, take, Some}
use Rattle.std.specs.List.{flat_map, AllByRecursion}
use Rattle.words.specs.declared.WordKind.{WordKind}
use Rattle.words.specs.declared.WordKind.TheVariants.{Table, Value, Link2, Link4, Target, Virtual, Root, Count}
use Rattle.words.specs.declared.Width.{Width}
use Rattle.words.specs.declared.Width.TheVariants.{Two, Four}
use Rattle.words.specs.declared.Token.{Token}
use Rattle.words.specs.Words.{token_of, word_of}

-- a real link has a width, a position and a target, a virtual one a target alone
pub data StreamLink : Type 0 where
  real : Width → ℕ → ℕ → StreamLink
  virtual : ℕ → StreamLink

-- a table: its 16-bit values and its links
pub record StreamTable : Type 0 where
  pub values : List ℕ
  pub links : List StreamLink

-- a stream: its tables, by number, and the numbers of those that are roots
pub record Stream : Type 0 where
  pub tables : List StreamTable
  pub roots : List ℕ

-- THE SPELLING
abbrev pub say : WordKind → ℕ → Token
say k m = record { kind = k; number = m }

abbrev pub link_kind : Width → WordKind
link_kind Two = Link2
link_kind Four = Link4

abbrev pub link_tokens : StreamLink → List Token
link_tokens (real w p t) = say (link_kind w) p ∷ say Target t ∷ []
link_tokens (virtual t) = say Virtual t ∷ []

abbrev pub table_tokens : StreamTable → List Token
table_tokens t = say Table (2 * length t.values) ∷ (map (say Value) t.values ++ flat_map link_tokens t.links)

abbrev pub tokens : Stream → List Token
tokens s = flat_map table_tokens s.tables ++ (map (say Root) s.roots ++ say Count (length s.tables) ∷ [])

abbrev pub spelled : Stream → List ℕ
spelled s = map word_of (tokens s)

-- WHAT IS WELL-FORMED: each number has room in its word, and each root names a table
abbrev pub FineLink : StreamLink → Type 0
FineLink (real w p t) = (p < 2 ^ 24) × (t < 2 ^ 24)
FineLink (virtual t) = t < 2 ^ 24

pub record FineTable (t : StreamTable) : Type 0 where
  pub values : AllByRecursion (λ v. v < 2 ^ 16) t.values
  pub size : 2 * length t.values < 2 ^ 24
  pub links : AllByRecursion FineLink t.links

-- all but the count: there may be more tables than a word can say
pub record Uncounted (s : Stream) : Type 0 where
  pub tables : AllByRecursion FineTable s.tables
  pub roots : AllByRecursion (λ r. r < length s.tables) s.roots

pub record Fine (s : Stream) : Type 0 where
  pub uncounted : Uncounted s
  pub count : length s.tables < 2 ^ 24

-- the words spell that stream
pub record Spells (ws : List ℕ) (s : Stream) : Type 0 where
  pub fine : Fine s
  pub words : spelled s ≡ ws

abbrev pub Wellformed : List ℕ → Type 0
Wellformed ws = (s : Stream) × Spells ws s

-- FRONTS: more words can follow so that a stream is whole. How many tables there are is a matter of the count alone.
pub record Front (ws : List ℕ) : Type 0 where
  pub stream : Stream
  pub more : List Token
  pub fine : Uncounted stream
  pub words : map token_of ws ++ map Some more ≡ map Some (tokens stream)

-- the first word that does not fit what stands before it; the length, where only more words are wanting
pub record Misfit (ws : List ℕ) (i : ℕ) : Type 0 where
  pub within : i ≤ length ws
  pub before : Front (take i ws)
  pub here : i < length ws → Front (take (i + 1) ws) → ⊥
  pub wanting : Wellformed ws → ⊥
