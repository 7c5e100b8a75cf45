-- The outcome of load, for every list of words: the refusals in the order in which they are tested, and the model of what is accepted.
use Rattle.std.specs.Prelude.{◌≡◌, ℕ, suc, ◌+◌, ◌<◌, ◌≤◌, cond, ◌⊎◌, List, [], ◌∷◌, ◌++◌, map, length, is_some, Some, None, Ok, Err, sum_by, count_by, Option, Result, ◌==◌, ◌≢◌, nat_eq, slice_index}
use Rattle.std.specs.List.{ContainsAt as Has, AllByRecursion, range_with_len}
use Rattle.std.specs.List.Sorted.{IsPermutation}
use Rattle.refusals.specs.declared.Pool.{Pool}
use Rattle.refusals.specs.declared.Refusal.{Refusal}
use Rattle.refusals.specs.declared.Refusal.TheVariants.{BadWord, NoRoom, BadLink, BadShape, BadEntry, BadCoverage, Empty, BadVirtual, TooManySubtables}
use Rattle.words.specs.declared.Width.{Width}
use Rattle.words.specs.declared.Width.TheVariants.{Two, Four}
use Rattle.words.specs.Grammar.{StreamLink, real, virtual, StreamTable, Stream, Spells, Misfit}
use Rattle.words.specs.Reading.{links_in, bytes_in}
use Rattle.data_bytes.specs.Values.{value_bytes, values}
use Rattle.coverage.specs.Meaning.{Meant}
use Rattle.model.specs.Forest.{Ligature, LigatureSet, Subtable, Lookup, Taken, Model}
use Rattle.model.specs.Tables.{Slot, slot, Table, Placed, head, lookup_table, extension_table, subtable_table, set_table, ligature_table, model_walk, count_of}
use Rattle.model.specs.Rules.{nth}
use Rattle.model.specs.Splitting.{Capacities, Bill, room_for, subtable_limit}
use Rattle.model.specs.Reading.{has_mark}
use Rattle.model.specs.Sound.{Good}

-- THE STREAM AS TABLES
abbrev pub width_of : Width → ℕ
width_of Two = 2
width_of Four = 4

-- the real links, and the targets of the virtual ones
abbrev pub slots_of : List StreamLink → List Slot
slots_of [] = []
slots_of (real w p t ∷ ls) = slot p (width_of w) t ∷ slots_of ls
slots_of (virtual t ∷ ls) = slots_of ls

abbrev pub virtuals_of : List StreamLink → List ℕ
virtuals_of [] = []
virtuals_of (real w p t ∷ ls) = virtuals_of ls
virtuals_of (virtual t ∷ ls) = t ∷ virtuals_of ls

abbrev pub bytes_of : StreamTable → List ℕ
bytes_of t = value_bytes t.values

-- the table of that number
abbrev pub TableAt : Stream → ℕ → StreamTable → Type 0
TableAt s v t = nth s.tables v ≡ Some t

-- the stream's table has the bytes of a model's and, in any order, its real links
pub record Spelt (t : StreamTable) (is : Table) : Type 0 where
  pub bytes : bytes_of t ≡ is.bytes
  pub slots : IsPermutation is.slots (slots_of t.links)

-- ROOM: the first pool whose need exceeds its capacity
abbrev pub taken_by : Stream → Taken
taken_by s = record { vertices = length s.tables; links = links_in s.tables; bytes = bytes_in s.tables }

abbrev pub untaken : Taken
untaken = record { vertices = 0; links = 0; bytes = 0 }

abbrev pub bill : Taken → Bill
bill t = record { vertices = t.vertices; links = t.links; bytes = t.bytes }

abbrev pub short_of : Capacities → Taken → Option Pool
short_of caps t = room_for caps untaken (bill t)

-- LINKS: one that leads to no table, a real one that passes its table's end, two real ones at one position
pub data Loose (s : Stream) (t : StreamTable) : Type 0 where
  nowhere : (l : Slot) → Has (slots_of t.links) l → length s.tables ≤ l.target → Loose s t
  nowhere_virtual : (v : ℕ) → Has (virtuals_of t.links) v → length s.tables ≤ v → Loose s t
  beyond : (l : Slot) → Has (slots_of t.links) l → length (bytes_of t) < l.position + l.width → Loose s t
  shared : (p : ℕ) → 1 < count_by (λ (l : Slot). nat_eq l.position p) (slots_of t.links) → Loose s t

abbrev pub Loosely : Stream → ℕ → Type 0
Loosely s v = (t : StreamTable) × TableAt s v t × Loose s t

-- ENTRIES: how often a vertex is named as root, and entered by real links
abbrev pub named : Stream → ℕ → ℕ
named s v = count_of v s.roots

abbrev pub entered : Stream → ℕ → ℕ
entered s v = sum_by (λ (t : StreamTable). count_of v (map (λ (l : Slot). l.target) (slots_of t.links))) s.tables

-- reached from a root over real links
pub data Reached (s : Stream) : ℕ → Type 0 where
  root : (v : ℕ) → Has s.roots v → Reached s v
  onward : (u : ℕ) (t : StreamTable) (l : Slot) → Reached s u → TableAt s u t → Has (slots_of t.links) l → Reached s l.target

pub data Astray (s : Stream) (v : ℕ) : Type 0 where
  root_entered : 0 < named s v → 0 < entered s v → Astray s v
  entered_twice : named s v ≡ 0 → 1 < entered s v → Astray s v
  named_twice : 1 < named s v → Astray s v
  unreached : (Reached s v → ⊥) → Astray s v

abbrev pub Strays : Stream → ℕ → Type 0
Strays s v = (v < length s.tables) × Astray s v

-- the lowest vertex of which something holds
pub record Lowest (P : ℕ → Type 0) (v : ℕ) : Type 0 where
  pub holds : P v
  pub lower : (u : ℕ) → u < v → P u → ⊥

abbrev pub Never : (ℕ → Type 0) → Type 0
Never P = (v : ℕ) → P v → ⊥

-- SHAPES: a table has the shape of a kind if it is the table of one of that kind. Of a coverage only the links are looked at.
pub record LookupShape (t : StreamTable) (l : Lookup) : Type 0 where
  pub kind : (l.kind ≡ 4) ⊎ (l.kind ≡ 7)
  pub asks : is_some l.mark ≡ has_mark l.flag
  pub table : Spelt t (lookup_table l).table

abbrev pub ExtensionShape : StreamTable → ℕ → Type 0
ExtensionShape t v = Spelt t (extension_table 0 v).table

abbrev pub SubtableShape : StreamTable → Subtable → Type 0
SubtableShape t x = Spelt t (subtable_table x).table

abbrev pub SetShape : StreamTable → LigatureSet → Type 0
SetShape t y = Spelt t (set_table 0 y).table

abbrev pub LigatureShape : StreamTable → Ligature → Type 0
LigatureShape t g = Spelt t (ligature_table 0 g).table

abbrev pub CoverageShape : StreamTable → Type 0
CoverageShape t = slots_of t.links ≡ []

-- PLACES IN THE WALK, by the numbers of lookup, subtable, set and ligature
pub data Place : Type 0 where
  at_lookup : ℕ → Place
  at_extension : ℕ → ℕ → Place
  at_subtable : ℕ → ℕ → Place
  at_coverage : ℕ → ℕ → Place
  at_set : ℕ → ℕ → ℕ → Place
  at_ligature : ℕ → ℕ → ℕ → ℕ → Place

-- the walk goes by these paths: first by the front numbers, and to a path before those that it begins
abbrev pub path : Place → List ℕ
path (at_lookup i) = i ∷ []
path (at_extension i j) = i ∷ j ∷ 0 ∷ []
path (at_subtable i j) = i ∷ j ∷ 1 ∷ []
path (at_coverage i j) = i ∷ j ∷ 2 ∷ []
path (at_set i j k) = i ∷ j ∷ suc (suc (suc k)) ∷ []
path (at_ligature i j k n) = i ∷ j ∷ suc (suc (suc k)) ∷ n ∷ []

abbrev pub Before : List ℕ → List ℕ → Type 0
Before [] [] = ⊥
Before [] (q ∷ qs) = Unit {0}
Before (p ∷ ps) [] = ⊥
Before (p ∷ ps) (q ∷ qs) = (p < q) ⊎ ((p ≡ q) × Before ps qs)

-- kinds of table: a coverage of so many sets, a set or a ligature under that coverage
pub data Kind : Type 0 where
  is_lookup : Kind
  is_extension : Kind
  is_subtable : Kind
  is_coverage : ℕ → Kind
  is_set : ℕ → Kind
  is_ligature : ℕ → Kind

-- which vertex of which kind stands at a place: where the table above has its shape, the one that the slot leads to.
-- Of the lookup, subtable or set that has that table only what the table says counts: its values and where its slots lead.
pub data Stands (s : Stream) : Place → Kind → ℕ → Type 0 where
  root : (i v : ℕ) → nth s.roots i ≡ Some v → Stands s (at_lookup i) is_lookup v
  extension : (i j v : ℕ) (t : StreamTable) (l : Lookup) (x : Subtable) → Stands s (at_lookup i) is_lookup v → TableAt s v t → LookupShape t l → l.kind ≡ 7
      → nth l.subtables j ≡ Some x → Stands s (at_extension i j) is_extension (head x)
  plain : (i j v : ℕ) (t : StreamTable) (l : Lookup) (x : Subtable) → Stands s (at_lookup i) is_lookup v → TableAt s v t → LookupShape t l → l.kind ≡ 4
      → nth l.subtables j ≡ Some x → Stands s (at_subtable i j) is_subtable (head x)
  wrapped : (i j e : ℕ) (t : StreamTable) (v : ℕ) → Stands s (at_extension i j) is_extension e → TableAt s e t → ExtensionShape t v → Stands s (at_subtable i j) is_subtable v
  coverage : (i j v : ℕ) (t : StreamTable) (x : Subtable) → Stands s (at_subtable i j) is_subtable v → TableAt s v t → SubtableShape t x
      → Stands s (at_coverage i j) (is_coverage (length x.sets)) x.coverage
  set : (i j k v : ℕ) (t : StreamTable) (x : Subtable) (y : LigatureSet) → Stands s (at_subtable i j) is_subtable v → TableAt s v t → SubtableShape t x
      → nth x.sets k ≡ Some y → Stands s (at_set i j k) (is_set x.coverage) y.vertex
  ligature : (i j k n c v : ℕ) (t : StreamTable) (y : LigatureSet) (g : Ligature) → Stands s (at_set i j k) (is_set c) v → TableAt s v t → SetShape t y
      → nth y.ligatures n ≡ Some g → Stands s (at_ligature i j k n) (is_ligature c) g.vertex

-- THE TESTS AT A PLACE
abbrev pub Shaped : Kind → StreamTable → Type 0
Shaped is_lookup t = (l : Lookup) × LookupShape t l
Shaped is_extension t = (v : ℕ) × ExtensionShape t v
Shaped is_subtable t = (x : Subtable) × SubtableShape t x
Shaped (is_coverage n) t = CoverageShape t
Shaped (is_set c) t = (y : LigatureSet) × SetShape t y
Shaped (is_ligature c) t = (g : Ligature) × LigatureShape t g

abbrev pub value_at : StreamTable → ℕ → ℕ
value_at t i = slice_index t.values i

-- a lookup's count of subtables
abbrev pub Few : Kind → StreamTable → Type 0
Few is_lookup t = value_at t 2 ≤ subtable_limit
Few is_extension t = Unit {0}
Few is_subtable t = Unit {0}
Few (is_coverage n) t = Unit {0}
Few (is_set c) t = Unit {0}
Few (is_ligature c) t = Unit {0}

-- a subtable's count of sets, a set's count of ligatures
abbrev pub Filled : Kind → StreamTable → Type 0
Filled is_lookup t = Unit {0}
Filled is_extension t = Unit {0}
Filled is_subtable t = 0 < value_at t 2
Filled (is_coverage n) t = Unit {0}
Filled (is_set c) t = 0 < value_at t 0
Filled (is_ligature c) t = Unit {0}

-- the virtual links that a kind has
abbrev pub virtuals_at : Kind → List ℕ
virtuals_at is_lookup = []
virtuals_at is_extension = []
virtuals_at is_subtable = []
virtuals_at (is_coverage n) = []
virtuals_at (is_set c) = c ∷ []
virtuals_at (is_ligature c) = c ∷ []

-- the stream has a table of the model under its number
abbrev pub Holds : Stream → Placed → Type 0
Holds s p = (t : StreamTable) × TableAt s p.vertex t × Spelt t p.table × (virtuals_of t.links ≡ p.table.virtuals)

module _ (meaning : List ℕ → Option Meant) where
  -- a coverage's bytes mean a glyph for each set, and end where that ends
  abbrev pub Covered : Kind → StreamTable → Type 0
  Covered is_lookup t = Unit {0}
  Covered is_extension t = Unit {0}
  Covered is_subtable t = Unit {0}
  Covered (is_coverage n) t = (gs : List ℕ) × (meaning (bytes_of t) ≡ Some (gs, length (bytes_of t))) × (length gs ≡ n)
  Covered (is_set c) t = Unit {0}
  Covered (is_ligature c) t = Unit {0}

  -- the first test that a table fails as one of its kind: its shape, the number of subtables, emptiness, the coverage, the virtual links
  pub data Fault (k : Kind) (v : ℕ) (t : StreamTable) : Refusal → Type 0 where
    misshapen : (Shaped k t → ⊥) → Fault k v t (BadShape v)
    crowded : Shaped k t → (Few k t → ⊥) → Fault k v t (TooManySubtables v)
    bare : Shaped k t → Few k t → (Filled k t → ⊥) → Fault k v t (Empty v)
    uncovered : Shaped k t → Few k t → Filled k t → (Covered k t → ⊥) → Fault k v t (BadCoverage v)
    untied : Shaped k t → Few k t → Filled k t → Covered k t → (virtuals_of t.links ≢ virtuals_at k) → Fault k v t (BadVirtual v)

  pub record Faulty (s : Stream) (at : Place) (r : Refusal) : Type 0 where
    pub kind : Kind
    pub vertex : ℕ
    pub table : StreamTable
    pub stands : Stands s at kind vertex
    pub is : TableAt s vertex table
    pub fault : Fault kind vertex table r

  -- the first place of the walk that fails a test
  pub record FirstFault (s : Stream) (r : Refusal) : Type 0 where
    pub place : Place
    pub faulty : Faulty s place r
    pub first : (p : Place) (q : Refusal) → Before (path p) (path place) → Faulty s p q → ⊥

  -- THE MODEL: well-formed, its tables just those of the stream, its lookups the roots in order
  pub record Loaded (s : Stream) (m : Model) : Type 0 where
    pub good : Good meaning m
    pub tables : AllByRecursion (Holds s) (model_walk m)
    pub roots : s.roots ≡ map (λ (l : Lookup). l.vertex) m.lookups
    pub taken : m.taken ≡ taken_by s

  -- THE OUTCOME: the first that holds of a word that does not fit, a pool too small, a loose link, a stray vertex, a faulty place; else the model
  pub data Loads (caps : Capacities) (ws : List ℕ) : Result Model Refusal → Type 0 where
    misfit : (i : ℕ) → Misfit ws i → Loads caps ws (Err (BadWord i))
    short : (s : Stream) (p : Pool) → Spells ws s → short_of caps (taken_by s) ≡ Some p → Loads caps ws (Err (NoRoom p))
    loose : (s : Stream) (v : ℕ) → Spells ws s → short_of caps (taken_by s) ≡ None → Lowest (Loosely s) v → Loads caps ws (Err (BadLink v))
    astray : (s : Stream) (v : ℕ) → Spells ws s → short_of caps (taken_by s) ≡ None → Never (Loosely s) → Lowest (Strays s) v → Loads caps ws (Err (BadEntry v))
    faulty : (s : Stream) (r : Refusal) → Spells ws s → short_of caps (taken_by s) ≡ None → Never (Loosely s) → Never (Strays s) → FirstFault s r → Loads caps ws (Err r)
    accepted : (s : Stream) (m : Model) → Spells ws s → short_of caps (taken_by s) ≡ None → Loaded s m → Loads caps ws (Ok m)

-- THE STREAM OF A MODEL: its tables by vertex, each with its links by position and its virtual links behind them
abbrev pub no_table : Table
no_table = record { bytes = []; slots = []; virtuals = [] }

abbrev pub table_in : List Placed → ℕ → Table
table_in [] v = no_table
table_in (p ∷ ps) v = cond (p.vertex == v) p.table (table_in ps v)

abbrev pub link_of : Slot → StreamLink
link_of l = real (cond (l.width == 4) Four Two) l.position l.target

abbrev pub spell_table : Table → StreamTable
spell_table t = record { values = values t.bytes; links = map link_of t.slots ++ map virtual t.virtuals }

abbrev pub stream_of : Model → Stream
stream_of m =
    record {
      tables = map (λ v. spell_table (table_in (model_walk m) v)) (range_with_len 0 m.taken.vertices);
      roots = map (λ (l : Lookup). l.vertex) m.lookups;
    }

-- the model with no more bytes taken than its tables have
abbrev pub tidy : Model → Model
tidy m =
    record {
      lookups = m.lookups;
      taken = record { vertices = m.taken.vertices; links = m.taken.links; bytes = sum_by (λ (p : Placed). length p.table.bytes) (model_walk m) };
    }
