-- THE LAW: for every line of calls behind an accepted load, each answer agrees with the rule book.
use Rattle.std.specs.Prelude.{◌≡◌, ℕ, suc, ◌≤◌, Bool, true, false, List, [], ◌∷◌, ◌++◌, length, Some, None, Ok, Err, Option, Result, ◌≢◌}
use Rattle.std.specs.List.{AllByRecursion}
use Rattle.refusals.specs.declared.Refusal.{Refusal}
use Rattle.refusals.specs.declared.Refusal.TheVariants.{OffsetOverflow}
use Rattle.coverage.specs.Meaning.{Meant}
use Rattle.data_bytes.specs.Values.{value_bytes}
use Rattle.model.specs.Forest.{Subtable, Lookup, Model}
use Rattle.model.specs.Tables.{part_of}
use Rattle.model.specs.Rules.{Rule, shape_by, nth}
use Rattle.model.specs.Cutting.{subtable_size}
use Rattle.model.specs.Splitting.{Capacities, Changed, split, renewed_in}
use Rattle.model.specs.Sound.{Good, WroteWell}
use Rattle.model.specs.Loading.{Loads}
use Rattle.model.specs.Book.{Call, do_split, do_wrap, do_write, do_shape, do_rule, do_read, Answer, refused, RuleAnswer, ruled, accepted, Page, book_of, fed, book_shapes, book_rule, Desk, answer_shape, answer, next_model, next_desk}

-- The book with its memory: for each call so far, the page of an accepted write as it then was.
pub record Shelf : Type 0 where
  pub book : List Page
  pub kept : List (Option Page)

-- what is kept of a call
abbrev pub kept_if : Bool → Option Page → Option Page
kept_if true p = p
kept_if false p = None

abbrev pub keeps : List Page → Call → Bool → Option Page
keeps b (do_split n c) t = None
keeps b (do_wrap n) t = None
keeps b (do_write n room) t = kept_if t (nth b n)
keeps b (do_shape n s p) t = None
keeps b (do_rule n k) t = None
keeps b (do_read w s p) t = None

abbrev pub fed_shelf : Shelf → Call → Bool → Shelf
fed_shelf h c t = record { book = fed h.book c t; kept = h.kept ++ keeps h.book c t ∷ [] }

-- the answer names a rule of the book: its first glyph is the one answered, and the rest stands in the bytes of the vertex answered
pub record Names (m : Model) (x : RuleAnswer) (r : Rule) : Type 0 where
  pub components : List ℕ
  pub glyphs : r.glyphs ≡ x.first ∷ components
  pub bytes : part_of m x.vertex ≡ Some (value_bytes (r.ligature ∷ suc (length components) ∷ components))

-- a rule question is answered exactly where the book has that rule, with its glyphs; else it gives the same refusal
abbrev pub SameRule : Model → Result Rule Refusal → Answer → Type 0
SameRule m (Ok r) a = (x : RuleAnswer) × (a ≡ ruled x) × Names m x r
SameRule m (Err e) a = a ≡ refused e

-- reading what an accepted write put out gives the answer of the page as it was at that write
abbrev pub SameRead : Option (Option Page) → List ℕ → ℕ → Answer → Type 0
SameRead None s p a = Unit {0}
SameRead (Some None) s p a = Unit {0}
SameRead (Some (Some g)) s p a = a ≡ answer_shape (shape_by g.rules s p)

-- a lookup that has a ceiling and type 7 in the book is never refused for an offset
abbrev pub NoOverflow : Option Page → Answer → Type 0
NoOverflow None a = Unit {0}
NoOverflow (Some g) a = (c : ℕ) → g.ceiling ≡ Some c → g.kind ≡ 7 → a ≢ refused OffsetOverflow

abbrev pub Agrees : Model → Shelf → Call → Answer → Type 0
Agrees m h (do_split n c) a = Unit {0}
Agrees m h (do_wrap n) a = Unit {0}
Agrees m h (do_write n room) a = NoOverflow (nth h.book n) a
Agrees m h (do_shape n s p) a = a ≡ answer_shape (book_shapes h.book n s p)
Agrees m h (do_rule n k) a = SameRule m (book_rule h.book n k) a
Agrees m h (do_read w s p) a = SameRead (nth h.kept w) s p a

-- no subtable is larger, its coverage apart, than its lookup's ceiling in the book
abbrev pub Under : Page → Lookup → Type 0
Under g l = (c : ℕ) → g.ceiling ≡ Some c → AllByRecursion (λ (s : Subtable). subtable_size s ≤ c) l.subtables

pub data Ceilings : List Page → List Lookup → Type 0 where
  none : Ceilings [] []
  more : {g : Page} {l : Lookup} {gs : List Page} {ls : List Lookup} → Under g l → Ceilings gs ls → Ceilings (g ∷ gs) (l ∷ ls)

module _ (caps : Capacities) (meaning : List ℕ → Option Meant) (span : List ℕ → ℕ) where
  -- WHAT THE CODEC WRITES: in an accepted split, for each subtable that comes from a cut, bytes that mean its glyphs
  abbrev pub Writes : (ℕ → List ℕ) → Model → Call → Type 0
  Writes given m (do_split n c) = (ch : Changed) → split caps given m n c ≡ Ok ch → AllByRecursion (WroteWell meaning span given) (renewed_in c given m.taken.vertices (nth m.lookups n))
  Writes given m (do_wrap n) = Unit {0}
  Writes given m (do_write n room) = Unit {0}
  Writes given m (do_shape n s p) = Unit {0}
  Writes given m (do_rule n k) = Unit {0}
  Writes given m (do_read w s p) = Unit {0}

  -- along a line: what the codec writes is lawful in every call
  abbrev pub WritesAlong : (ℕ → ℕ → List ℕ) → ℕ → Desk → List Call → Type 0
  WritesAlong given k d [] = Unit {0}
  WritesAlong given k d (c ∷ cs) = Writes (given k) d.model c × WritesAlong given (suc k) (next_desk caps meaning (given k) d c) cs

  -- each answer of the line agrees with the book as it was at that call, and the ceilings hold after it
  abbrev pub AgreesAlong : (ℕ → ℕ → List ℕ) → ℕ → Desk → Shelf → List Call → Type 0
  AgreesAlong given k d h [] = Unit {0}
  AgreesAlong given k d h (c ∷ cs) =
      Agrees d.model h c (answer caps meaning (given k) d c)
      × Ceilings (fed_shelf h c (accepted (answer caps meaning (given k) d c))).book (next_desk caps meaning (given k) d c).model.lookups
      × AgreesAlong given (suc k) (next_desk caps meaning (given k) d c) (fed_shelf h c (accepted (answer caps meaning (given k) d c))) cs

  -- for every well-formed model, every line of calls of any length, and whatever a lawful codec writes
  abbrev pub EveryAnswerAgrees : Type 0
  EveryAnswerAgrees =
      (m : Model) → Good meaning m → (given : ℕ → ℕ → List ℕ) (calls : List Call)
      → WritesAlong given 0 (record { model = m; outputs = [] }) calls
      → AgreesAlong given 0 (record { model = m; outputs = [] }) (record { book = book_of m; kept = [] }) calls

  -- the same behind an accepted load, whatever the words
  abbrev pub EveryLineBehindALoadAgrees : Type 0
  EveryLineBehindALoadAgrees =
      (ws : List ℕ) (m : Model) → Loads meaning caps ws (Ok m) → (given : ℕ → ℕ → List ℕ) (calls : List Call)
      → WritesAlong given 0 (record { model = m; outputs = [] }) calls
      → AgreesAlong given 0 (record { model = m; outputs = [] }) (record { book = book_of m; kept = [] }) calls

  -- every call leaves a well-formed model well-formed
  abbrev pub CallsKeepModelsWellFormed : Type 0
  CallsKeepModelsWellFormed =
      (given : ℕ → List ℕ) (m : Model) (c : Call) → Good meaning m → Writes given m c → Good meaning (next_model caps meaning given m c)
