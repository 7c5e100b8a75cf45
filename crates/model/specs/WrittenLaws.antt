-- The laws of written lookups: what reading them gives, and where no offset overflows.
use Rattle.std.specs.Prelude.{◌≡◌, ℕ, ◌<◌, ◌≤◌, false, cond, List, [], ◌∷◌, map, length, Some, Ok, Err, Option, ◌≢◌, nat_le}
use Rattle.std.specs.List.{AllByRecursion}
use Rattle.refusals.specs.declared.Refusal.TheVariants.{ShortBuffer, Unreadable}
use Rattle.data_bytes.specs.BigEndian.{Bytes}
use Rattle.coverage.specs.Meaning.{Meant}
use Rattle.coverage_list.specs.Format1.{array_meaning}
use Rattle.model.specs.Forest.{Subtable, Lookup, Model}
use Rattle.model.specs.Tables.{vertex_of, lookup_walk}
use Rattle.model.specs.Rules.{rules_of, shape_by, shape, nth}
use Rattle.model.specs.Cutting.{subtable_size}
use Rattle.model.specs.Sound.{Distinct, GoodLookup, Good}
use Rattle.model.specs.Writing.{overflows, written, written_size, write}
use Rattle.model.specs.Reading.{rules_in, read}

-- a lookup of type 7, and none of its subtables larger than so much
pub record Extended (size : ℕ) (l : Lookup) : Type 0 where
  pub kind : l.kind ≡ 7
  pub sizes : AllByRecursion (λ (s : Subtable). subtable_size s ≤ size) l.subtables

module _ (meaning : List ℕ → Option Meant) where
  -- each table of the lookup has a vertex of its own
  pub record SoundLookup (l : Lookup) : Type 0 where
    pub good : GoodLookup meaning l
    pub distinct : Distinct (map vertex_of (lookup_walk l))

  -- what is written of a lookup is bytes, as many as told, and holds its rules
  pub record ReadsBack (l : Lookup) : Type 0 where
    pub bytes : Bytes (written l)
    pub long : length (written l) ≡ written_size l
    pub rules : rules_in meaning (written l) ≡ Ok (rules_of l)
    pub shapes : (s : List ℕ) (p : ℕ) → read meaning (written l) s p ≡ shape_by (rules_of l) s p
    pub readable : (s : List ℕ) (p q : ℕ) → read meaning (written l) s p ≢ Err (Unreadable q)

  -- a lookup that write accepts
  abbrev pub ReadingGivesWhatWasWritten : Type 0
  ReadingGivesWhatWasWritten = (l : Lookup) → SoundLookup l → overflows l ≡ false → ReadsBack l

  -- four-byte offsets reach all of what write accepts
  abbrev pub WrittenBelow : ℕ → Type 0
  WrittenBelow limit = (l : Lookup) → SoundLookup l → overflows l ≡ false → written_size l < limit

  -- what an accepted write of lookup n put out: read, it shapes as the model did
  pub record Wrote (m : Model) (n room : ℕ) (bs : List ℕ) : Type 0 where
    pub lookup : Lookup
    pub stood : nth m.lookups n ≡ Some lookup
    pub bytes : bs ≡ written lookup
    pub within : length bs ≤ room
    pub shapes : (s : List ℕ) (p : ℕ) → read meaning bs s p ≡ shape m n s p
    pub readable : (s : List ℕ) (p q : ℕ) → read meaning bs s p ≢ Err (Unreadable q)

  abbrev pub ReadingGivesWhatTheModelShapes : Type 0
  ReadingGivesWhatTheModelShapes = (m : Model) (n room : ℕ) (bs : List ℕ) → Good meaning m → write m n room ≡ Ok bs → Wrote m n room bs

  abbrev pub NoOffsetOverflows : ℕ → Type 0
  NoOffsetOverflows size = (l : Lookup) → SoundLookup l → Extended size l → overflows l ≡ false

  -- so that its write asks for nothing but room
  abbrev pub WritingAsksForRoom : ℕ → Type 0
  WritingAsksForRoom size =
      (m : Model) (n room : ℕ) (l : Lookup) → Good meaning m → nth m.lookups n ≡ Some l → Extended size l
      → write m n room ≡ cond (nat_le (written_size l) room) (Ok (written l)) (Err (ShortBuffer (written_size l)))

-- AN EXAMPLE: two subtables in a lookup of type 7 with mark filtering set 5
abbrev pub sample : Lookup
sample =
    record {
      vertex = 0;
      kind = 7;
      flag = 16;
      mark = Some 5;
      subtables = record {
        extension = Some 1;
        vertex = 2;
        coverage = 3;
        covering = 0 ∷ 1 ∷ 0 ∷ 2 ∷ 0 ∷ 7 ∷ 0 ∷ 9 ∷ [];
        sets = record { vertex = 4; first = 7; ligatures = record { vertex = 5; glyph = 20; components = 8 ∷ [] } ∷ record { vertex = 6; glyph = 21; components = [] } ∷ [] }
            ∷ record { vertex = 7; first = 9; ligatures = record { vertex = 8; glyph = 22; components = 8 ∷ 7 ∷ [] } ∷ [] } ∷ [];
      } ∷ record {
        extension = Some 9;
        vertex = 10;
        coverage = 11;
        covering = 0 ∷ 1 ∷ 0 ∷ 1 ∷ 0 ∷ 7 ∷ [];
        sets = record { vertex = 12; first = 7; ligatures = record { vertex = 13; glyph = 23; components = 30 ∷ [] } ∷ [] } ∷ [];
      } ∷ [];
    }

-- the lookup at 0 and its extension tables at 12 and 20; a subtable at 28, its sets at 38 and 44, its ligatures at 48, 54 and 58,
-- its coverage (so far behind the subtable) at 66; the other subtable at 74, its set at 82, its ligature at 86, its coverage at 92
abbrev pub sample_bytes : ℕ → List ℕ
sample_bytes coverage =
    0 ∷ 7 ∷ 0 ∷ 16 ∷ 0 ∷ 2 ∷ 0 ∷ 12 ∷ 0 ∷ 20 ∷ 0 ∷ 5
    ∷ 0 ∷ 1 ∷ 0 ∷ 4 ∷ 0 ∷ 0 ∷ 0 ∷ 16
    ∷ 0 ∷ 1 ∷ 0 ∷ 4 ∷ 0 ∷ 0 ∷ 0 ∷ 54
    ∷ 0 ∷ 1 ∷ 0 ∷ coverage ∷ 0 ∷ 2 ∷ 0 ∷ 10 ∷ 0 ∷ 16
    ∷ 0 ∷ 2 ∷ 0 ∷ 10 ∷ 0 ∷ 16
    ∷ 0 ∷ 1 ∷ 0 ∷ 14
    ∷ 0 ∷ 20 ∷ 0 ∷ 2 ∷ 0 ∷ 8
    ∷ 0 ∷ 21 ∷ 0 ∷ 1
    ∷ 0 ∷ 22 ∷ 0 ∷ 3 ∷ 0 ∷ 8 ∷ 0 ∷ 7
    ∷ 0 ∷ 1 ∷ 0 ∷ 2 ∷ 0 ∷ 7 ∷ 0 ∷ 9
    ∷ 0 ∷ 1 ∷ 0 ∷ 18 ∷ 0 ∷ 1 ∷ 0 ∷ 8
    ∷ 0 ∷ 1 ∷ 0 ∷ 4
    ∷ 0 ∷ 23 ∷ 0 ∷ 2 ∷ 0 ∷ 30
    ∷ 0 ∷ 1 ∷ 0 ∷ 1 ∷ 0 ∷ 7 ∷ []

pub record SampleWritten (bytes : List ℕ) : Type 0 where
  pub sound : SoundLookup array_meaning sample
  pub fits : overflows sample ≡ false
  pub written : written sample ≡ bytes
