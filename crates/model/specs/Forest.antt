-- The model of a graph: its lookups as a font engineer means them, each table with its vertex number.
use Rattle.std.specs.Prelude.{ℕ, List, Option}

-- a ligature: its glyph, and the component glyphs behind the first
pub record Ligature : Type 0 where
  pub vertex : ℕ
  pub glyph : ℕ
  pub components : List ℕ

-- a ligature set, with the glyph that the coverage has at its index
pub record LigatureSet : Type 0 where
  pub vertex : ℕ
  pub first : ℕ
  pub ligatures : List Ligature

-- a ligature subtable: its extension table if it has one, and its coverage as bytes
pub record Subtable : Type 0 where
  pub extension : Option ℕ
  pub vertex : ℕ
  pub coverage : ℕ
  pub covering : List ℕ
  pub sets : List LigatureSet

-- a lookup: type 4, or 7 where each subtable has an extension table; a mark filtering set if the flag asks for one
pub record Lookup : Type 0 where
  pub vertex : ℕ
  pub kind : ℕ
  pub flag : ℕ
  pub mark : Option ℕ
  pub subtables : List Subtable

-- how much of each pool is taken
pub record Taken : Type 0 where
  pub vertices : ℕ
  pub links : ℕ
  pub bytes : ℕ

-- the lookups by number, and what they take
pub record Model : Type 0 where
  pub lookups : List Lookup
  pub taken : Taken
