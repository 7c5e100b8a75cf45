-- Streams worked by hand: one lookup with one ligature subtable, and the ways in which a word does not fit.
use Rattle.std.specs.Prelude.{◌≡◌, ℕ, List, [], ◌∷◌, Ok, Err}
use Rattle.words.specs.declared.Width.TheVariants.{Two}
use Rattle.words.specs.declared.StreamCounts.{StreamCounts}
use Rattle.words.specs.Grammar.{StreamLink, real, virtual, StreamTable, Stream}
use Rattle.words.specs.Reading.{parse, counts_of}

-- the ligatures 10 11 12 = 100 and 10 11 = 101, then 20 21 = 102; the glyphs 10 and 20 are covered
abbrev pub sample_words : List ℕ
sample_words =
    0x1000_0008 ∷ 0x2000_0004 ∷ 0x2000_0000 ∷ 0x2000_0001 ∷ 0x2000_0000 ∷ 0x3000_0006 ∷ 0x5000_0001 ∷
    0x1000_000a ∷ 0x2000_0001 ∷ 0x2000_0000 ∷ 0x2000_0002 ∷ 0x2000_0000 ∷ 0x2000_0000 ∷ 0x3000_0002 ∷ 0x5000_0002 ∷ 0x3000_0006 ∷ 0x5000_0003 ∷ 0x3000_0008 ∷ 0x5000_0006 ∷
    0x1000_0008 ∷ 0x2000_0001 ∷ 0x2000_0002 ∷ 0x2000_000a ∷ 0x2000_0014 ∷
    0x1000_0006 ∷ 0x2000_0002 ∷ 0x2000_0000 ∷ 0x2000_0000 ∷ 0x3000_0002 ∷ 0x5000_0004 ∷ 0x3000_0004 ∷ 0x5000_0005 ∷ 0x6000_0002 ∷
    0x1000_0008 ∷ 0x2000_0064 ∷ 0x2000_0003 ∷ 0x2000_000b ∷ 0x2000_000c ∷ 0x6000_0002 ∷
    0x1000_0006 ∷ 0x2000_0065 ∷ 0x2000_0002 ∷ 0x2000_000b ∷ 0x6000_0002 ∷
    0x1000_0004 ∷ 0x2000_0001 ∷ 0x2000_0000 ∷ 0x3000_0002 ∷ 0x5000_0007 ∷ 0x6000_0002 ∷
    0x1000_0006 ∷ 0x2000_0066 ∷ 0x2000_0002 ∷ 0x2000_0015 ∷ 0x6000_0002 ∷
    0x7000_0000 ∷ 0x8000_0008 ∷ []

abbrev table : List ℕ → List StreamLink → StreamTable
table vs ls = record { values = vs; links = ls }

abbrev pub sample : Stream
sample = record {
  tables =
      table (4 ∷ 0 ∷ 1 ∷ 0 ∷ []) (real Two 6 1 ∷ []) ∷
      table (1 ∷ 0 ∷ 2 ∷ 0 ∷ 0 ∷ []) (real Two 2 2 ∷ real Two 6 3 ∷ real Two 8 6 ∷ []) ∷
      table (1 ∷ 2 ∷ 10 ∷ 20 ∷ []) [] ∷
      table (2 ∷ 0 ∷ 0 ∷ []) (real Two 2 4 ∷ real Two 4 5 ∷ virtual 2 ∷ []) ∷
      table (100 ∷ 3 ∷ 11 ∷ 12 ∷ []) (virtual 2 ∷ []) ∷
      table (101 ∷ 2 ∷ 11 ∷ []) (virtual 2 ∷ []) ∷
      table (1 ∷ 0 ∷ []) (real Two 2 7 ∷ virtual 2 ∷ []) ∷
      table (102 ∷ 2 ∷ 21 ∷ []) (virtual 2 ∷ []) ∷ [];
  roots = 0 ∷ [];
}

abbrev counts : ℕ → ℕ → ℕ → ℕ → StreamCounts
counts t l b r = record { tables = t; links = l; bytes = b; roots = r }

abbrev stops : List ℕ → ℕ → Type 0
stops ws i = parse ws ≡ Err i

abbrev pub SamplesStand : Type 0
SamplesStand =
    (parse sample_words ≡ Ok sample)
    × (counts_of sample ≡ counts 8 12 56 1)
    × (parse (0x8000_0000 ∷ []) ≡ Ok (record { tables = []; roots = [] }))
    -- no word at all
    × stops ([]) 0
    -- a count that is not the number of tables
    × stops (0x1000_0000 ∷ 0x8000_0002 ∷ []) 1
    -- a word behind the count
    × stops (0x8000_0000 ∷ 0x8000_0000 ∷ []) 1
    -- an unknown kind
    × stops (0x1000_0000 ∷ 0x9000_0000 ∷ []) 1
    -- a set zero bit, of a count and of a value
    × stops (0x1000_0000 ∷ 0x8100_0001 ∷ []) 1
    × stops (0x1000_0002 ∷ 0x2001_0000 ∷ 0x8000_0001 ∷ []) 1
    -- an odd length
    × stops (0x1000_0001 ∷ 0x8000_0001 ∷ []) 0
    -- a value too few, a value too many
    × stops (0x1000_0004 ∷ 0x2000_0007 ∷ 0x8000_0001 ∷ []) 2
    × stops (0x1000_0002 ∷ 0x2000_0007 ∷ 0x2000_0007 ∷ 0x8000_0001 ∷ []) 2
    -- a link before any table, behind a root, without a target
    × stops (0x6000_0000 ∷ 0x8000_0000 ∷ []) 0
    × stops (0x1000_0000 ∷ 0x7000_0000 ∷ 0x6000_0000 ∷ 0x8000_0001 ∷ []) 2
    × stops (0x1000_0000 ∷ 0x3000_0000 ∷ 0x8000_0001 ∷ []) 2
    -- a target without a link
    × stops (0x1000_0000 ∷ 0x5000_0000 ∷ 0x8000_0001 ∷ []) 1
    -- a root that names no table
    × stops (0x1000_0000 ∷ 0x7000_0001 ∷ 0x8000_0001 ∷ []) 1
    -- only the count is wanting
    × stops (0x1000_0000 ∷ 0x7000_0000 ∷ []) 2
