-- The OpenType codec: both formats are read, the shorter one is written.
use Rattle.std.specs.Prelude.{◌≡◌, ℕ, ◌*◌, true, cond, List, length, Some, None, Option, nat_lt}
use Rattle.coverage.specs.Glyphs.{GlyphList}
use Rattle.coverage.specs.Meaning.{Meant}
use Rattle.coverage_list.specs.Format1.{array_meaning, array_bytes, array_span}
use Rattle.coverage_opentype.specs.declared.ranges.GlyphRange.{GlyphRange}
use Rattle.coverage_opentype.specs.Format2.{covered, in_order, Gaps, range_meaning, runs, range_bytes, range_span}

abbrev pub or_else : Option Meant → Option Meant → Option Meant
or_else None n = n
or_else (Some m) n = Some m

-- bytes mean what they mean in format 1 or in format 2
unfoldable pub open_type_meaning : List ℕ → Option Meant
open_type_meaning bs = or_else (array_meaning bs) (range_meaning bs)

-- format 2 where its ranges take fewer bytes than the glyphs of format 1
abbrev pub open_type_bytes : List ℕ → List ℕ
open_type_bytes gs = cond (nat_lt (6 * length (runs gs)) (2 * length gs)) (range_bytes gs) (array_bytes gs)

abbrev pub open_type_span : List ℕ → ℕ
open_type_span gs = cond (nat_lt (6 * length (runs gs)) (2 * length gs)) (range_span gs) (array_span gs)

-- the runs of a glyph list are the ranges in order that cover just that list with a gap between any two, and no others are
abbrev pub RunsAreUnbroken : Type 0
RunsAreUnbroken =
    ((gs : List ℕ) → GlyphList gs → (covered (runs gs) ≡ gs) × (in_order (runs gs) ≡ true) × Gaps (runs gs))
    × ((rs : List GlyphRange) → in_order rs ≡ true → Gaps rs → runs (covered rs) ≡ rs)
