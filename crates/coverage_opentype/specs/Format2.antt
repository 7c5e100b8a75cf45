-- Coverage format 2 of OpenType: the value 2, the number of ranges, and the ranges, each a start glyph, an end glyph and the coverage index of its start.
use Rattle.std.specs.Prelude.{ℕ, suc, ◌+◌, ◌-◌, ◌*◌, ◌<◌, Bool, true, cond, ◌&&◌, List, [], ◌∷◌, map, length, drop, Some, None, Option, ◌==◌, nat_le, slice_index_or}
use Rattle.std.specs.List.{flat_map, range_with_len}
use Rattle.data_bytes.specs.BigEndian.{word16}
use Rattle.data_bytes.specs.Values.{value_bytes}
use Rattle.coverage.specs.Glyphs.{is_glyph_list_of}
use Rattle.coverage.specs.Meaning.{Meant}
use Rattle.coverage_opentype.specs.declared.ranges.GlyphRange.{GlyphRange}

-- the glyphs of a range, from its start to its end
abbrev pub covers : GlyphRange → List ℕ
covers r = range_with_len r.start (suc r.end - r.start)

-- the glyphs of ranges, one range after the other
abbrev pub covered : List GlyphRange → List ℕ
covered rs = flat_map covers rs

-- no range ends before it starts
abbrev pub forward : List GlyphRange → Bool
forward [] = true
forward (r ∷ rs) = nat_le r.start r.end && forward rs

-- the first range starts at low or later, and each other one behind the end of the one before it
abbrev pub apart : ℕ → List GlyphRange → Bool
apart low [] = true
apart low (r ∷ rs) = nat_le low r.start && apart (suc r.end) rs

-- the start indices count on from n
abbrev pub numbered : ℕ → List GlyphRange → Bool
numbered n [] = true
numbered n (r ∷ rs) = r.index == n && numbered (n + length (covers r)) rs

-- the ranges of a table: rising without overlap, counted from 0
unfoldable pub in_order : List GlyphRange → Bool
in_order rs = forward rs && (apart 0 rs && numbered 0 rs)

-- the range record that six bytes spell
abbrev pub range_of : List ℕ → GlyphRange
range_of bytes = record { start = word16 bytes 0; end = word16 bytes 2; index = word16 bytes 4 }

-- the three values of a range record, and the six bytes that spell them
abbrev pub record_values : GlyphRange → List ℕ
record_values r = r.start ∷ r.end ∷ r.index ∷ []

abbrev pub record_bytes : GlyphRange → List ℕ
record_bytes r = value_bytes (record_values r)

-- the k-th range record
abbrev pub range_at_of : List ℕ → ℕ → GlyphRange
range_at_of bs k = range_of (drop (4 + 6 * k) bs)

-- the first n range records
abbrev pub ranges_at : List ℕ → ℕ → List GlyphRange
ranges_at bs n = map (range_at_of bs) (range_with_len 0 n)

abbrev pub range_end_of : List ℕ → ℕ
range_end_of bs = 4 + 6 * word16 bs 2

unfoldable pub is_ranges : List ℕ → Bool
is_ranges bs =
    nat_le 4 (length bs)
    && (word16 bs 0 == 2
    && (nat_le (range_end_of bs) (length bs)
    && (in_order (ranges_at bs (word16 bs 2)) && is_glyph_list_of (covered (ranges_at bs (word16 bs 2))))))

-- what bytes mean in format 2
unfoldable pub range_meaning : List ℕ → Option Meant
range_meaning bs = cond (is_ranges bs) (Some (covered (ranges_at bs (word16 bs 2)), range_end_of bs)) None

-- what a table of these ranges means
abbrev pub meant : List GlyphRange → Meant
meant rs = (covered rs, 4 + 6 * length rs)

-- the unbroken runs of a list whose run at hand goes from start to last, and began at the glyph of that index
abbrev pub runs_from : ℕ → ℕ → ℕ → List ℕ → List GlyphRange
runs_from start last index [] = record { start = start; end = last; index = index } ∷ []
runs_from start last index (g ∷ gs) =
    cond (g == suc last)
    (runs_from start g index gs)
    (record { start = start; end = last; index = index } ∷ runs_from g g (index + (suc last - start)) gs)

-- the unbroken runs of a list, as ranges
abbrev pub runs : List ℕ → List GlyphRange
runs [] = []
runs (g ∷ gs) = runs_from g g 0 gs

-- between neighbouring ranges a glyph is missing
abbrev pub Gaps : List GlyphRange → Type 0
Gaps rs = (k : ℕ) (d : GlyphRange) → suc k < length rs → suc (slice_index_or rs k d).end < (slice_index_or rs (suc k) d).start

abbrev pub range_values : List GlyphRange → List ℕ
range_values rs = flat_map record_values rs

-- the bytes of a list in format 2: a range for each unbroken run
abbrev pub range_bytes : List ℕ → List ℕ
range_bytes gs = value_bytes (2 ∷ length (runs gs) ∷ range_values (runs gs))

abbrev pub range_span : List ℕ → ℕ
range_span gs = 4 + 6 * length (runs gs)
