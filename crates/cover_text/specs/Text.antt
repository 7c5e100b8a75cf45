-- The text of a coverage table, as bytes: what it covers, and how the codecs write that.
use Rattle.std.specs.Prelude.{ℕ, ◌+◌, ◌/◌, ◌%◌, cond, List, [], ◌∷◌, ◌++◌, length, Some, None, Ok, Err, codes, decimal, Option, Result, ◌==◌, nat_lt}
use Rattle.std.specs.List.{flat_map}
use Rattle.refusals.specs.declared.CodecFault.{CodecFault}
use Rattle.refusals.specs.declared.CodecFault.TheVariants.{NoMeaning}
pub use Rattle.refusals.specs.Words.{fault_words_of}
use Rattle.data_bytes.specs.BigEndian.{word16}
use Rattle.coverage.specs.Meaning.{Meant}
use Rattle.coverage_list.specs.Format1.{array_meaning, array_bytes}
use Rattle.coverage_opentype.specs.declared.ranges.GlyphRange.{GlyphRange}
use Rattle.coverage_opentype.specs.Format2.{runs}
use Rattle.coverage_opentype.specs.OpenType.{open_type_meaning, open_type_bytes}

-- what ends a line
abbrev pub newline : List ℕ
newline = 10 ∷ []

-- the glyphs from start to last: both numbers, or the one glyph alone
abbrev pub range_text_of : ℕ → ℕ → List ℕ
range_text_of start last = cond (start == last) (decimal start) (decimal start ++ (codes "-" ++ decimal last))

-- a range behind a space
abbrev pub spaced_range : GlyphRange → List ℕ
spaced_range r = codes " " ++ range_text_of r.start r.end

-- the unbroken runs of a list, each behind a space
abbrev pub runs_text : List ℕ → List ℕ
runs_text gs = flat_map spaced_range (runs gs)

abbrev pub hex_digit_of : ℕ → ℕ
hex_digit_of d = cond (nat_lt d 10) (48 + d) (87 + d)

-- a byte in two digits, the high one first
abbrev pub hex_byte : ℕ → List ℕ
hex_byte b = hex_digit_of (b / 16) ∷ hex_digit_of (b % 16) ∷ []

abbrev pub hex_text : List ℕ → List ℕ
hex_text bs = flat_map hex_byte bs

-- what a codec reads: how many glyphs, and where they end
abbrev pub reading : Option Meant → Result (ℕ × ℕ) CodecFault
reading None = Err NoMeaning
reading (Some m) = Ok (length m.0, m.1)

abbrev pub reading_text_of : Result (ℕ × ℕ) CodecFault → List ℕ
reading_text_of (Ok p) = decimal p.0 ++ (codes " glyphs, " ++ (decimal p.1 ++ codes " bytes"))
reading_text_of (Err fault) = fault_words_of fault

-- the lines
unfoldable pub format_line_of : List ℕ → ℕ → List ℕ
format_line_of bs e = codes "format " ++ (decimal (word16 bs 0) ++ (codes ", " ++ (decimal e ++ (codes " of " ++ (decimal (length bs) ++ (codes " bytes" ++ newline))))))

unfoldable pub glyphs_line_of : List ℕ → List ℕ
glyphs_line_of gs = codes "glyphs" ++ (runs_text gs ++ newline)

unfoldable pub list_line_of : List ℕ → List ℕ
list_line_of bs = codes "list codec: " ++ (reading_text_of (reading (array_meaning bs)) ++ newline)

unfoldable pub writes_line_of : List ℕ → List ℕ → List ℕ
writes_line_of codec bs = codec ++ (codes " writes " ++ (hex_text bs ++ newline))

unfoldable pub fault_line_of : CodecFault → List ℕ
fault_line_of fault = codes "no coverage: " ++ (fault_words_of fault ++ newline)

-- all lines, by what the bytes mean under the OpenType codec
abbrev pub lines_of : List ℕ → Option Meant → List ℕ
lines_of bs None = fault_line_of NoMeaning
lines_of bs (Some m) =
    format_line_of bs m.1
    ++ (glyphs_line_of m.0
    ++ (list_line_of bs
    ++ (writes_line_of (codes "OpenType codec") (open_type_bytes m.0)
    ++ writes_line_of (codes "list codec") (array_bytes m.0))))

-- what is printed for the bytes of a coverage table
unfoldable pub coverage_text_of : List ℕ → List ℕ
coverage_text_of bs = lines_of bs (open_type_meaning bs)
