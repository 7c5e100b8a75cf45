-- What the parts of the format 2 reader and writer find out, each by the meaning of what it looked at.
use Rattle.std.specs.Prelude.{◌≡◌, ℕ, true, false, List, length, Some, None, Option}
use Rattle.coverage.specs.Glyphs.{small, is_glyph_list_of, GlyphList}
use Rattle.coverage_opentype.specs.declared.ranges.GlyphRange.{GlyphRange}
use Rattle.coverage_opentype.specs.Format2.{covered, in_order, runs}

-- how many glyphs ranges in order cover; nothing of ranges that are not
abbrev pub Totalled : List GlyphRange → Option ℕ → Type 0
Totalled rs None = in_order rs ≡ false
Totalled rs (Some n) = (in_order rs ≡ true) × (small (covered rs) ≡ true) × (n ≡ length (covered rs))

-- how many unbroken runs a glyph list has; nothing of what is no glyph list
abbrev pub RunsCounted : List ℕ → Option ℕ → Type 0
RunsCounted gs None = is_glyph_list_of gs ≡ false
RunsCounted gs (Some n) = GlyphList gs × (n ≡ length (runs gs))
