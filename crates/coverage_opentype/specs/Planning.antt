-- How a glyph list is to be written: in the format that is the shorter for it.
use Rattle.std.specs.Prelude.{◌≡◌, ℕ, ◌*◌, ◌<◌, ◌≤◌, false, List, length, Ok, Err, Result}
use Rattle.refusals.specs.declared.CodecFault.{CodecFault}
use Rattle.refusals.specs.declared.CodecFault.TheVariants.{NotAdmitted}
use Rattle.coverage.specs.Glyphs.{is_glyph_list_of, GlyphList}
use Rattle.coverage_opentype.specs.declared.opentype.Layout.{Layout}
use Rattle.coverage_opentype.specs.declared.opentype.Layout.TheVariants.{Array, Ranges}
use Rattle.coverage_opentype.specs.declared.opentype.Plan.{Plan}
use Rattle.coverage_opentype.specs.Format2.{runs}
use Rattle.coverage_opentype.specs.OpenType.{open_type_span}

-- format 2 with a range for each run, where these take fewer bytes than the glyphs of format 1
abbrev pub Shorter : List ℕ → Layout → Type 0
Shorter gs Array = 2 * length gs ≤ 6 * length (runs gs)
Shorter gs (Ranges n) = (n ≡ length (runs gs)) × (6 * n < 2 * length gs)

abbrev pub Planned : List ℕ → Result Plan CodecFault → Type 0
Planned gs (Ok p) = GlyphList gs × (p.size ≡ open_type_span gs) × Shorter gs p.layout
Planned gs (Err e) = (is_glyph_list_of gs ≡ false) × (e ≡ NotAdmitted)
