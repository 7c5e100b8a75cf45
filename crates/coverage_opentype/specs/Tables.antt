-- A tested table of ranges, by the ranges that it holds.
use Rattle.std.specs.Prelude.{◌≡◌, ℕ, List, map, Some, None, Ok, Err, Result}
use Rattle.refusals.specs.declared.CodecFault.{CodecFault}
use Rattle.refusals.specs.declared.CodecFault.TheVariants.{NoMeaning}
use Rattle.coverage_opentype.specs.declared.ranges.GlyphRange.{GlyphRange}
use Rattle.coverage_opentype.specs.declared.ranges.RangeTable.{RangeTable}
use Rattle.coverage_opentype.specs.Format2.{range_of, range_meaning, meant}

-- the ranges of a table
abbrev pub ranges_in : RangeTable → List GlyphRange
ranges_in t = map range_of t.records.now

-- the ranges that a table means, or that it means nothing in format 2
abbrev pub TableRead : List ℕ → Result RangeTable CodecFault → Type 0
TableRead bs (Ok t) = range_meaning bs ≡ Some (meant (ranges_in t))
TableRead bs (Err e) = (range_meaning bs ≡ None) × (e ≡ NoMeaning)
