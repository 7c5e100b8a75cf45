use Rattle.model.proofs.KeepGlyphs.{each_coverage_has_a_part_of_the_glyphs_lem}
use Rattle.model.proofs.keeping.each_coverage_has_a_part_of_the_glyphs.Goals as goal

pub returns : goal.returns
returns c = each_coverage_has_a_part_of_the_glyphs_lem
