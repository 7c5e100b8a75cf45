use Rattle.model.proofs.PartsCover.{parts_cover}
use Rattle.model.proofs.cutting.parts_cover_their_glyphs.Goals as goal

pub returns : goal.returns
returns c = parts_cover
