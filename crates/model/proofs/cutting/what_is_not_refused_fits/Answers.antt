use Rattle.model.proofs.PartsRule.{fitting}
use Rattle.model.proofs.cutting.what_is_not_refused_fits.Goals as goal

pub returns : goal.returns
returns c = fitting
