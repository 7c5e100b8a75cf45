use Rattle.model.proofs.PartsRule.{uncut}
use Rattle.model.proofs.cutting.no_cut_within_the_ceiling.Goals as goal

pub returns : goal.returns
returns c = uncut
