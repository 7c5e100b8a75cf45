use Rattle.model.proofs.PartsGroups.{grouping}
use Rattle.model.proofs.cutting.groups_are_the_sets.Goals as goal

pub returns : goal.returns
returns c = grouping
