use Rattle.model.proofs.KeepSizes.{split_subtables_are_within_the_ceiling_lem}
use Rattle.model.proofs.keeping.split_subtables_are_within_the_ceiling.Goals as goal

pub returns : goal.returns
returns c = split_subtables_are_within_the_ceiling_lem
