-- The law, for the function that states it.
use Rattle.model.proofs.LoadOnce.{outcomes_unique}
use Rattle.model.proofs.loading.outcomes_are_unique.Goals as goal

pub returns : goal.returns
returns g c = outcomes_unique c.codecs_are_lawful.ensures
