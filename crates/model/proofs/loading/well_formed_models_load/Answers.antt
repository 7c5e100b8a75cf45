-- The law, for the function that states it.
use Rattle.model.proofs.LoadBack.{models_load}
use Rattle.model.proofs.loading.well_formed_models_load.Goals as goal

pub returns : goal.returns
returns g c = models_load c.codecs_are_lawful.ensures
