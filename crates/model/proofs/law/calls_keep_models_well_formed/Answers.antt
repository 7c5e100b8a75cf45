use Rattle.model.proofs.Knowing.{calls_keep_models_well_formed_lem}
use Rattle.model.proofs.law.calls_keep_models_well_formed.Goals as goal

pub returns : goal.returns
returns g c caps = calls_keep_models_well_formed_lem caps _ _ _ c.codecs_are_lawful.ensures
