-- The law, for the function that states it.
use Rattle.model.proofs.LoadTotal.{outcomes_stand_lem}
use Rattle.model.proofs.loading.outcomes_stand.Goals as goal

pub returns : goal.returns
returns g c = outcomes_stand_lem (g.C.CoverageCodec.meaning c.args.codec.now)
