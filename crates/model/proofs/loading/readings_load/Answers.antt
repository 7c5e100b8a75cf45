-- The law, for the function that states it.
use Rattle.model.proofs.LoadWhole.{readings_load_lem}
use Rattle.model.proofs.loading.readings_load.Goals as goal

pub returns : goal.returns
returns g c = readings_load_lem (g.C.CoverageCodec.meaning c.args.codec.now)
