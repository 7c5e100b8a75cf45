-- The law, for the function that states it.
use Rattle.model.proofs.LoadSmall.{small_refused}
use Rattle.model.proofs.loading.small_streams_are_refused.Goals as goal

pub returns : goal.returns
returns g c = small_refused (g.C.CoverageCodec.meaning c.args.codec.now)
