use Rattle.model.proofs.KeepSizes.{divisions_do_not_grow_lem}
use Rattle.model.proofs.keeping.divisions_do_not_grow.Goals as goal

pub returns : goal.returns
returns c = divisions_do_not_grow_lem
