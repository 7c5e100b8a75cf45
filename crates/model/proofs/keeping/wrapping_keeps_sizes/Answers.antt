use Rattle.model.proofs.KeepSizes.{wrapping_keeps_sizes_lem}
use Rattle.model.proofs.keeping.wrapping_keeps_sizes.Goals as goal

pub returns : goal.returns
returns c = wrapping_keeps_sizes_lem
