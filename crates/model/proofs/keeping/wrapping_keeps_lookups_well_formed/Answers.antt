use Rattle.model.proofs.KeepSound.{wrapping_keeps_lookups_well_formed_lem}
use Rattle.model.proofs.keeping.wrapping_keeps_lookups_well_formed.Goals as goal

pub returns : goal.returns
returns c = wrapping_keeps_lookups_well_formed_lem
