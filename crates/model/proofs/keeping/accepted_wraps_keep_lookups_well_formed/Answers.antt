use Rattle.model.proofs.KeepSound.{accepted_wraps_keep_lookups_well_formed_lem}
use Rattle.model.proofs.keeping.accepted_wraps_keep_lookups_well_formed.Goals as goal

pub returns : goal.returns
returns c = accepted_wraps_keep_lookups_well_formed_lem
