use Rattle.model.proofs.KeepSound.{splitting_keeps_lookups_well_formed_lem}
use Rattle.model.proofs.keeping.splitting_keeps_lookups_well_formed.Goals as goal

pub returns : goal.returns
returns c = splitting_keeps_lookups_well_formed_lem
