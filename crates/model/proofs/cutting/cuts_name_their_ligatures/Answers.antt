use Rattle.model.proofs.PartsGroups.{named}
use Rattle.model.proofs.cutting.cuts_name_their_ligatures.Goals as goal

pub returns : goal.returns
returns c = named
