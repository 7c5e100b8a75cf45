use Rattle.model.proofs.KeepWhole.{splits_without_cuts_change_nothing_lem}
use Rattle.model.proofs.keeping.splits_without_cuts_change_nothing.Goals as goal

pub returns : goal.returns
returns c = splits_without_cuts_change_nothing_lem
