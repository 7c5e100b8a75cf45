use Rattle.model.proofs.KeepModels.{wrapping_keeps_rules_lem}
use Rattle.model.proofs.keeping.wrapping_keeps_rules.Goals as goal

pub returns : goal.returns
returns c = wrapping_keeps_rules_lem
