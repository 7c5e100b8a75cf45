use Rattle.model.proofs.KeepModels.{divisions_keep_rules_lem}
use Rattle.model.proofs.keeping.divisions_keep_rules.Goals as goal

pub returns : goal.returns
returns c = divisions_keep_rules_lem
