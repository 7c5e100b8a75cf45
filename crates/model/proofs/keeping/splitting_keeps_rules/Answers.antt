use Rattle.model.proofs.KeepModels.{splitting_keeps_rules_lem}
use Rattle.model.proofs.keeping.splitting_keeps_rules.Goals as goal

pub returns : goal.returns
returns c = splitting_keeps_rules_lem
