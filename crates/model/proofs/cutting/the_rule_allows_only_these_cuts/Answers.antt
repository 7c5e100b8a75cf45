use Rattle.model.proofs.PartsRule.{rule_allows_only}
use Rattle.model.proofs.cutting.the_rule_allows_only_these_cuts.Goals as goal

pub returns : goal.returns
returns c = rule_allows_only
