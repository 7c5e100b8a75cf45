use Rattle.model.proofs.FirstRules.{first_rule_shapes}
use Rattle.model.proofs.shaping.shaping_is_by_the_first_rule.Goals as goal

pub returns : goal.returns
returns c = first_rule_shapes
