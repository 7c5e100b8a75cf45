use Rattle.model.proofs.PartsRule.{follow_the_rule}
use Rattle.model.proofs.cutting.cuts_follow_the_rule.Goals as goal

pub returns : goal.returns
returns c = follow_the_rule
