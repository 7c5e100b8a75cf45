use Rattle.model.proofs.RulePlaces.{rules_stand_where_told_lem}
use Rattle.model.proofs.shaping.rules_stand_where_told.Goals as goal

pub returns : goal.returns
returns c = rules_stand_where_told_lem
