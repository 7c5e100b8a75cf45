use Rattle.model.proofs.KeepSizes.{new_subtables_are_counted_by_cuts_lem}
use Rattle.model.proofs.keeping.new_subtables_are_counted_by_cuts.Goals as goal

pub returns : goal.returns
returns c = new_subtables_are_counted_by_cuts_lem
