-- The theorem, for the function that states it.
use Rattle.model.proofs.NumberWrap.{wraps_as_billed}
use Rattle.model.proofs.numbering.wrapping_takes_what_it_bills.Goals as goal

pub returns : goal.returns
returns c = wraps_as_billed
