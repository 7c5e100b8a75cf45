-- The theorem, for the function that states it.
use Rattle.model.proofs.NumberSplit.{bills_exactly}
use Rattle.model.proofs.numbering.the_bill_is_exact.Goals as goal

pub returns : goal.returns
returns c = bills_exactly
