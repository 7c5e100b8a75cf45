-- The theorem, for the function that states it.
use Rattle.model.proofs.NumberSplit.{numbers_new_vertices}
use Rattle.model.proofs.numbering.new_vertices_are_numbered_in_order.Goals as goal

pub returns : goal.returns
returns c = numbers_new_vertices
