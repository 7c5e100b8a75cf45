-- The theorem, for the function that states it.
use Rattle.model.proofs.NumberSplit.{keeps_vertices_distinct}
use Rattle.model.proofs.numbering.splitting_keeps_vertices_distinct.Goals as goal

pub returns : goal.returns
returns c = keeps_vertices_distinct
