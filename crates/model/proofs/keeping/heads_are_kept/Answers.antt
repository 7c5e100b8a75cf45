use Rattle.model.proofs.KeepModels.{splitting_keeps_heads, wrapping_keeps_heads}
use Rattle.model.proofs.keeping.heads_are_kept.Goals as goal

pub returns : goal.returns
returns c = record { split = splitting_keeps_heads; wrap = wrapping_keeps_heads }
