-- The example, for the function that states it.
use Rattle.model.proofs.WrittenModels.{sample_written}
use Rattle.model.proofs.written.a_small_lookup_as_written.Goals as goal

pub returns : goal.returns
returns c = sample_written
