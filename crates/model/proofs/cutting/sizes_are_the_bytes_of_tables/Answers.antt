use Rattle.model.proofs.PartsBytes.{sized}
use Rattle.model.proofs.cutting.sizes_are_the_bytes_of_tables.Goals as goal

pub returns : goal.returns
returns c = sized
