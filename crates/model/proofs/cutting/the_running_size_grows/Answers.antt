use Rattle.model.proofs.PartsSize.{running}
use Rattle.model.proofs.cutting.the_running_size_grows.Goals as goal

pub returns : goal.returns
returns c = running
