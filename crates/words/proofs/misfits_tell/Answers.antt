-- The law, for the function that states it.
use Rattle.words.proofs.Whole.{misfits_tell_lem}
use Rattle.words.proofs.misfits_tell.Goals as goal

pub returns : goal.returns
returns c = misfits_tell_lem
