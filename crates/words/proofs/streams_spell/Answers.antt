-- The law, for the function that states it.
use Rattle.words.proofs.Whole.{streams_spell_lem}
use Rattle.words.proofs.streams_spell.Goals as goal

pub returns : goal.returns
returns c = streams_spell_lem
