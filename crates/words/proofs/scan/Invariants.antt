-- What is counted and what is to come make up the whole.
use Rattle.words.proofs.Counting.{Far}
use Rattle.words.proofs.scan.Given as goal

abbrev pub invariant-loop-index : goal.invariant-loop-index
invariant-loop-index l = Far l.words l.index l.reading
