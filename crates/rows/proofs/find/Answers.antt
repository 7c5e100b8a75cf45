-- The row that the search ends at is what the look-up finds.
use Rattle.std.proofs.Common.{take, arith}
use Rattle.std.proofs.lemmas.Grind.{common_steps}
use Rattle.rows.proofs.Laws.{found_from_answer}
use Rattle.rows.proofs.find.Goals as goal

pub returns-clause-found : goal.returns-clause-found
returns-clause-found g c = found_from_answer g.T.Row.key c.args.key (take c.args.used c.args.rows.now) c.index-in_use-at.result (grind (arith, common_steps))
