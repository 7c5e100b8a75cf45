-- The row with the key is taken out, or nothing is.
use Rattle.rows.proofs.Slices.{remove_there, remove_none, behind_removed}
use Rattle.rows.proofs.view.KeyedRows.remove.Goals as goal

pub returns-in-Ok-clause-rows : goal.returns-in-Ok-clause-rows
returns-in-Ok-clause-rows g c up = (remove_there g.T.Row.key c.args.self.now c.args.key g.T.Row.zero c.in-Ok.i c.in-Ok.ensures.within (c.in-Ok.ensures.spot up) c.take_out.new.self c.take_out.ensures.rows c.take_out.ensures.used).0

pub returns-in-Ok-clause-count : goal.returns-in-Ok-clause-count
returns-in-Ok-clause-count g c up = (remove_there g.T.Row.key c.args.self.now c.args.key g.T.Row.zero c.in-Ok.i c.in-Ok.ensures.within (c.in-Ok.ensures.spot up) c.take_out.new.self c.take_out.ensures.rows c.take_out.ensures.used).1

pub returns-in-Ok-clause-behind : goal.returns-in-Ok-clause-behind
returns-in-Ok-clause-behind g c = behind_removed g.T.Row.key c.args.self.now g.T.Row.zero c.in-Ok.i c.in-Ok.ensures.within c.take_out.new.self.rows.now c.take_out.ensures.rows

pub returns-in_default-clause-rows : goal.returns-in_default-clause-rows
returns-in_default-clause-rows g c up = (remove_none g.T.Row.key c.args.self.now c.args.key g.T.Row.zero (c.in_default.ensures.spot up).1).0

pub returns-in_default-clause-count : goal.returns-in_default-clause-count
returns-in_default-clause-count g c up = (remove_none g.T.Row.key c.args.self.now c.args.key g.T.Row.zero (c.in_default.ensures.spot up).1).1
