-- The copy leaves a gap, and the row fills it.
use Rattle.rows.proofs.Slices.{laid}
use Rattle.rows.proofs.view.KeyedRows.insert.Goals as goal

pub returns-clause-rows : goal.returns-clause-rows
returns-clause-rows g c = laid c.args.self.now.rows.now c.copy_within.new.self c.args.self.now.used c.args.at c.args.row c.requires.0 c.requires.1 c.copy_within.ensures.after
