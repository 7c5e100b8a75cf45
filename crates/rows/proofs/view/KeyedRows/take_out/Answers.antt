-- The copy closes the gap, and the zero row takes the last place.
use Rattle.std.proofs.Common.{◌-◌, set, ap, ◌∙◌}
use Rattle.rows.proofs.Slices.{closed}
use Rattle.rows.proofs.view.KeyedRows.take_out.Goals as goal

pub returns-clause-rows : goal.returns-clause-rows
returns-clause-rows g c =
    ap (set c.copy_within.new.self (c.args.self.now.used - 1)) c.zero.ensures
    ∙ closed c.args.self.now.rows.now c.copy_within.new.self c.args.self.now.used c.args.at g.T.Row.zero c.requires c.args.self.now.fits c.copy_within.ensures.after
