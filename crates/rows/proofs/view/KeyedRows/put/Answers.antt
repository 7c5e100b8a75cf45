-- The row replaces the one with its key, or is inserted at its place, or finds no room.
use Rattle.std.proofs.Common.{◌≡◌, length, arith}
use Rattle.rows.proofs.Slices.{put_there, put_new, put_full}
use Rattle.rows.proofs.view.KeyedRows.put.Goals as goal

pub returns-in-Ok-clause-laid : goal.returns-in-Ok-clause-laid
returns-in-Ok-clause-laid g c = put_there g.T.Row.key c.args.self.now c.args.row c.key.result c.key.ensures c.in-Ok.i c.in-Ok.ensures.within c.in-Ok.ensures.spot

pub returns-in-Err-clause-laid : goal.returns-in-Err-clause-laid
returns-in-Err-clause-laid g c up = put_new g.T.Row.key c.args.self.now c.args.row c.key.result c.key.ensures c.in-Err.i c.in-Err.ensures.within c.in-Err.ensures.spot up c.insert.new.self c.insert.ensures.used c.if-self.true c.insert.ensures.rows

pub returns-in-Err-2-clause-laid : goal.returns-in-Err-2-clause-laid
returns-in-Err-2-clause-laid g c up =
    let full : c.args.self.now.used ≡ length c.args.self.now.rows.now = omega arith in
    put_full g.T.Row.key c.args.self.now c.args.row c.key.result c.key.ensures c.in-Err.i c.in-Err.ensures.within c.in-Err.ensures.spot up full
