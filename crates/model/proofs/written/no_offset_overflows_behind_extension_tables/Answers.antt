-- The laws of offsets, for the function that states them.
use Rattle.std.proofs.Common.{arith}
use Rattle.model.proofs.WrittenModels.{offsets_fit, writing_asks_for_room}
use Rattle.model.proofs.written.no_offset_overflows_behind_extension_tables.Goals as goal

pub returns : goal.returns
returns g c =
    let meaning = g.C.CoverageCodec.meaning c.args.codec.now in
    record { lookups = λ l. offsets_fit meaning _ (omega arith) l; models = λ m. writing_asks_for_room meaning _ (omega arith) m }
