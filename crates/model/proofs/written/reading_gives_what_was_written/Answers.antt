-- The laws of reading, for the function that states them.
use Rattle.std.proofs.Common.{arith}
use Rattle.model.proofs.WrittenModels.{reads_back_lem, written_below, writes_read}
use Rattle.model.proofs.written.reading_gives_what_was_written.Goals as goal

pub returns : goal.returns
returns g c =
    let lawful = c.codecs_are_lawful.ensures in
    record { lookups = reads_back_lem _ _ _ lawful; short = λ l. written_below _ _ _ lawful _ (omega arith) l; models = writes_read _ _ _ lawful }
