-- The laws of spelling.
use Rattle.std.proofs.Common.{length, refl}
use Rattle.data_bytes.proofs.Spellings.{length_spelled, bytes_spelled, number_spelled, spelled_again, number_under}
use Rattle.data_bytes.proofs.spelling_stands.Goals as goal

pub returns : goal.returns
returns c = record {
  numbers = number_spelled;
  spellings = λ bs. spelled_again (length bs) bs refl;
  bytes = λ w n. (length_spelled w n, bytes_spelled w n);
  fits = λ bs. number_under (length bs) bs refl;
}
