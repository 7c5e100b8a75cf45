-- The laws of reading, from those that every scalar keeps.
use Rattle.data_bytes.proofs.Places.{reads_number, reads_back_lem}
use Rattle.data_bytes.proofs.reads_back.Goals as goal

pub returns : goal.returns
returns g c =
    let s = g.T.Scalar in
    let laws = g.met.T.Scalar in
    record {
      number = reads_number s.number s.scalar s.width laws.forth;
      back = reads_back_lem s.number s.scalar s.width laws.back;
    }
