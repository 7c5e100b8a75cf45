-- What a write elsewhere leaves to be read.
use Rattle.data_bytes.proofs.Places.{reads_apart_lem}
use Rattle.data_bytes.proofs.reads_apart.Goals as goal

pub returns : goal.returns
returns g c = reads_apart_lem g.T.Scalar.scalar g.T.Scalar.width g.U.Scalar.width
