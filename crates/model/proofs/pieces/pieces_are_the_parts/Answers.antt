use Rattle.model.proofs.PieceParts.{pieces_are_the_parts_lem}
use Rattle.model.proofs.pieces.pieces_are_the_parts.Goals as goal

pub returns : goal.returns
returns c = pieces_are_the_parts_lem
