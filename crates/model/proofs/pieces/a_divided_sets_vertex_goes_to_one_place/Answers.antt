use Rattle.model.proofs.PieceSets.{one_place_each}
use Rattle.model.proofs.pieces.a_divided_sets_vertex_goes_to_one_place.Goals as goal

pub returns : goal.returns
returns c = one_place_each
