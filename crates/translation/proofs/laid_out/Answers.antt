use Rattle.translation.proofs.Lengths.{long_routine}
use Rattle.translation.proofs.Pieces.{in_one_piece}
use Rattle.translation.proofs.laid_out.Goals as goal

pub returns : goal.returns
returns c = record { same_size = long_routine; in_one_piece = in_one_piece }
