use Rattle.std.proofs.Common.{refl, rules}
use Rattle.wording.proofs.Cuts.{first_of}
use Rattle.wording.proofs.pieces.first_line.Goals as goal

pub returns : goal.returns
returns c = let h = first_of c.args.text _ c.cut.result (search rules) refl c.cut.ensures in rw c.unwrap_or.ensures record { is = h.0; shorter = h.1 }
