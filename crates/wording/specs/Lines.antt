-- The lines that an iterator over a text has left. Assumes nothing.
use Rattle.std.specs.Prelude.{ℕ, List}
use Rattle.wording.specs.declared.lines.Lines.{Lines}
use Rattle.wording.specs.Pieces.{lines}

abbrev pub lines_left : Lines → List (List ℕ)
lines_left s = lines s.rest.now
