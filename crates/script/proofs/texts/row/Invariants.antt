use Rattle.std.proofs.Common.{◌≡◌, ◌++◌, length, string_bytes}
use Rattle.script.specs.Texts.{row}
use Rattle.script.proofs.texts.row.Given as goal

abbrev pub invariant-loop-cell : goal.invariant-loop-cell
invariant-loop-cell g l = string_bytes l.line ++ row g.N.Notation.writes l.rest ≡ row g.N.Notation.writes l.cells

abbrev pub decreases-loop-cell : goal.decreases-loop-cell
decreases-loop-cell g l = length l.rest
