-- How a reading can stop. Assumes nothing.
use Rattle.std.specs.Prelude.{ℕ, List}
use Rattle.reckoning.specs.Meaning.{Meaning}
use Rattle.instructions.specs.declared.Stop.{Stop}
use Rattle.instructions.specs.declared.Stop.TheVariants.{Broken, Index, Budget, Depth, Cells, Reckoned}
use Rattle.language.specs.Resolved.{Routine}
use Rattle.language.specs.Reading.{Outcome, gives, stops, reading}

-- A rule can stop for an index, its budget, its depth or its reckoning, and never for broken code or want of cells.
abbrev pub Ordinary : Stop → Type 0
Ordinary Broken = ⊥
Ordinary Index = Unit {0}
Ordinary Budget = Unit {0}
Ordinary Depth = Unit {0}
Ordinary Cells = ⊥
Ordinary (Reckoned e) = Unit {0}

abbrev pub Clean : {Cell X : Type 0} → Outcome Cell X → Type 0
Clean (gives x h) = Unit {0}
Clean (stops e p c b) = Ordinary e

abbrev pub StopsSo : {Cell : Type 0} → Meaning Cell → List Routine → Type 0
StopsSo {Cell} m rs = (active f : ℕ) (xs cells : List Cell) (budget : ℕ) → Clean (reading m rs active f xs cells budget)
