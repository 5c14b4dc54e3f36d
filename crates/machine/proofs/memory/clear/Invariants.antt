use Rattle.std.proofs.Common.{◌≡◌}
use Rattle.machine.specs.Instructions.{cleared}
use Rattle.machine.proofs.memory.clear.Given as goal

abbrev pub invariant-loop-cell : goal.invariant-loop-cell
invariant-loop-cell g l = l.cell-items ≡ cleared l.c l.initial.cell-items 0 l.cell-index
