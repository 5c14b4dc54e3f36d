use Rattle.std.proofs.Common.{◌≡◌, ◌-◌, ◌≤◌, length, take}
use Rattle.tokens.specs.Tokens.{tokens}
use Rattle.tokens.proofs.Turns.{coming}
use Rattle.sheet.specs.Nodes.{filled}
use Rattle.sheet.proofs.Turns.{ahead}
use Rattle.sheet.proofs.filling.fill.Given as goal

abbrev pub invariant-loop-found : goal.invariant-loop-found
invariant-loop-found l =
    (goal.iterator-loop-found).can_next l.found-iterator ×
    (goal.iterator-loop-found).is_finite l.found-iterator ×
    (ahead (take l.count l.nodes) (filled (coming l.found-iterator (l.limit - l.count))) ≡ filled (tokens l.text (length l.initial.nodes))) ×
    (l.count ≤ l.limit)
