use Rattle.std.proofs.Common.{◌≡◌, ◌-◌, ◌≤◌}
use Rattle.tokens.specs.Tokens.{tokens, number_of}
use Rattle.tokens.proofs.Turns.{added, coming}
use Rattle.tokens.proofs.whole.read.Given as goal

abbrev pub invariant-loop-found : goal.invariant-loop-found
invariant-loop-found l =
    (goal.iterator-loop-found).can_next l.found-iterator ×
    (goal.iterator-loop-found).is_finite l.found-iterator ×
    (added l.count (coming l.found-iterator (l.limit - l.count)) ≡ number_of (tokens l.text l.records)) ×
    (l.count ≤ l.limit)
