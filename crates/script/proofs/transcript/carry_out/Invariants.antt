use Rattle.std.proofs.Common.{◌≡◌, ◌+◌}
use Rattle.script.specs.Sessions.{state}
use Rattle.script.specs.Scripts.{Numbered, carried, left}
use Rattle.script.proofs.transcript.carry_out.Given as goal

abbrev pub invariant-loop-i : goal.invariant-loop-i
invariant-loop-i g l =
    (goal.iterator-loop-i g).can_next l.i-iterator
    × (goal.iterator-loop-i g).is_finite l.i-iterator
    × Numbered l.at l.i-iterator
    × (carried g.N.Reckoning.meaning g.N.Notation.reads g.N.Notation.writes (l.at + 1) (left l.i-iterator) (state l.session) ≡ carried g.N.Reckoning.meaning g.N.Notation.reads g.N.Notation.writes (l.fn.read + 1) (left l.fn.lines) (state l.initial.session))
