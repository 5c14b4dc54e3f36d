use Rattle.std.proofs.Common.{◌≡◌}
use Rattle.machine.specs.Runs.{run, enough}
use Rattle.machine.proofs.cycle.run.Given as goal

abbrev pub invariant-cycle : goal.invariant-cycle
invariant-cycle g l = run g.R.Reckoning.meaning l.code l.places (l.current, l.store) ≡ run g.R.Reckoning.meaning l.code l.places (l.initial.current, l.initial.store)

abbrev pub decreases-cycle : goal.decreases-cycle
decreases-cycle g l = enough g.R.Reckoning.meaning l.code l.places (l.current, l.store)
