-- What a caller sees of a call that changes something in place or stops: its answer, and the thing, which a stop leaves as it was. Assumes nothing.
use Rattle.std.specs.Prelude.{Some, None, Ok, Err, Option, Result}
use Rattle.machine.specs.declared.state.Flow.{Flow}
use Rattle.machine.specs.declared.state.Flow.TheVariants.{Onward, Halts}
use Rattle.machine.specs.declared.state.Stopped.{Stopped}
use Rattle.instructions.specs.declared.Stop.{Stop}
use Rattle.machine.specs.Endings.{Ending}

abbrev pub after : {X : Type 0} → X → Result X Stop → Result (Unit {0}) Stop × X
after x (Ok y) = (Ok tt, y)
after x (Err e) = (Err e, x)

-- The same of a call that also answers a value.
abbrev pub given : {V X : Type 0} → X → Result (V × X) Stop → Result V Stop × X
given x (Ok p) = (Ok p.0, p.1)
given x (Err e) = (Err e, x)

abbrev pub going_on : Result (Unit {0}) Stop → Result Flow Stop
going_on (Ok u) = Ok Onward
going_on (Err e) = Err e

-- The same of an instruction, at which the machine may halt.
abbrev pub flowed : {X : Type 0} → X → Result (Option X) Stop → Result Flow Stop × X
flowed x (Ok (Some y)) = (Ok Onward, y)
flowed x (Ok None) = (Ok Halts, x)
flowed x (Err e) = (Err e, x)

-- The same of a step, at which the run may end.
abbrev pub last : Ending → Result Flow Stopped
last (Ok u) = Ok Halts
last (Err s) = Err s

abbrev pub stepped : {X : Type 0} → X → Result X Ending → Result Flow Stopped × X
stepped x (Ok y) = (Ok Onward, y)
stepped x (Err e) = (last e, x)
