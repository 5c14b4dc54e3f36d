-- What the runs of a script come to. Assumes nothing.
use Rattle.std.specs.Prelude.{ℕ, ◌+◌, min, Ok, Err}
use Rattle.machine.specs.Endings.{Ending}
use Rattle.script.specs.declared.report.Report.{Report}

abbrev pub none_yet : Report
none_yet = record { halted = 0; stopped = 0; units = 0 }

-- One run more. A count that reaches the largest number of its type stays there.
abbrev pub noted : Report → Ending → ℕ → Report
noted p (Ok u) spent = record { halted = min (p.halted + 1) 4294967295; stopped = p.stopped; units = min (p.units + spent) 18446744073709551615 }
noted p (Err s) spent = record { halted = p.halted; stopped = min (p.stopped + 1) 4294967295; units = min (p.units + spent) 18446744073709551615 }
