-- The lines that a script prints. Assumes nothing.
use Rattle.std.specs.Prelude.{ℕ, ◌+◌, List, [], ◌∷◌, ◌++◌, Ok, Err, codes, decimal}
use Rattle.machine.specs.Endings.{Ending, stopped_text, registers_text}
use Rattle.machine.specs.declared.state.Registers.{Registers}
use Rattle.script.specs.declared.report.Report.{Report}

-- How a run ended.
abbrev pub ending_text : Ending → List ℕ
ending_text (Ok u) = codes "halt"
ending_text (Err s) = stopped_text s

-- The line of a run: how it ended, the registers that it left, and what it spent.
abbrev pub run_line : Ending → Registers → ℕ → List ℕ
run_line e r spent = ending_text e ++ (codes " | " ++ (registers_text r ++ (codes " spent " ++ (decimal spent ++ (10 ∷ [])))))

abbrev pub report_text : Report → List ℕ
report_text p = codes "report: " ++ (decimal (p.halted + p.stopped) ++ (codes " runs, " ++ (decimal p.halted ++ (codes " halted, " ++ (decimal p.stopped ++ (codes " stopped, " ++ (decimal p.units ++ codes " units spent")))))))

abbrev pub report_line : Report → List ℕ
report_line p = report_text p ++ (10 ∷ [])

-- A space follows a cell, a line feed the last.
abbrev pub separator : {C : Type 0} → List C → ℕ
separator [] = 10
separator (c ∷ cs) = 32

abbrev pub row : {C : Type 0} → (C → List ℕ) → List C → List ℕ
row writes [] = []
row writes (c ∷ cs) = writes c ++ (separator cs ∷ row writes cs)
