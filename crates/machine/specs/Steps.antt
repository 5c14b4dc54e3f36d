-- One step of the machine, and a run. Assumes nothing.
use Rattle.std.specs.Prelude.{ℕ, ◌/◌, ◌%◌, List, ℤ, pos, negsuc, ◌+ℤ◌, Some, None, Ok, Err, Option, Result}
use Rattle.std.specs.Option.{ok_or, unwrap_or, option_map}
use Rattle.std.specs.List.{slice_get}
use Rattle.reckoning.specs.Meaning.{Meaning}
use Rattle.instructions.specs.declared.Instruction.{Instruction}
use Rattle.instructions.specs.declared.Instruction.TheVariants.{Halt, LoadConstant, LoadRelative, Load, Store, Pop, Operate, Negate, Not, Jump, JumpZero, Mark, Call, Enter, Allocate, Return, Check}
use Rattle.machine.specs.Endings.{Ending, halted, stopped}
use Rattle.machine.specs.declared.state.Registers.{Registers}
use Rattle.instructions.specs.declared.Stop.{Stop}
use Rattle.instructions.specs.declared.Stop.TheVariants.{Broken}
use Rattle.machine.specs.Instructions.{State, ◌>>=◌, register, cell, with_pc, push, relative, load, store_top, pop, binary, negate, invert, jump, branch, mark, call, enter, allocate, leave, check}
use Rattle.instructions.specs.Words.{decoded, table, signed}

abbrev pub fetched : List ℕ → ℤ → Result Instruction Stop
fetched code pc = cell code pc >>= λ w. ok_or (decoded w) Broken

-- The place beside an instruction, or 0.
abbrev pub beside : List ℕ → ℤ → ℕ
beside places (pos pc) = unwrap_or (slice_get places pc) 0
beside places (negsuc pc) = 0

module _ {Cell : Type 0} where
  -- An instruction after which the machine goes on.
  abbrev pub goes : Result (State Cell) Stop → Result (Option (State Cell)) Stop
  goes (Ok t) = Ok (Some t)
  goes (Err e) = Err e

  -- One that leaves the store as it is.
  abbrev pub keeps : List Cell → Result Registers Stop → Result (Option (State Cell)) Stop
  keeps s (Ok r) = Ok (Some (r, s))
  keeps s (Err e) = Err e

  -- A step gives the next state, or the end of the run.
  abbrev pub outcome : ℕ → Result (Option (State Cell)) Stop → Result (State Cell) Ending
  outcome place (Ok (Some t)) = Ok t
  outcome place (Ok None) = Err halted
  outcome place (Err e) = Err (stopped e place)

module _ {Cell : Type 0} (m : Meaning Cell) where
  -- What an instruction does once the program counter is past it: the state after it, or none where the machine halts.
  abbrev pub execute : Instruction → Registers → List Cell → Result (Option (State Cell)) Stop
  execute Halt r s = Ok None
  execute (LoadConstant n) r s = goes (push m n r s)
  execute (LoadRelative j) r s = goes (relative m j r s)
  execute Load r s = goes (load m r s)
  execute Store r s = goes (store_top m r s)
  execute Pop r s = keeps s (pop r)
  execute (Operate o) r s = goes (binary m o r s)
  execute Negate r s = goes (negate m r s)
  execute Not r s = goes (invert m r s)
  execute (Jump to) r s = keeps s (jump to r)
  execute (JumpZero to) r s = keeps s (branch m to r s)
  execute Mark r s = goes (mark m r s)
  execute (Call n) r s = goes (call m n r s)
  execute (Enter q) r s = keeps s (enter q r s)
  execute (Allocate k) r s = goes (allocate m k r s)
  execute Return r s = keeps s (leave m r s)
  execute (Check n) r s = keeps s (check m n r s)

  -- The instruction with this number and operand.
  abbrev pub perform : ℕ → ℤ → Registers → List Cell → Result (Option (State Cell)) Stop
  perform n z r s = ok_or (option_map (λ i. i z) (slice_get table n)) Broken >>= λ i. execute i r s

  -- The machine fetches an instruction, raises the program counter and executes it.
  abbrev pub act : List ℕ → Registers → List Cell → Result (Option (State Cell)) Stop
  act code r s = do
    w ← cell code r.pc
    pc ← register (r.pc +ℤ pos 1)
    perform (w / 16777216) (signed (w % 16777216)) (with_pc pc r) s

  abbrev pub step : List ℕ → List ℕ → State Cell → Result (State Cell) Ending
  step code places t = outcome (beside places t.0.pc) (act code t.0 t.1)
