-- A run: the chain of steps up to the first halt or stop. Assumes nothing.
use Rattle.std.specs.Prelude.{◌≡◌, ℕ, zero, suc, ◌+◌, ◌-◌, ◌*◌, cond, List, length, ℤ, pos, negsuc, Some, None, Ok, Err, Option, Result, int_le}
use Rattle.std.specs.Option.{unwrap_or}
use Rattle.reckoning.specs.Meaning.{Meaning}
use Rattle.instructions.specs.declared.Instruction.{Instruction}
use Rattle.instructions.specs.declared.Instruction.TheVariants.{Halt, LoadConstant, LoadRelative, Load, Store, Pop, Operate, Negate, Not, Jump, JumpZero, Mark, Call, Enter, Allocate, Return, Check}
use Rattle.machine.specs.Endings.{Ending, halted}
use Rattle.instructions.specs.declared.Stop.{Stop}
use Rattle.machine.specs.Instructions.{State}
use Rattle.machine.specs.Steps.{fetched, step}

-- What an instruction at `own` costs where `next` is executed after it: a call one unit, and so does a jump to an address not above its own.
abbrev pub charge : Instruction → ℤ → ℤ → ℕ
charge Halt own next = 0
charge (LoadConstant n) own next = 0
charge (LoadRelative j) own next = 0
charge Load own next = 0
charge Store own next = 0
charge Pop own next = 0
charge (Operate o) own next = 0
charge Negate own next = 0
charge Not own next = 0
charge (Jump to) own next = cond (int_le next own) 1 0
charge (JumpZero to) own next = cond (int_le next own) 1 0
charge Mark own next = 0
charge (Call n) own next = 1
charge (Enter q) own next = 0
charge (Allocate k) own next = 0
charge Return own next = 0
charge (Check n) own next = 0

abbrev pub charged : Result Instruction Stop → ℤ → ℤ → ℕ
charged (Ok i) own next = charge i own next
charged (Err e) own next = 0

abbrev pub address_of : ℤ → ℕ
address_of (pos n) = n
address_of (negsuc n) = 0

module _ {Cell : Type 0} (m : Meaning Cell) (code places : List ℕ) where
  abbrev pub price : State Cell → State Cell → ℕ
  price t u = charged (fetched code t.0.pc) t.0.pc u.0.pc

  -- From one state to another by steps, for so many units.
  pub data Chain : State Cell → ℕ → State Cell → Type 0 where
    here : (t : State Cell) → Chain t 0 t
    more : (t u v : State Cell) (n : ℕ) → step m code places t ≡ Ok u → Chain u n v → Chain t (price t u + n) v

  -- A run from t ends as e in u: the last state of a chain of steps that is paid for by the budget, and whose next step ends the run.
  pub record Ran (t : State Cell) (e : Ending) (u : State Cell) : Type 0 where
    pub units : ℕ
    pub chain : Chain t units u
    pub last : step m code places u ≡ Err e
    pub spends : t.0.budget ≡ u.0.budget + units

  -- No other chain of steps from t comes to an end.
  abbrev pub Alone : State Cell → Ending → State Cell → Type 0
  Alone t e u = (n : ℕ) (d : Ending) (v : State Cell) → Chain t n v → step m code places v ≡ Err d → (d ≡ e) × (v ≡ u)

  abbrev continued : (State Cell → Option (Ending × State Cell)) → State Cell → Result (State Cell) Ending → Option (Ending × State Cell)
  continued rest t (Ok u) = rest u
  continued rest t (Err e) = Some (e, t)

  -- The run within so many steps.
  abbrev pub run_for : ℕ → State Cell → Option (Ending × State Cell)
  run_for zero t = None
  run_for (suc k) t = continued (run_for k) t (step m code places t)

  -- More steps than any run from t has: between two units paid the program counter rises, but for returns, and there are no more of those than active functions and calls.
  abbrev pub enough : State Cell → ℕ
  enough t = (2 * t.0.budget + t.0.active) * (length code + 1) + (length code - address_of t.0.pc) + 1

  unfoldable pub run : State Cell → Ending × State Cell
  run t = unwrap_or (run_for (enough t) t) (halted, t)
