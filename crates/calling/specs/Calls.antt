-- What a call of a function comes to, and that it is what the reading of the function says. Assumes nothing.
use Rattle.std.specs.Prelude.{◌≡◌, ℕ, ◌+◌, ◌-◌, ◌≤◌, Bool, cond, ◌&&◌, List, ◌∷◌, ◌++◌, length, take, drop, Some, None, Ok, Err, Option, nat_le, slice_index, slice_index_or}
use Rattle.std.specs.List.{slice_get}
use Rattle.reckoning.specs.Meaning.{Meaning, largest}
use Rattle.machine.specs.Endings.{Ending}
use Rattle.machine.specs.declared.Registers.{Registers}
use Rattle.machine.specs.Instructions.{State}
use Rattle.machine.specs.Runs.{run}
use Rattle.language.specs.Tree.{Sheet}
use Rattle.language.specs.Resolved.{Routine, Program}
use Rattle.language.specs.Scope.{resolved}
use Rattle.language.specs.Limits.{Limited}
use Rattle.language.specs.Reading.{Outcome, gives, stops, reading}
use Rattle.translation.specs.Limits.{Compact}
use Rattle.translation.specs.Translation.{code, starts}
use Rattle.meaning.specs.Agreement.{Begins, cells, started}
use Rattle.calling.specs.declared.calls.Answer.{Answer}

-- There is room above cell g for the frame of a function with so many arguments.
abbrev pub room : ℕ → ℕ → ℕ → Bool
room g arguments size = nat_le (g + 5 + arguments) size

-- The addresses of the function and of every cell are numbers that a cell can hold.
abbrev pub addressed : ℕ → ℕ → Bool
addressed start size = nat_le start largest && nat_le size (largest + 1)

-- A store with the first frame above cell g, whose cells that hold no argument are all the same, where there is room for it.
abbrev pub framed_where : {Cell : Type 0} → Cell → ℕ → List Cell → List Cell → Option (Unit {0}) × List Cell
framed_where empty g xs store = cond (room g (length xs) (length store)) (Some tt, take (g + 1) store ++ (empty ∷ empty ∷ empty ∷ empty ∷ (xs ++ drop (g + 5 + length xs) store))) (None, store)

-- What a call answers: from how the run ends, what the result's cell then holds, and the units spent.
abbrev pub answered : {Cell : Type 0} → Ending → Cell → ℕ → Answer Cell
answered (Ok u) v spent = record { value = Ok v; spent = spent }
answered (Err s) v spent = record { value = Err s; spent = spent }

module _ {Cell : Type 0} (m : Meaning Cell) where
  -- The registers of a call, and the store with its first frame, where there can be one.
  abbrev pub begun : ℕ → ℕ → List Cell → ℕ → List Cell → Option Registers × List Cell
  begun start g xs budget store = cond (addressed start (length store) && room g (length xs) (length store)) (Some (started m start g xs budget store).0, (started m start g xs budget store).1) (None, store)

  -- The answer and the store after a run. The result's cell is always there, since a run keeps the number of cells.
  abbrev pub concluded : ℕ → ℕ → Ending × State Cell → Option (Answer Cell) × List Cell
  concluded g budget ran = (Some (answered ran.0 (slice_index_or ran.1.1 (g + 1) (m.whole 0)) (budget - ran.1.0.budget)), ran.1.1)

  -- A call: the run of the function with its first frame above cell g; no answer, and the store as it was, where there can be no such frame.
  abbrev pub called : List ℕ → List ℕ → ℕ → ℕ → List Cell → ℕ → List Cell → Option (Answer Cell) × List Cell
  called words places start g xs budget store = cond (addressed start (length store) && room g (length xs) (length store)) (concluded g budget (run m words places (started m start g xs budget store))) (None, store)

-- An answer is what a reading says: its value, or its stop at its place, and the units that it spent. The store then has the sheet's cells as the reading leaves them.
abbrev pub Answers : {Cell : Type 0} → ℕ → ℕ → Outcome Cell Cell → Option (Answer Cell) × List Cell → Type 0
Answers g budget (gives v h) (answer, store) = (answer ≡ Some (record { value = Ok v; spent = budget - h.budget })) × (cells g store ≡ h.sheet)
Answers g budget (stops e p c b) (answer, store) = (answer ≡ Some (record { value = Err (record { stop = e; place = p }); spent = budget - b })) × (cells g store ≡ c)

-- For every sheet whose names resolve and that is within the limits, where the code list and the place list begin with its translation and the store has 8,192 to 16,384 cells:
-- the call of a function of the sheet, with as many arguments as it has parameters, answers what the function's reading says.
abbrev pub Agrees : {Cell : Type 0} → Meaning Cell → List ℕ → List ℕ → ℕ → ℕ → List Cell → ℕ → List Cell → Option (Answer Cell) × List Cell → Type 0
Agrees m words places start g xs budget store seen =
    (s : Sheet) (p : Program) → resolved s ≡ Some p → Limited s → Compact p → Begins words places (code p)
    → 8192 ≤ length store → length store ≤ 16384
    → (f : ℕ) (r : Routine) → slice_get p.routines f ≡ Some r
    → start ≡ slice_index (starts p) f → g ≡ p.cells → length xs ≡ r.parameters
    → Answers p.cells budget (reading m p.routines 1 f xs (cells p.cells store) budget) seen
