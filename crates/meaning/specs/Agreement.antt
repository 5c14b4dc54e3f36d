-- Translation and reading agree: the code of a sheet does on the machine what its reading says. Assumes nothing.
use Rattle.std.specs.Prelude.{◌≡◌, ℕ, ◌+◌, ◌≤◌, List, ◌∷◌, ◌++◌, length, take, drop, pos, Some, Ok, Err, slice_index}
use Rattle.std.specs.List.{slice_get, AllByRecursion}
use Rattle.reckoning.specs.Meaning.{Meaning}
use Rattle.instructions.specs.Words.{encoded}
use Rattle.machine.specs.Endings.{Ending}
use Rattle.machine.specs.Instructions.{State}
use Rattle.machine.specs.Runs.{run}
use Rattle.language.specs.Tree.{Sheet}
use Rattle.language.specs.Resolved.{Routine, Program}
use Rattle.language.specs.Scope.{resolved}
use Rattle.language.specs.Limits.{Limited}
use Rattle.language.specs.Reading.{Outcome, gives, stops, reading}
use Rattle.language.specs.Stopping.{Ordinary}
use Rattle.translation.specs.Translation.{Line, code, starts}
use Rattle.translation.specs.Limits.{Compact}

-- At each address of the lines stand the word of its instruction and its place; what follows may be anything.
abbrev pub Begins : List ℕ → List ℕ → List Line → Type 0
Begins words places ls = (i : ℕ) (l : Line) → slice_get ls i ≡ Some l → (w : ℕ) × (slice_get words i ≡ Some w) × (encoded l.0 ≡ Some w) × (slice_get places i ≡ Some l.1)

-- cells 1 to g of a store
abbrev pub cells : {Cell : Type 0} → ℕ → List Cell → List Cell
cells g store = take g (drop 1 store)

module _ {Cell : Type 0} (m : Meaning Cell) where
  -- The first frame, above cell g: the result's cell and what a call would save, each whole(0), and the arguments.
  abbrev pub framed : ℕ → List Cell → List Cell → List Cell
  framed g xs store = take (g + 1) store ++ (m.whole 0 ∷ m.whole 0 ∷ m.whole 0 ∷ m.whole 0 ∷ (xs ++ drop (g + 5 + length xs) store))

  -- The machine about to run the function that starts at an address.
  abbrev pub started : ℕ → ℕ → List Cell → ℕ → List Cell → State Cell
  started start g xs budget store = (record { pc = pos start; sp = pos (g + 4 + length xs); fp = pos (g + 4); ep = pos 0; active = 1; budget = budget }, framed g xs store)

-- A run halts with the value of a reading, on top of the sheet's cells, or stops as the reading does, at its place, and never for broken code or want of cells.
-- The sheet's cells are then those of the reading, and so is the budget left: the run spends what the reading counts.
abbrev pub Tells : {Cell : Type 0} → ℕ → Outcome Cell Cell → Ending × State Cell → Type 0
Tells g (gives v h) (Ok u, t) = (slice_get t.1 (g + 1) ≡ Some v) × (cells g t.1 ≡ h.sheet) × (t.0.budget ≡ h.budget)
Tells g (gives v h) (Err f, t) = ⊥
Tells g (stops e p c b) (Ok u, t) = ⊥
Tells g (stops e p c b) (Err f, t) = (f.stop ≡ e) × (f.place ≡ p) × Ordinary f.stop × (cells g t.1 ≡ c) × (t.0.budget ≡ b)

-- For every sheet whose names resolve and that is within the limits, every code list and place list that begin with its translation, every store of 8,192 to 16,384 cells,
-- every function, fitting arguments and budget: the run of the function's code tells what its reading says.
abbrev pub Agreement : {Cell : Type 0} → Meaning Cell → Type 0
Agreement {Cell} m =
    (s : Sheet) (p : Program) → resolved s ≡ Some p → Limited s → Compact p
    → (words places : List ℕ) → Begins words places (code p)
    → (store : List Cell) → 8192 ≤ length store → length store ≤ 16384
    → (f : ℕ) (r : Routine) → slice_get p.routines f ≡ Some r
    → (xs : List Cell) → length xs ≡ r.parameters → (budget : ℕ)
    → Tells p.cells (reading m p.routines 1 f xs (cells p.cells store) budget) (run m words places (started m (slice_index (starts p) f) p.cells xs budget store))

-- There are such code lists: every instruction of the code of such a sheet has a word.
abbrev pub Encodable : Type 0
Encodable = (s : Sheet) (p : Program) → resolved s ≡ Some p → Limited s → Compact p → AllByRecursion (λ l. (w : ℕ) × (encoded l.0 ≡ Some w)) (code p)
