-- What the lines of a script have come to, and what a command makes of it. Assumes nothing.
use Rattle.std.specs.Prelude.{◌≡◌, ℕ, ◌-◌, Bool, true, false, List, [], ◌∷◌, ◌++◌, length, take, drop, replicate, Some, None, vec_items, string_bytes, Option, Result, MatchResult, slice_set}
use Rattle.std.specs.declared.alloc.AllocError.{AllocError}
use Rattle.reckoning.specs.Meaning.{Meaning}
use Rattle.machine.specs.Endings.{Ending}
use Rattle.machine.specs.declared.state.Registers.{Registers as Six}
use Rattle.machine.specs.Runs.{run}
use Rattle.commands.specs.declared.Command.{Command}
use Rattle.commands.specs.declared.Command.TheVariants.{Nothing, Store, Cell, Code, Word, End, Registers, Run, Show}
use Rattle.commands.specs.declared.Context.{Context}
use Rattle.script.specs.declared.report.Report.{Report}
use Rattle.script.specs.declared.session.Session.{Session}
use Rattle.script.specs.Reports.{none_yet, noted}
use Rattle.script.specs.Texts.{run_line, report_line, row}

pub record State (C : Type 0) : Type 0 where
  pub store : List C
  pub code : List ℕ
  pub places : List ℕ
  pub registers : Option Six
  pub listing : Bool
  pub report : Report
  pub output : List ℕ

-- What a session of the code stands for.
abbrev pub state : {C : Type 0} → Session C → State C
state s = record { store = vec_items s.store; code = vec_items s.code; places = vec_items s.places; registers = s.registers; listing = s.listing; report = s.report; output = string_bytes s.output }

-- Before the first line: a store with no cells, no code and no registers.
abbrev pub fresh : {C : Type 0} → State C
fresh = record { store = []; code = []; places = []; registers = None; listing = false; report = none_yet; output = [] }

abbrev pub context : {C : Type 0} → State C → Context
context s = record { listing = s.listing; cells = length s.store; registers = s.registers }

-- A session with some of its parts changed.
abbrev pub with_store : {C : Type 0} → List C → State C → State C
with_store store s = record { store = store; code = s.code; places = s.places; registers = s.registers; listing = s.listing; report = s.report; output = s.output }

abbrev pub with_listing : {C : Type 0} → List ℕ → List ℕ → Bool → State C → State C
with_listing code places listing s = record { store = s.store; code = code; places = places; registers = s.registers; listing = listing; report = s.report; output = s.output }

abbrev pub with_word : {C : Type 0} → ℕ → ℕ → State C → State C
with_word w place s = with_listing (s.code ++ (w ∷ [])) (s.places ++ (place ∷ [])) s.listing s

abbrev pub with_registers : {C : Type 0} → Six → State C → State C
with_registers r s = record { store = s.store; code = s.code; places = s.places; registers = Some r; listing = s.listing; report = s.report; output = s.output }

abbrev pub with_output : {C : Type 0} → List ℕ → State C → State C
with_output output s = record { store = s.store; code = s.code; places = s.places; registers = s.registers; listing = s.listing; report = s.report; output = output }

-- A run that was made from registers with this budget leaves registers and store, is counted, and prints a line.
abbrev pub ran : {C : Type 0} → State C → ℕ → Ending × (Six × List C) → State C
ran s budget u = record { store = u.1.1; code = s.code; places = s.places; registers = Some u.1.0; listing = s.listing; report = noted s.report u.0 (budget - u.1.0.budget); output = s.output ++ run_line u.0 u.1.0 (budget - u.1.0.budget) }

module _ {C : Type 0} (m : Meaning C) (writes : C → List ℕ) where
  abbrev pub executed : State C → Command C → State C
  executed s Nothing = s
  executed s (Store n) = with_store (replicate n (m.whole 0)) s
  executed s (Cell at c) = with_store (slice_set s.store at c) s
  executed s Code = with_listing [] [] true s
  executed s (Word w place) = with_word w place s
  executed s End = with_listing s.code s.places false s
  executed s (Registers r) = with_registers r s
  executed s (Run r) = ran s r.budget (run m s.code s.places (r, s.store))
  executed s (Show first count) = with_output (s.output ++ row writes (take count (drop first s.store))) s

abbrev pub reported : {C : Type 0} → State C → State C
reported s = with_output (s.output ++ report_line s.report) s

-- A call that leaves t where u was wanted, or finds no memory and then has printed nothing.
abbrev pub Done : {C X : Type 0} → Result X AllocError → State C → State C → State C → Type 0
Done r s t u = MatchResult r (λ _. t ≡ u) (λ _. t.output ≡ s.output)
