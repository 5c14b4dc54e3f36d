-- What a script prints, and where it fails. Assumes nothing.
use Rattle.std.specs.Prelude.{◌≡◌, ℕ, ◌+◌, ◌^◌, ◌<◌, ◌≤◌, max, cond, ◌⊎◌, List, [], ◌∷◌, ◌++◌, length, Some, None, Ok, Err, Option, Result}
use Rattle.std.specs.declared.iter.Enumerate.{Enumerate}
use Rattle.std.specs.Iterator.Adapters.{enumerate_source, enumerate_count}
use Rattle.std.specs.Option.{option_map}
use Rattle.std.specs.Fmt.{signed_decimal}
use Rattle.reckoning.specs.Counts.{counts_meaning}
use Rattle.reckoning.specs.Meaning.{Meaning}
use Rattle.reckoning.specs.Weights.{weights_meaning}
use Rattle.wording.specs.declared.lines.Lines.{Lines}
use Rattle.wording.specs.Lines.{lines_left}
use Rattle.wording.specs.Pieces.{lines, words}
use Rattle.commands.specs.declared.Cause.{Cause}
use Rattle.commands.specs.declared.Cause.TheVariants.{NoReckoning, NoEnd, NoMemory}
use Rattle.commands.specs.declared.Chosen.{Chosen}
use Rattle.commands.specs.declared.Chosen.TheVariants.{Counts, Weights}
use Rattle.commands.specs.declared.Command.{Command}
use Rattle.cells.specs.Cells.{count_read, weight_read, weight_written}
use Rattle.commands.specs.Commands.{reckoning, command}
use Rattle.script.specs.declared.fault.Fault.{Fault}
use Rattle.script.specs.Sessions.{State, fresh, context, executed, reported}

-- What a fault says: its line, from 1, and what is wrong with it.
abbrev pub Fails : Type 0
Fails = ℕ × Cause

abbrev pub fault : ℕ → Cause → Fails
fault n cause = (n, cause)

abbrev pub fails : Fault → Fails
fails f = fault f.line f.cause

-- After the last of n lines: no listing may be open, and then the report is printed.
abbrev pub ended : {C : Type 0} → ℕ → State C → List ℕ × Option Fails
ended n s = cond s.listing (s.output, Some (fault n NoEnd)) ((reported s).output, None)

module _ {C : Type 0} (m : Meaning C) (reads : List ℕ → Option C) (writes : C → List ℕ) where
  -- A line that is a command is carried out, and the others follow; any other ends the script.
  abbrev pub told : (State C → List ℕ × Option Fails) → ℕ → State C → Result (Command C) Cause → List ℕ × Option Fails
  told others n s (Ok c) = others (executed m writes s c)
  told others n s (Err cause) = (s.output, Some (fault (n + 1) cause))

  -- What is printed by the end, and the fault, if there is one; n lines come before these.
  abbrev pub carried : ℕ → List (List ℕ) → State C → List ℕ × Option Fails
  carried n [] s = ended n s
  carried n (l ∷ ls) s = told (carried (n + 1) ls) n s (command reads (context s) (words l))

-- Lines that say nothing are passed over, up to the one that names the reckoning.
abbrev pub named : Result (Chosen × ℕ × List (List ℕ)) Fails → ℕ → List (List ℕ) → Result (Option Chosen) Cause → Result (Chosen × ℕ × List (List ℕ)) Fails
named others n ls (Ok None) = others
named others n ls (Ok (Some r)) = Ok (r, n + 1, ls)
named others n ls (Err cause) = Err (fault (n + 1) cause)

-- The reckoning of a script, how many lines are read by then, and those that are left; n lines come before these.
abbrev pub begun : ℕ → List (List ℕ) → Result (Chosen × ℕ × List (List ℕ)) Fails
begun n [] = Err (fault (max n 1) NoReckoning)
begun n (l ∷ ls) = named (begun (n + 1) ls) n ls (reckoning (words l))

abbrev pub reckoned : Chosen → ℕ → List (List ℕ) → List ℕ × Option Fails
reckoned Counts n ls = carried counts_meaning count_read signed_decimal n ls fresh
reckoned Weights n ls = carried weights_meaning weight_read weight_written n ls fresh

abbrev pub answered : Result (Chosen × ℕ × List (List ℕ)) Fails → List ℕ × Option Fails
answered (Ok p) = reckoned p.0 p.1 p.2
answered (Err f) = ([], Some f)

-- What a script prints, and the first line that cannot be carried out with what is wrong with it.
unfoldable pub performed : List ℕ → List ℕ × Option Fails
performed text = answered (begun 0 (lines text))

abbrev pub Begins : List ℕ → List ℕ → Type 0
Begins xs ys = (zs : List ℕ) × (ys ≡ xs ++ zs)

-- There was not enough memory.
abbrev pub Short : Option Fails → Type 0
Short f = (n : ℕ) × (f ≡ Some (fault n NoMemory))

-- Output and fault are as defined; or there was not enough memory, and the output is a beginning of what is defined.
abbrev pub Comes : List ℕ → Option Fails → List ℕ × Option Fails → Type 0
Comes output f d = ((output, f) ≡ d) ⊎ (Short f × Begins output d.0)

abbrev pub Meets : List ℕ → Option Fault → List ℕ × Option Fails → Type 0
Meets output f d = Comes output (option_map fails f) d

abbrev pub FromOne : Option Fault → Type 0
FromOne None = Unit {0}
FromOne (Some f) = 1 ≤ f.line

-- The lines that are left.
abbrev pub left : Enumerate Lines → List (List ℕ)
left e = lines_left (enumerate_source e)

-- The line of this index was read last, and the numbers of those that are left have 64 bits.
abbrev pub Numbered : ℕ → Enumerate Lines → Type 0
Numbered read e = (enumerate_count e ≡ read + 1) × (read + 1 + length (left e) < 2 ^ 64)

abbrev pub begun_of : Result (Chosen × ℕ) Fault → List (List ℕ) → Result (Chosen × ℕ × List (List ℕ)) Fails
begun_of (Ok p) ls = Ok (p.0, p.1 + 1, ls)
begun_of (Err f) ls = Err (fails f)

-- One line: a command is carried out; or the line is none, or there was not enough memory, and nothing is printed.
abbrev pub Stepped : {C : Type 0} → (State C → Command C → State C) → Result (Unit {0}) Cause → State C → State C → Result (Command C) Cause → Type 0
Stepped {C = C} executes (Ok u) s t d = (c : Command C) × (d ≡ Ok c) × (t ≡ executes s c)
Stepped {C = C} executes (Err e) s t d = ((d ≡ Err e) ⊎ (e ≡ NoMemory)) × (t.output ≡ s.output)
