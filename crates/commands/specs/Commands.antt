-- What the lines of a script say. Assumes nothing.
use Rattle.std.specs.Prelude.{ℕ, ◌+◌, ◌-◌, cond, List, [], ◌∷◌, ℤ, pos, negsuc, Some, None, Ok, Err, codes, Option, Result, ◌==◌, nat_lt}
use Rattle.std.specs.Option.{ok_or}
use Rattle.std.specs.Str.{bytes_eq}
use Rattle.machine.specs.declared.state.Registers.{Registers as Six}
use Rattle.commands.specs.declared.cause.Cause.{Cause}
use Rattle.commands.specs.declared.cause.Cause.TheVariants.{NoReckoning, UnknownReckoning, SecondReckoning, UnknownCommand, StoreSize, NoSuchCell, NotACell, RegisterRange, NoRegisters, CellsBackward}
use Rattle.commands.specs.declared.reading.Chosen.{Chosen}
use Rattle.commands.specs.declared.reading.Chosen.TheVariants.{Counts, Weights}
use Rattle.commands.specs.declared.reading.Command.{Command}
use Rattle.commands.specs.declared.reading.Command.TheVariants.{Nothing, Store, Cell, Code, Word, End, Registers, Run, Show}
use Rattle.commands.specs.declared.reading.Context.{Context}
use Rattle.commands.specs.Arguments.{◌>>=◌, comment, none, one, two, next_two, below, between}
use Rattle.commands.specs.Listings.{line}

-- The reckoning of this name.
abbrev pub chosen : List ℕ → Result Chosen Cause
chosen w = cond (bytes_eq w (codes "counts")) (Ok Counts) (cond (bytes_eq w (codes "weights")) (Ok Weights) (Err UnknownReckoning))

-- The reckoning that a line names, or none where the line says nothing.
abbrev pub reckoning : List (List ℕ) → Result (Option Chosen) Cause
reckoning [] = Ok None
reckoning (w ∷ ws) = cond (comment w) (Ok None) (cond (bytes_eq w (codes "reckoning")) (one ws >>= chosen >>= λ c. Ok (Some c)) (Err NoReckoning))

-- pc, sp, fp and ep; active and budget.
abbrev pub pointer : List ℕ → Result ℤ Cause
pointer w = between (negsuc 2147483647) (pos 2147483647) RegisterRange w

abbrev pub counter : List ℕ → Result ℕ Cause
counter w = below 4294967296 RegisterRange w

abbrev pub six : List (List ℕ) → Result Six Cause
six ws = do
  a ← next_two ws
  b ← next_two a.2
  c ← next_two b.2
  _ ← none c.2
  pc ← pointer a.0
  sp ← pointer a.1
  fp ← pointer b.0
  ep ← pointer b.1
  active ← counter c.0
  budget ← counter c.1
  Ok (record { pc = pc; sp = sp; fp = fp; ep = ep; active = active; budget = budget })

abbrev pub store_size : List (List ℕ) → Result ℕ Cause
store_size ws = do
  w ← one ws
  n ← below 1000001 StoreSize w
  cond (n == 0) (Err StoreSize) (Ok n)

-- The first of the cells to show, and how many there are.
abbrev pub shown : ℕ → List (List ℕ) → Result (ℕ × ℕ) Cause
shown cells ws = do
  p ← two ws
  a ← below cells NoSuchCell p.0
  b ← below cells NoSuchCell p.1
  cond (nat_lt b a) (Err CellsBackward) (Ok (a, b + 1 - a))

module _ {C : Type 0} (reads : List ℕ → Option C) where
  abbrev pub cell : ℕ → List (List ℕ) → Result (ℕ × C) Cause
  cell cells ws = do
    p ← two ws
    a ← below cells NoSuchCell p.0
    c ← ok_or (reads p.1) NotACell
    Ok (a, c)

  abbrev pub from : Option Six → List (List ℕ) → Result (Command C) Cause
  from registers ws = do
    _ ← none ws
    r ← ok_or registers NoRegisters
    Ok (Run r)

  -- A line outside a listing, by its first word.
  abbrev pub outside : Context → List ℕ → List (List ℕ) → Result (Command C) Cause
  outside c w ws =
      cond (bytes_eq w (codes "store")) (store_size ws >>= λ n. Ok (Store n))
      (cond (bytes_eq w (codes "cell")) (cell c.cells ws >>= λ p. Ok (Cell p.0 p.1))
      (cond (bytes_eq w (codes "code")) (none ws >>= λ _. Ok Code)
      (cond (bytes_eq w (codes "registers")) (six ws >>= λ r. Ok (Registers r))
      (cond (bytes_eq w (codes "run")) (from c.registers ws)
      (cond (bytes_eq w (codes "show")) (shown c.cells ws >>= λ p. Ok (Show p.0 p.1))
      (cond (bytes_eq w (codes "reckoning")) (Err SecondReckoning) (Err UnknownCommand)))))))

  -- A line of a listing, or its end.
  abbrev pub listed : List ℕ → List (List ℕ) → Result (Command C) Cause
  listed w ws = cond (bytes_eq w (codes "end")) (none ws >>= λ _. Ok End) (line w ws >>= λ p. Ok (Word p.0 p.1))

  -- A blank line and a comment say nothing.
  abbrev pub command : Context → List (List ℕ) → Result (Command C) Cause
  command c [] = Ok Nothing
  command c (w ∷ ws) = cond (comment w) (Ok Nothing) (cond c.listing (listed w ws) (outside c w ws))
