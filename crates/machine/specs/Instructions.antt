-- What each instruction does. Assumes nothing.
use Rattle.std.specs.Prelude.{ℕ, zero, suc, ◌+◌, cond, ◌&&◌, List, length, ℤ, pos, negsuc, ◌+ℤ◌, ◌-ℤ◌, Some, None, Ok, Err, Option, Result, ◌==◌, int_le, int_lt, nat_le, nat_lt, slice_set}
use Rattle.std.specs.Option.{ok_or}
use Rattle.std.specs.List.{slice_get}
use Rattle.reckoning.specs.declared.Operator.{Operator}
use Rattle.reckoning.specs.declared.Stop.{Stop as ReckoningStop}
use Rattle.reckoning.specs.Meaning.{Meaning, applied, largest}
use Rattle.machine.specs.declared.state.Registers.{Registers}
use Rattle.instructions.specs.declared.Stop.{Stop}
use Rattle.instructions.specs.declared.Stop.TheVariants.{Broken, Index, Budget, Depth, Cells, Reckoned}

-- The registers and the store.
abbrev pub State : Type 0 → Type 0
State Cell = Registers × List Cell

infixl 1 ◌>>=◌
abbrev pub ◌>>=◌ : {X Y : Type 0} → Result X Stop → (X → Result Y Stop) → Result Y Stop
◌>>=◌ (Ok x) k = k x
◌>>=◌ (Err e) k = Err e

abbrev pub register : ℤ → Result ℤ Stop
register z = cond (int_le (negsuc 2147483647) z && int_le z (pos 2147483647)) (Ok z) (Err Broken)

abbrev pub cell : {Cell : Type 0} → List Cell → ℤ → Result Cell Stop
cell s (pos a) = ok_or (slice_get s a) Broken
cell s (negsuc a) = Err Broken

abbrev pub put : {Cell : Type 0} → List Cell → ℤ → Cell → Result (List Cell) Stop
put s (pos a) c = cond (nat_lt a (length s)) (Ok (slice_set s a c)) (Err Broken)
put s (negsuc a) c = Err Broken

-- a cell after a write
unfoldable pub read_after : {Cell : Type 0} → List Cell → ℤ → Cell → ℤ → Result Cell Stop
read_after s at c a = put s at c >>= λ t. cell t a

abbrev pub natural : ℤ → Result ℕ Stop
natural (pos n) = Ok n
natural (negsuc n) = Err Broken

-- The two topmost cells: the address of the lower one, and what both hold.
unfoldable pub tops : {Cell : Type 0} → List Cell → ℤ → Result (ℤ × Cell × Cell) Stop
tops s sp = do
  below ← natural (sp -ℤ pos 1)
  right ← cell s sp
  left ← cell s (pos below)
  Ok (pos below, left, right)

-- A cell on top of the stack: its address, and the store.
unfoldable pub pushed : {Cell : Type 0} → Cell → List Cell → ℤ → Result (ℤ × List Cell) Stop
pushed c s sp = do
  a ← natural (sp +ℤ pos 1)
  t ← put s (pos a) c
  top ← register (pos a)
  Ok (top, t)

-- A reckoning's answer, its stop among the machine's.
abbrev pub reckoned : {X : Type 0} → Result X ReckoningStop → Result X Stop
reckoned (Ok x) = Ok x
reckoned (Err e) = Err (Reckoned e)

abbrev pub cleared : {Cell : Type 0} → Cell → List Cell → ℕ → ℕ → List Cell
cleared c s a zero = s
cleared c s a (suc k) = slice_set (cleared c s a k) (a + k) c

-- c into the k cells above an address
unfoldable pub clear : {Cell : Type 0} → Cell → List Cell → ℤ → ℕ → Result (List Cell) Stop
clear c s below k = cond (k == 0) (Ok s) (natural (below +ℤ pos 1) >>= λ a. cond (nat_le (a + k) (length s)) (Ok (cleared c s a k)) (Err Broken))

-- one function fewer is active
abbrev pub fewer : ℕ → Result ℕ Stop
fewer zero = Err Broken
fewer (suc active) = Ok active

-- Registers with one of them changed.
abbrev pub with_pc : ℤ → Registers → Registers
with_pc pc r = record { pc = pc; sp = r.sp; fp = r.fp; ep = r.ep; active = r.active; budget = r.budget }

abbrev pub with_sp : ℤ → Registers → Registers
with_sp sp r = record { pc = r.pc; sp = sp; fp = r.fp; ep = r.ep; active = r.active; budget = r.budget }

abbrev pub with_ep : ℤ → Registers → Registers
with_ep ep r = record { pc = r.pc; sp = r.sp; fp = r.fp; ep = ep; active = r.active; budget = r.budget }

abbrev pub with_budget : ℕ → Registers → Registers
with_budget budget r = record { pc = r.pc; sp = r.sp; fp = r.fp; ep = r.ep; active = r.active; budget = budget }

-- one unit of the budget
abbrev pub spent : ℕ → Result ℕ Stop
spent zero = Err Budget
spent (suc budget) = Ok budget

-- What is left of the budget after a jump. One to an address not above the jump's own costs a unit; the program counter is past the jump already.
abbrev pub toll : ℤ → ℤ → ℕ → Result ℕ Stop
toll to pc budget = cond (int_lt to pc) (spent budget) (Ok budget)

abbrev pub jump : ℤ → Registers → Result Registers Stop
jump to r = do
  left ← toll to r.pc r.budget
  Ok (with_budget left (with_pc to r))

-- What is left of the budget after a call, which is let in while fewer than 24 functions are active and costs one unit.
abbrev pub admitted : ℕ → ℕ → Result ℕ Stop
admitted active budget = cond (nat_le 24 active) (Err Depth) (spent budget)

abbrev pub pop : Registers → Result Registers Stop
pop r = do
  sp ← register (r.sp -ℤ pos 1)
  Ok (with_sp sp r)

abbrev pub enter : {Cell : Type 0} → ℤ → Registers → List Cell → Result Registers Stop
enter (pos q) r s = do
  ep ← register (r.sp +ℤ pos q)
  cond (int_lt ep (pos (length s))) (Ok (with_ep ep r)) (Err Cells)
enter (negsuc q) r s = Err Broken

-- three cells above an address
abbrev pub three : {Cell : Type 0} → List Cell → ℤ → Cell → Cell → Cell → Result (List Cell) Stop
three s below x y z = do
  a ← natural (below +ℤ pos 1)
  cond (nat_lt (a + 2) (length s)) (Ok (slice_set (slice_set (slice_set s a x) (a + 1) y) (a + 2) z)) (Err Broken)

-- an index below n
abbrev pub index : Option ℕ → ℤ → Result ℕ Stop
index (Some i) n = cond (int_lt (pos i) n) (Ok i) (Err Index)
index None n = Err Index

module _ {Cell : Type 0} (m : Meaning Cell) where
  abbrev pub whole : ℤ → Result Cell Stop
  whole (pos n) = cond (nat_le n largest) (Ok (m.whole n)) (Err Broken)
  whole (negsuc n) = Err Broken

  abbrev pub address : Cell → Result ℤ Stop
  address c = ok_or (m.place c) Broken >>= λ n. Ok (pos n)

  abbrev pub push : ℤ → Registers → List Cell → Result (State Cell) Stop
  push n r s = do
    c ← whole n
    p ← pushed c s r.sp
    Ok (with_sp p.0 r, p.1)

  unfoldable pub relative : ℤ → Registers → List Cell → Result (State Cell) Stop
  relative j r s = register (r.fp +ℤ j) >>= λ n. push n r s

  abbrev pub load : Registers → List Cell → Result (State Cell) Stop
  load r s = do
    top ← cell s r.sp
    a ← address top
    c ← cell s a
    t ← put s r.sp c
    Ok (r, t)

  abbrev pub store_top : Registers → List Cell → Result (State Cell) Stop
  store_top r s = do
    p ← tops s r.sp
    a ← address p.2
    t ← put s a p.1
    Ok (with_sp p.0 r, t)

  abbrev pub binary : Operator → Registers → List Cell → Result (State Cell) Stop
  binary o r s = do
    p ← tops s r.sp
    c ← reckoned (applied m o p.1 p.2)
    t ← put s p.0 c
    Ok (with_sp p.0 r, t)

  abbrev pub negate : Registers → List Cell → Result (State Cell) Stop
  negate r s = do
    top ← cell s r.sp
    c ← reckoned (m.negate top)
    t ← put s r.sp c
    Ok (r, t)

  abbrev pub invert : Registers → List Cell → Result (State Cell) Stop
  invert r s = do
    top ← cell s r.sp
    nonzero ← reckoned (m.test top)
    t ← put s r.sp (m.whole (cond nonzero 0 1))
    Ok (r, t)

  abbrev pub branch : ℤ → Registers → List Cell → Result Registers Stop
  branch to r s = do
    top ← cell s r.sp
    sp ← register (r.sp -ℤ pos 1)
    nonzero ← reckoned (m.test top)
    cond nonzero (Ok (with_sp sp r)) (jump to (with_sp sp r))

  abbrev pub mark : Registers → List Cell → Result (State Cell) Stop
  mark r s = do
    ep ← whole r.ep
    fp ← whole r.fp
    sp ← register (r.sp +ℤ pos 4)
    t ← three s r.sp (m.whole 0) ep fp
    Ok (with_sp sp r, t)

  -- The return address is written before the callee's is read: the two may be one cell.
  abbrev pub link : ℤ → ℤ → Cell → Registers → List Cell → Result (State Cell) Stop
  link sp fp back r s = do
    top ← read_after s fp back r.sp
    to ← address top
    left ← admitted r.active r.budget
    t ← put s fp back
    Ok (record { pc = to; sp = sp; fp = fp; ep = r.ep; active = r.active + 1; budget = left }, t)

  abbrev pub call : ℤ → Registers → List Cell → Result (State Cell) Stop
  call n r s = do
    sp ← register (r.sp -ℤ pos 1)
    fp ← register (sp -ℤ n)
    back ← whole r.pc
    link sp fp back r s

  abbrev pub allocate : ℤ → Registers → List Cell → Result (State Cell) Stop
  allocate (pos k) r s = do
    sp ← register (r.sp +ℤ pos k)
    t ← clear (m.whole 0) s r.sp k
    Ok (with_sp sp r, t)
  allocate (negsuc k) r s = Err Broken

  -- the number saved so many cells below the frame pointer
  abbrev pub saved : List Cell → ℤ → ℤ → Result ℤ Stop
  saved s fp below = do
    at ← register (fp -ℤ below)
    c ← cell s at
    address c

  abbrev pub leave : Registers → List Cell → Result Registers Stop
  leave r s = do
    active ← fewer r.active
    pc ← saved s r.fp (pos 0)
    fp ← saved s r.fp (pos 1)
    ep ← saved s r.fp (pos 2)
    sp ← register (r.fp -ℤ pos 3)
    Ok (record { pc = pc; sp = sp; fp = fp; ep = ep; active = active; budget = r.budget })

  abbrev pub check : ℤ → Registers → List Cell → Result Registers Stop
  check n r s = do
    top ← cell s r.sp
    _ ← index (m.place top) n
    Ok r
