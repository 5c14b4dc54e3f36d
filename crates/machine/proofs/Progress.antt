-- How far one step brings a run. Assumes nothing.
use Rattle.std.proofs.Common.{◌≡◌, ℕ, zero, suc, ◌+◌, ◌-◌, ◌*◌, ◌<◌, ◌≤◌, Bool, true, false, cond, ◌&&◌, leb, List, length, ℤ, pos, negsuc, ◌+ℤ◌, ◌-ℤ◌, ◌≤ℤ◌, Some, None, Ok, Err, Option, Result, sym, refl, ap, subst, ⊎_elim, mul-le-mul_right, suc-mul, arith}
use lib.Signed.{le_z, lt_z}
use Rattle.std.specs.Option.{ok_or}
use Rattle.std.proofs.lemmas.Option.{slice_get_past as nth_past}
use Rattle.std.proofs.lemmas.Int.{ints}
use Rattle.std.proofs.str.Laws.{order}
use Rattle.reckoning.specs.declared.Operator.{Operator}
use Rattle.reckoning.specs.Meaning.{Meaning, applied}
use Rattle.instructions.specs.declared.Instruction.{Instruction}
use Rattle.instructions.specs.declared.Instruction.TheVariants.{Halt, LoadConstant, LoadRelative, Load, Store, Pop, Operate, Negate, Not, Jump, JumpZero, Mark, Call, Enter, Allocate, Return, Check}
use Rattle.machine.specs.declared.state.Registers.{Registers}
use Rattle.instructions.specs.declared.Stop.{Stop}
use Rattle.instructions.specs.declared.Stop.TheVariants.{Broken, Depth, Cells}
use Rattle.machine.specs.Instructions.{State, ◌>>=◌, register, cell, put, reckoned, spent, fewer, clear, three, index, read_after, admitted, toll, tops, pushed, with_pc, with_sp, with_ep, with_budget, whole, address, saved, push, relative, load, store_top, pop, binary, negate, invert, jump, branch, mark, link, call, enter, allocate, leave, check}
use Rattle.machine.specs.Runs.{charge, charged, price, address_of, enough}
use Rattle.instructions.specs.Words.{decoded}
use Rattle.machine.specs.Steps.{fetched, beside, goes, keeps, execute, act, outcome, step}

-- P of what an operation gives, if it does not stop
abbrev All : {X : Type 0} → (X → Type 0) → Result X Stop → Type 0
All P (Ok x) = P x
All P (Err e) = Unit {0}

pub record Each {X : Type 0} (P : X → Type 0) (r : Result X Stop) : Type 0 where
  pub each : All P r

all_by : {X Y : Type 0} {P : Y → Type 0} (x : Result X Stop) (k : X → Result Y Stop) → ((a : X) → x ≡ Ok a → Each P (k a)) → Each P (x >>= k)
all_by (Ok a) k h = h a refl
all_by (Err e) k h = record { each = tt }

all : {X Y : Type 0} {P : Y → Type 0} (x : Result X Stop) (k : X → Result Y Stop) → ((a : X) → Each P (k a)) → Each P (x >>= k)
all x k h = all_by x k (λ a _. h a)

all_of : {X Y : Type 0} {Q : X → Type 0} {P : Y → Type 0} (x : Result X Stop) (k : X → Result Y Stop) → Each Q x → ((a : X) → Q a → Each P (k a)) → Each P (x >>= k)
all_of (Ok a) k q h = h a q.each
all_of (Err e) k q h = record { each = tt }

weaker : {X : Type 0} {Q P : X → Type 0} (x : Result X Stop) → Each Q x → ((a : X) → Q a → P a) → Each P x
weaker (Ok a) q h = record { each = h a q.each }
weaker (Err e) q h = record { each = tt }

-- How registers with the program counter past an instruction go on to q, for so many units: ahead, for a unit, or back from a function.
pub data Moves (pc : ℤ) (active budget : ℕ) (q : Registers) : ℕ → Type 0 where
  ahead : pc ≤ℤ q.pc → q.active ≡ active → q.budget ≡ budget → Moves pc active budget q 0
  paid : q.active ≤ suc active → budget ≡ suc q.budget → Moves pc active budget q 1
  back : active ≡ suc q.active → q.budget ≡ budget → Moves pc active budget q 0

abbrev From : Registers → Registers → ℕ → Type 0
From r q n = Moves r.pc r.active r.budget q n

≤ℤ_refl : (z : ℤ) → z ≤ℤ z
≤ℤ_refl z = omega (arith, ints)

stays : (r q : Registers) → q.pc ≡ r.pc → q.active ≡ r.active → q.budget ≡ r.budget → Each (λ u. From r u 0) (Ok q)
stays r q p a b = record { each = ahead (subst (λ z. r.pc ≤ℤ z) (sym p) (≤ℤ_refl r.pc)) a b }

module _ {Cell : Type 0} where
  on : (r q : Registers) (s : List Cell) → q.pc ≡ r.pc → q.active ≡ r.active → q.budget ≡ r.budget → Each (λ (t : State Cell). From r t.0 0) (Ok (q, s))
  on r q s p a b = record { each = (stays r q p a b).each }

spent_one : (n : ℕ) → Each (λ left. n ≡ suc left) (spent n)
spent_one zero = record { each = tt }
spent_one (suc n) = record { each = refl }

fewer_one : (n : ℕ) → Each (λ left. n ≡ suc left) (fewer n)
fewer_one zero = record { each = tt }
fewer_one (suc n) = record { each = refl }

register_is : (z : ℤ) → Each (λ n. n ≡ z) (register z)
register_is z = go (le_z (negsuc 2147483647) z && le_z z (pos 2147483647))
  where
    go : (b : Bool) → Each (λ n. n ≡ z) (cond b (Ok z) (Err Broken))
    go true = record { each = refl }
    go false = record { each = tt }

-- a test of an address against the one past an instruction, and against the instruction's own
past_own : (to own next : ℤ) (b : Bool) → next ≡ own +ℤ pos 1 → lt_z to next ≡ b → le_z to own ≡ b
past_own to own next true is low = grind (arith, ints)
past_own to own next false is low = grind (arith, ints)

module _ {Cell : Type 0} (m : Meaning Cell) where
  abbrev On : Registers → State Cell → Type 0
  On r t = From r t.0 0

  push_on : (n : ℤ) (r : Registers) (s : List Cell) → Each (On r) (push m n r s)
  push_on n r s = all (whole m n) _ (λ c. all (pushed c s r.sp) _ (λ p. on r (with_sp p.0 r) p.1 refl refl refl))

  relative_on : (j : ℤ) (r : Registers) (s : List Cell) → Each (On r) (relative m j r s)
  unfolding relative
  relative_on j r s = all (register (r.fp +ℤ j)) _ (λ n. push_on n r s)

  load_on : (r : Registers) (s : List Cell) → Each (On r) (load m r s)
  load_on r s = all (cell s r.sp) _ (λ top. all (address m top) _ (λ a. all (cell s a) _ (λ c. all (put s r.sp c) _ (λ t. on r r t refl refl refl))))

  store_on : (r : Registers) (s : List Cell) → Each (On r) (store_top m r s)
  store_on r s = all (tops s r.sp) _ (λ p. all (address m p.2) _ (λ a. all (put s a p.1) _ (λ t. on r (with_sp p.0 r) t refl refl refl)))

  binary_on : (o : Operator) (r : Registers) (s : List Cell) → Each (On r) (binary m o r s)
  binary_on o r s = all (tops s r.sp) _ (λ p. all (reckoned (applied m o p.1 p.2)) _ (λ c. all (put s p.0 c) _ (λ t. on r (with_sp p.0 r) t refl refl refl)))

  negate_on : (r : Registers) (s : List Cell) → Each (On r) (negate m r s)
  negate_on r s = all (cell s r.sp) _ (λ top. all (reckoned (m.negate top)) _ (λ c. all (put s r.sp c) _ (λ t. on r r t refl refl refl)))

  invert_on : (r : Registers) (s : List Cell) → Each (On r) (invert m r s)
  invert_on r s = all (cell s r.sp) _ (λ top. all (reckoned (m.test top)) _ (λ b. all (put s r.sp (m.whole (cond b 0 1))) _ (λ t. on r r t refl refl refl)))

  mark_on : (r : Registers) (s : List Cell) → Each (On r) (mark m r s)
  mark_on r s = all (whole m r.ep) _ (λ ep. all (whole m r.fp) _ (λ fp. all (register (r.sp +ℤ pos 4)) _ (λ sp. all (three s r.sp (m.whole 0) ep fp) _ (λ t. on r (with_sp sp r) t refl refl refl))))

  allocate_on : (k : ℤ) (r : Registers) (s : List Cell) → Each (On r) (allocate m k r s)
  allocate_on (pos k) r s = all (register (r.sp +ℤ pos k)) _ (λ sp. all (clear (m.whole 0) s r.sp k) _ (λ t. on r (with_sp sp r) t refl refl refl))
  allocate_on (negsuc k) r s = record { each = tt }

  pop_on : (r : Registers) → Each (λ q. From r q 0) (pop r)
  pop_on r = all (register (r.sp -ℤ pos 1)) _ (λ sp. stays r (with_sp sp r) refl refl refl)

  enter_on : (q : ℤ) (r : Registers) (s : List Cell) → Each (λ u. From r u 0) (enter q r s)
  enter_on (pos q) r s = all (register (r.sp +ℤ pos q)) _ (λ ep. go ep (lt_z ep (pos (length s))))
    where
      go : (ep : ℤ) (b : Bool) → Each (λ u. From r u 0) (cond b (Ok (with_ep ep r)) (Err Cells))
      go ep true = stays r (with_ep ep r) refl refl refl
      go ep false = record { each = tt }
  enter_on (negsuc q) r s = record { each = tt }

  check_on : (n : ℤ) (r : Registers) (s : List Cell) → Each (λ u. From r u 0) (check m n r s)
  check_on n r s = all (cell s r.sp) _ (λ top. all (index (m.place top) n) _ (λ i. stays r r refl refl refl))

  -- a jump costs a unit exactly where it goes to an address not above its own
  toll_by : (to own pc : ℤ) (budget : ℕ) (b : Bool) → pc ≡ own +ℤ pos 1 → lt_z to pc ≡ b → Each (λ left. (b : Bool) × (le_z to own ≡ b) × (cond b (budget ≡ suc left) ((pc ≤ℤ to) × (left ≡ budget)))) (cond b (spent budget) (Ok budget))
  toll_by to own pc budget true is low = weaker (spent budget) (spent_one budget) (λ left less. (true, past_own to own pc true is low, less))
  toll_by to own pc budget false is low = record { each = (false, past_own to own pc false is low, (grind (arith, ints), refl)) }

  jump_moves : (to own : ℤ) (r : Registers) → r.pc ≡ own +ℤ pos 1 → Each (λ q. From r q (cond (le_z q.pc own) 1 0)) (jump to r)
  jump_moves to own r is = all_of (toll to r.pc r.budget) _ (toll_by to own r.pc r.budget (lt_z to r.pc) is refl) (λ left paying. record { each = go left paying.0 paying.1 paying.2 })
    where
      go : (left : ℕ) (b : Bool) → le_z to own ≡ b → cond b (r.budget ≡ suc left) ((r.pc ≤ℤ to) × (left ≡ r.budget)) → From r (with_budget left (with_pc to r)) (cond (le_z to own) 1 0)
      go left true low less = rw low (paid (omega arith) less)
      go left false low less = rw low (ahead less.0 refl less.1)

  branch_by : (to own sp : ℤ) (r : Registers) (b : Bool) → r.pc ≡ own +ℤ pos 1 → Each (λ q. From r q (cond (le_z q.pc own) 1 0)) (cond b (Ok (with_sp sp r)) (jump to (with_sp sp r)))
  branch_by to own sp r true is =
      let past : le_z r.pc own ≡ false = grind (arith, ints) in
      record { each = rw past (ahead (≤ℤ_refl r.pc) refl refl) }
  branch_by to own sp r false is = record { each = (jump_moves to own (with_sp sp r) is).each }

  branch_moves : (to own : ℤ) (r : Registers) (s : List Cell) → r.pc ≡ own +ℤ pos 1 → Each (λ q. From r q (cond (le_z q.pc own) 1 0)) (branch m to r s)
  branch_moves to own r s is = all (cell s r.sp) _ (λ top. all (register (r.sp -ℤ pos 1)) _ (λ sp. all (reckoned (m.test top)) _ (λ b. branch_by to own sp r b is)))

  admitted_one : (active budget : ℕ) → Each (λ left. budget ≡ suc left) (admitted active budget)
  admitted_one active budget = go (leb 24 active)
    where
      go : (b : Bool) → Each (λ left. budget ≡ suc left) (cond b (Err Depth) (spent budget))
      go true = record { each = tt }
      go false = spent_one budget

  link_moves : (sp fp : ℤ) (c : Cell) (r : Registers) (s : List Cell) → Each (λ t. From r t.0 1) (link m sp fp c r s)
  link_moves sp fp c r s = all (read_after s fp c r.sp) _ (λ top. all (address m top) _ (λ to. all_of (admitted r.active r.budget) _ (admitted_one r.active r.budget) (λ left one. all (put s fp c) _ (λ t. record { each = paid (omega arith) one }))))

  call_moves : (n : ℤ) (r : Registers) (s : List Cell) → Each (λ t. From r t.0 1) (call m n r s)
  call_moves n r s = all (register (r.sp -ℤ pos 1)) _ (λ sp. all (register (sp -ℤ n)) _ (λ fp. all (whole m r.pc) _ (λ c. link_moves sp fp c r s)))

  leave_moves : (r : Registers) (s : List Cell) → Each (λ q. From r q 0) (leave m r s)
  leave_moves r s = all_of (fewer r.active) _ (fewer_one r.active) (λ left less. all (saved m s r.fp (pos 0)) _ (λ pc. all (saved m s r.fp (pos 1)) _ (λ fp. all (saved m s r.fp (pos 2)) _ (λ ep. all (register (r.fp -ℤ pos 3)) _ (λ sp. record { each = back less refl })))))

  -- of the state that an instruction goes on to, if it goes on
  abbrev Onward : (State Cell → Type 0) → Option (State Cell) → Type 0
  Onward P (Some t) = P t
  Onward P None = Unit {0}

  going : (P : State Cell → Type 0) (x : Result (State Cell) Stop) → Each P x → Each (Onward P) (goes x)
  going P (Ok t) h = record { each = h.each }
  going P (Err e) h = record { each = tt }

  keeping : (P : Registers → Type 0) (s : List Cell) (x : Result Registers Stop) → Each P x → Each (Onward (λ t. P t.0)) (keeps s x)
  keeping P s (Ok t) h = record { each = h.each }
  keeping P s (Err e) h = record { each = tt }

  execute_moves : (i : Instruction) (own : ℤ) (r : Registers) (s : List Cell) → r.pc ≡ own +ℤ pos 1 → Each (Onward (λ t. From r t.0 (charge i own t.0.pc))) (execute m i r s)
  execute_moves Halt own r s is = record { each = tt }
  execute_moves (LoadConstant n) own r s is = going _ _ (push_on n r s)
  execute_moves (LoadRelative j) own r s is = going _ _ (relative_on j r s)
  execute_moves Load own r s is = going _ _ (load_on r s)
  execute_moves Store own r s is = going _ _ (store_on r s)
  execute_moves Pop own r s is = keeping _ s _ (pop_on r)
  execute_moves (Operate o) own r s is = going _ _ (binary_on o r s)
  execute_moves Negate own r s is = going _ _ (negate_on r s)
  execute_moves Not own r s is = going _ _ (invert_on r s)
  execute_moves (Jump to) own r s is = keeping _ s _ (jump_moves to own r is)
  execute_moves (JumpZero to) own r s is = keeping _ s _ (branch_moves to own r s is)
  execute_moves Mark own r s is = going _ _ (mark_on r s)
  execute_moves (Call n) own r s is = going _ _ (call_moves n r s)
  execute_moves (Enter q) own r s is = keeping _ s _ (enter_on q r s)
  execute_moves (Allocate k) own r s is = going _ _ (allocate_on k r s)
  execute_moves Return own r s is = keeping _ s _ (leave_moves r s)
  execute_moves (Check n) own r s is = keeping _ s _ (check_on n r s)

  -- what the word at the program counter says
  found : (code : List ℕ) (pc : ℤ) (w : ℕ) (i : Instruction) → cell code pc ≡ Ok w → ok_or (decoded w) Broken ≡ Ok i → fetched code pc ≡ Ok i
  found code pc w i at is = rw at is

  act_moves : (code : List ℕ) (r : Registers) (s : List Cell) → Each (Onward (λ t. Moves (r.pc +ℤ pos 1) r.active r.budget t.0 (charged (fetched code r.pc) r.pc t.0.pc))) (act m code r s)
  act_moves code r s =
      all_by (cell code r.pc) _ (λ w at.
      all_of (register (r.pc +ℤ pos 1)) _ (register_is (r.pc +ℤ pos 1)) (λ pc is.
      all_by (ok_or (decoded w) Broken) _ (λ i known.
      rw (found code r.pc w i at known, sym is) (execute_moves i r.pc (with_pc pc r) s is))))

  -- the instruction at the program counter is one of the code
  abbrev pub Inside : List ℕ → ℤ → Type 0
  Inside code pc = (n : ℕ) × (pc ≡ pos n) × (n < length code)

  cell_inside : (code : List ℕ) (pc : ℤ) (w : ℕ) → cell code pc ≡ Ok w → Inside code pc
  cell_inside code (pos n) w at = ⊎_elim (λ lt. (n, refl, lt)) (λ ge. let none = nth_past code n ge in let clash : ◌≡◌ {A = ℕ} 0 1 = cc in absurd (omega arith)) (order n (length code))
  cell_inside code (negsuc n) w at = let clash : ◌≡◌ {A = ℕ} 0 1 = cc in absurd (omega arith)

  always : {X : Type 0} (P : Type 0) → P → (x : Result X Stop) → Each (λ _. P) x
  always P h (Ok a) = record { each = h }
  always P h (Err e) = record { each = tt }

  act_inside : (code : List ℕ) (r : Registers) (s : List Cell) → Each (λ _. Inside code r.pc) (act m code r s)
  act_inside code r s = all_by (cell code r.pc) _ (λ w at. always _ (cell_inside code r.pc w at) _)

  onward : (P : State Cell → Type 0) (place : ℕ) (x : Result (Option (State Cell)) Stop) (u : State Cell) → Each (Onward P) x → outcome place x ≡ Ok u → P u
  onward P place (Ok (Some t)) u h is = subst P (let same : t ≡ u = cc in same) h.each
  onward P place (Ok None) u h is = let clash : ◌≡◌ {A = ℕ} 0 1 = cc in absurd (omega arith)
  onward P place (Err e) u h is = let clash : ◌≡◌ {A = ℕ} 0 1 = cc in absurd (omega arith)

  going_on : (P : Type 0) (place : ℕ) (x : Result (Option (State Cell)) Stop) (u : State Cell) → Each (λ _. P) x → outcome place x ≡ Ok u → P
  going_on P place (Ok o) u h is = h.each
  going_on P place (Err e) u h is = let clash : ◌≡◌ {A = ℕ} 0 1 = cc in absurd (omega arith)

  module _ (code places : List ℕ) where
    pub step_moves : (t u : State Cell) → step m code places t ≡ Ok u → Moves (t.0.pc +ℤ pos 1) t.0.active t.0.budget u.0 (price m code places t u)
    step_moves t u is = onward _ (beside places t.0.pc) (act m code t.0 t.1) u (act_moves code t.0 t.1) is

    pub step_inside : (t u : State Cell) → step m code places t ≡ Ok u → Inside code t.0.pc
    step_inside t u is = going_on _ (beside places t.0.pc) (act m code t.0 t.1) u (act_inside code t.0 t.1) is

    pub step_spends : (t u : State Cell) → step m code places t ≡ Ok u → t.0.budget ≡ u.0.budget + price m code places t u
    step_spends t u is = go (step_moves t u is)
      where
        go : {n : ℕ} → Moves (t.0.pc +ℤ pos 1) t.0.active t.0.budget u.0 n → t.0.budget ≡ u.0.budget + n
        go (ahead p a b) = omega arith
        go (paid a b) = omega arith
        go (back a b) = omega arith

    climbs : (own next : ℤ) (n : ℕ) → own ≡ pos n → (own +ℤ pos 1) ≤ℤ next → n < address_of next
    climbs own (pos k) n is up = omega (arith, ints)
    climbs own (negsuc k) n is up = omega (arith, ints)

    drops : (x y p q : ℕ) → y < x → y * (length code + 1) + (length code - p) + 1 < x * (length code + 1) + (length code - q) + 1
    drops x y p q less = omega (arith, mul-le-mul_right (length code + 1) less, suc-mul y (length code + 1))

    pub step_falls : (t u : State Cell) → step m code places t ≡ Ok u → enough m code places u < enough m code places t
    step_falls t u is = go (step_moves t u is) (step_inside t u is)
      where
        go : {n : ℕ} → Moves (t.0.pc +ℤ pos 1) t.0.active t.0.budget u.0 n → Inside code t.0.pc → enough m code places u < enough m code places t
        go (ahead p a b) at =
            let own : address_of t.0.pc ≡ at.0 = ap address_of at.1 in
            let up : at.0 < address_of u.0.pc = climbs t.0.pc u.0.pc at.0 at.1 p in
            rw (a, b) (omega (arith, at.2))
        go (paid a b) at = drops _ _ _ _ (omega arith)
        go (back a b) at = drops _ _ _ _ (omega arith)
