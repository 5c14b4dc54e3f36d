-- What the machine's instructions do to a store that is seen as what lies below the topmost cells, those cells, and the rest. Assumes nothing.
use Rattle.std.proofs.Common.{◌≡◌, ℕ, zero, suc, ◌+◌, ◌<◌, ◌≤◌, Bool, true, false, cond, List, [], ◌∷◌, ◌++◌, length, drop, set, replicate, ℤ, pos, ◌+ℤ◌, ◌-ℤ◌, Some, None, Ok, Err, sym, refl, ap, ◌∙◌, add-zero, arith, le-ltb, lt-ltb, le-leb}
use borrow.Author.Tests.{apart_eqb}
use Rattle.std.specs.Option.{ok_or}
use Rattle.std.specs.List.{slice_get}
use Rattle.std.proofs.lemmas.Int.{ints}
use Rattle.std.proofs.lemmas.List.{length-append, append_assoc, replicate_more, length-replicate, drop_more}
use Rattle.reckoning.specs.Meaning.{Meaning, Laws, applied, largest}
use Rattle.reckoning.specs.declared.Operator.{Operator}
use Rattle.reckoning.specs.declared.Stop.{Stop as ReckoningStop}
use Rattle.instructions.specs.declared.Instruction.TheVariants.{LoadConstant, LoadRelative, Load, Store, Pop, Operate, Negate, Not, Jump, JumpZero, Mark, Call, Enter, Allocate, Return, Check}
use Rattle.instructions.specs.declared.Stop.TheVariants.{Broken, Index, Budget, Reckoned}
use Rattle.machine.specs.declared.Registers.{Registers}
use Rattle.machine.specs.Instructions.{◌>>=◌, register, cell, put, tops, pushed, relative, read_after, three, cleared, clear, admitted, address, saved}
use Rattle.machine.specs.Steps.{execute, goes}
use Rattle.meaning.proofs.Seams.{nth_past_seam, set_past_seam}

-- The largest number that a register holds.
abbrev limit : ℕ
limit = 2147483647

abbrev pub regs : ℕ → ℕ → ℕ → ℕ → ℕ → ℕ → Registers
regs pc sp fp ep active budget = record { pc = pos pc; sp = pos sp; fp = pos fp; ep = pos ep; active = active; budget = budget }

pub register_fits : (n : ℕ) → n ≤ limit → register (pos n) ≡ Ok (pos n)
register_fits n fits = rw (le-leb n limit fits) refl

pub down_one : (n : ℕ) → pos (n + 1) -ℤ pos 1 ≡ pos n
down_one n = omega (arith, ints)

module _ {Cell : Type 0} where
  -- the cell k above a seam
  pub cell_seam : (zs xs : List Cell) (n k a : ℕ) (c : Cell) → length zs ≡ n → n + k ≡ a → slice_get xs k ≡ Some c → cell (zs ++ xs) (pos a) ≡ Ok c
  cell_seam zs xs n k a c long at is =
      let here : length zs + k ≡ a = omega arith in
      ap (λ o. ok_or o Broken) (ap (slice_get (zs ++ xs)) (sym here) ∙ nth_past_seam zs xs k ∙ is)

  pub put_seam : (zs xs : List Cell) (n k a : ℕ) (c : Cell) → length zs ≡ n → n + k ≡ a → k < length xs → put (zs ++ xs) (pos a) c ≡ Ok (zs ++ set xs k c)
  put_seam zs xs n k a c long at low =
      let here : length zs + k ≡ a = omega arith in
      let fits : a < length (zs ++ xs) = omega (arith, length-append zs xs) in
      rw (lt-ltb a (length (zs ++ xs)) fits) (ap Ok (ap (λ i. set (zs ++ xs) i c) (sym here) ∙ set_past_seam zs xs k c))

  pub tops_seam : (zs ys : List Cell) (n : ℕ) (x y : Cell) → length zs ≡ n → tops (zs ++ x ∷ y ∷ ys) (pos (n + 1)) ≡ Ok (pos n, x, y)
  unfolding tops
  tops_seam zs ys n x y long =
      rw (down_one n, cell_seam zs (x ∷ y ∷ ys) n 1 (n + 1) y long refl refl, cell_seam zs (x ∷ y ∷ ys) n 0 n x long (add-zero n) refl) refl

  pub pushed_seam : (zs ys : List Cell) (n : ℕ) (c y : Cell) → length zs ≡ n + 1 → n + 1 ≤ limit → pushed c (zs ++ y ∷ ys) (pos n) ≡ Ok (pos (n + 1), zs ++ c ∷ ys)
  unfolding pushed
  pushed_seam zs ys n c y long fits =
      rw (put_seam zs (y ∷ ys) (n + 1) 0 (n + 1) c long (add-zero (n + 1)) (omega arith), register_fits (n + 1) fits) refl

  three_seam : (zs ys : List Cell) (n : ℕ) (x y z a b c : Cell) → length zs ≡ n + 1 → three (zs ++ a ∷ b ∷ c ∷ ys) (pos n) x y z ≡ Ok (zs ++ x ∷ y ∷ z ∷ ys)
  three_seam zs ys n x y z a b c long =
      let fits : n + 1 + 2 < length (zs ++ a ∷ b ∷ c ∷ ys) = omega (arith, length-append zs (a ∷ b ∷ c ∷ ys)) in
      let one : set (zs ++ a ∷ b ∷ c ∷ ys) (n + 1) x ≡ zs ++ x ∷ b ∷ c ∷ ys = ap (λ i. set (zs ++ a ∷ b ∷ c ∷ ys) i x) (omega arith) ∙ set_past_seam zs (a ∷ b ∷ c ∷ ys) 0 x in
      let two : set (zs ++ x ∷ b ∷ c ∷ ys) (n + 1 + 1) y ≡ zs ++ x ∷ y ∷ c ∷ ys = ap (λ i. set (zs ++ x ∷ b ∷ c ∷ ys) i y) (omega arith) ∙ set_past_seam zs (x ∷ b ∷ c ∷ ys) 1 y in
      let last : set (zs ++ x ∷ y ∷ c ∷ ys) (n + 1 + 2) z ≡ zs ++ x ∷ y ∷ z ∷ ys = ap (λ i. set (zs ++ x ∷ y ∷ c ∷ ys) i z) (omega arith) ∙ set_past_seam zs (x ∷ y ∷ c ∷ ys) 2 z in
      rw (lt-ltb (n + 1 + 2) (length (zs ++ a ∷ b ∷ c ∷ ys)) fits, one, two, last) refl

  cleared_seam : (zs xs : List Cell) (n : ℕ) (c : Cell) (k : ℕ) → length zs ≡ n → k ≤ length xs → cleared c (zs ++ xs) n k ≡ zs ++ (replicate k c ++ drop k xs)
  cleared_seam zs xs n c zero long fits = refl
  cleared_seam zs xs n c (suc k) long fits =
      let here : length zs + k ≡ n + k = omega arith in
      let step : k + 1 ≡ suc k = omega arith in
      let seam : set (replicate k c ++ drop k xs) k c ≡ replicate k c ++ set (drop k xs) 0 c = ap (λ i. set (replicate k c ++ drop k xs) i c) (omega (arith, length-replicate k c)) ∙ set_past_seam (replicate k c) (drop k xs) 0 c in
      let rest : set (drop k xs) 0 c ≡ c ∷ drop (k + 1) xs = ap (λ t. set t 0 c) (drop_more xs k c (omega arith)) in
      let more : replicate k c ++ c ∷ drop (k + 1) xs ≡ replicate (k + 1) c ++ drop (k + 1) xs = sym (append_assoc (replicate k c) (c ∷ []) (drop (k + 1) xs)) ∙ ap (λ t. t ++ drop (k + 1) xs) (replicate_more k c) in
      ap (λ t. set t (n + k) c) (cleared_seam zs xs n c k long (omega arith))
      ∙ ap (λ i. set (zs ++ (replicate k c ++ drop k xs)) i c) (sym here)
      ∙ set_past_seam zs (replicate k c ++ drop k xs) k c
      ∙ ap (λ t. zs ++ t) (seam ∙ ap (λ t. replicate k c ++ t) rest ∙ more)
      ∙ ap (λ i. zs ++ (replicate i c ++ drop i xs)) step

  clear_seam : (zs xs : List Cell) (n : ℕ) (c : Cell) (k : ℕ) → length zs ≡ n + 1 → k ≤ length xs → clear c (zs ++ xs) (pos n) k ≡ Ok (zs ++ (replicate k c ++ drop k xs))
  unfolding clear
  clear_seam zs xs n c zero long fits = refl
  clear_seam zs xs n c (suc k) long fits =
      let low : n + 1 + suc k ≤ length (zs ++ xs) = omega (arith, length-append zs xs) in
      rw (apart_eqb (suc k) 0 (λ e. omega arith), le-leb (n + 1 + suc k) (length (zs ++ xs)) low) (ap Ok (cleared_seam zs xs (n + 1) c (suc k) long fits))

module _ {Cell : Type 0} (m : Meaning Cell) (laws : Laws m) where
  pub push_ok : (n pc sp fp ep a b : ℕ) (zs ys : List Cell) (y : Cell) → n ≤ largest → length zs ≡ sp + 1 → sp + 1 ≤ limit → execute m (LoadConstant (pos n)) (regs pc sp fp ep a b) (zs ++ y ∷ ys) ≡ Ok (Some (regs pc (sp + 1) fp ep a b, zs ++ m.whole n ∷ ys))
  push_ok n pc sp fp ep a b zs ys y small long fits = rw (le-leb n largest small, pushed_seam zs ys sp (m.whole n) y long fits) refl

  pub relative_ok : (j : ℤ) (n pc sp fp ep a b : ℕ) (zs ys : List Cell) (y : Cell) → pos fp +ℤ j ≡ pos n → n ≤ largest → length zs ≡ sp + 1 → sp + 1 ≤ limit → execute m (LoadRelative j) (regs pc sp fp ep a b) (zs ++ y ∷ ys) ≡ Ok (Some (regs pc (sp + 1) fp ep a b, zs ++ m.whole n ∷ ys))
  unfolding relative
  relative_ok j n pc sp fp ep a b zs ys y is small long fits =
      rw (is, register_fits n (omega arith), le-leb n largest small, pushed_seam zs ys sp (m.whole n) y long fits) refl

  pub load_ok : (n pc sp fp ep a b : ℕ) (zs ys : List Cell) (c : Cell) → n ≤ largest → length zs ≡ sp → cell (zs ++ m.whole n ∷ ys) (pos n) ≡ Ok c → execute m Load (regs pc sp fp ep a b) (zs ++ m.whole n ∷ ys) ≡ Ok (Some (regs pc sp fp ep a b, zs ++ c ∷ ys))
  load_ok n pc sp fp ep a b zs ys c small long is =
      rw (cell_seam zs (m.whole n ∷ ys) sp 0 sp (m.whole n) long (add-zero sp) refl, laws.place_whole n small, is, put_seam zs (m.whole n ∷ ys) sp 0 sp c long (add-zero sp) (omega arith)) refl

  pub store_ok : (n pc k fp ep a b : ℕ) (zs ys t : List Cell) (v : Cell) → n ≤ largest → length zs ≡ k → put (zs ++ v ∷ m.whole n ∷ ys) (pos n) v ≡ Ok t → execute m Store (regs pc (k + 1) fp ep a b) (zs ++ v ∷ m.whole n ∷ ys) ≡ Ok (Some (regs pc k fp ep a b, t))
  store_ok n pc k fp ep a b zs ys t v small long is =
      rw (tops_seam zs ys k v (m.whole n) long, laws.place_whole n small, is) refl

  pub pop_ok : (pc k fp ep a b : ℕ) (s : List Cell) → k ≤ limit → execute m Pop (regs pc (k + 1) fp ep a b) s ≡ Ok (Some (regs pc k fp ep a b, s))
  pop_ok pc k fp ep a b s fits = rw (down_one k, register_fits k fits) refl

  pub binary_ok : (o : Operator) (pc k fp ep a b : ℕ) (zs ys : List Cell) (x y c : Cell) → length zs ≡ k → applied m o x y ≡ Ok c → execute m (Operate o) (regs pc (k + 1) fp ep a b) (zs ++ x ∷ y ∷ ys) ≡ Ok (Some (regs pc k fp ep a b, zs ++ c ∷ y ∷ ys))
  binary_ok o pc k fp ep a b zs ys x y c long is =
      rw (tops_seam zs ys k x y long, is, put_seam zs (x ∷ y ∷ ys) k 0 k c long (add-zero k) (omega arith)) refl

  pub binary_stops : (o : Operator) (pc k fp ep a b : ℕ) (zs ys : List Cell) (x y : Cell) (e : ReckoningStop) → length zs ≡ k → applied m o x y ≡ Err e → execute m (Operate o) (regs pc (k + 1) fp ep a b) (zs ++ x ∷ y ∷ ys) ≡ Err (Reckoned e)
  binary_stops o pc k fp ep a b zs ys x y e long is = rw (tops_seam zs ys k x y long, is) refl

  pub negate_ok : (pc k fp ep a b : ℕ) (zs ys : List Cell) (x c : Cell) → length zs ≡ k → m.negate x ≡ Ok c → execute m Negate (regs pc k fp ep a b) (zs ++ x ∷ ys) ≡ Ok (Some (regs pc k fp ep a b, zs ++ c ∷ ys))
  negate_ok pc k fp ep a b zs ys x c long is =
      rw (cell_seam zs (x ∷ ys) k 0 k x long (add-zero k) refl, is, put_seam zs (x ∷ ys) k 0 k c long (add-zero k) (omega arith)) refl

  pub negate_stops : (pc k fp ep a b : ℕ) (zs ys : List Cell) (x : Cell) (e : ReckoningStop) → length zs ≡ k → m.negate x ≡ Err e → execute m Negate (regs pc k fp ep a b) (zs ++ x ∷ ys) ≡ Err (Reckoned e)
  negate_stops pc k fp ep a b zs ys x e long is = rw (cell_seam zs (x ∷ ys) k 0 k x long (add-zero k) refl, is) refl

  pub not_ok : (pc k fp ep a b : ℕ) (zs ys : List Cell) (x : Cell) (is-so : Bool) → length zs ≡ k → m.test x ≡ Ok is-so → execute m Not (regs pc k fp ep a b) (zs ++ x ∷ ys) ≡ Ok (Some (regs pc k fp ep a b, zs ++ m.whole (cond is-so 0 1) ∷ ys))
  not_ok pc k fp ep a b zs ys x is-so long is =
      rw (cell_seam zs (x ∷ ys) k 0 k x long (add-zero k) refl, is, put_seam zs (x ∷ ys) k 0 k (m.whole (cond is-so 0 1)) long (add-zero k) (omega arith)) refl

  pub not_stops : (pc k fp ep a b : ℕ) (zs ys : List Cell) (x : Cell) (e : ReckoningStop) → length zs ≡ k → m.test x ≡ Err e → execute m Not (regs pc k fp ep a b) (zs ++ x ∷ ys) ≡ Err (Reckoned e)
  not_stops pc k fp ep a b zs ys x e long is = rw (cell_seam zs (x ∷ ys) k 0 k x long (add-zero k) refl, is) refl

  -- The program counter is past the jump already.
  pub jump_ahead : (to pc sp fp ep a b : ℕ) (s : List Cell) → pc ≤ to → execute m (Jump (pos to)) (regs pc sp fp ep a b) s ≡ Ok (Some (regs to sp fp ep a b, s))
  jump_ahead to pc sp fp ep a b s up = rw (le-ltb to pc up) refl

  pub jump_back : (to pc sp fp ep a b : ℕ) (s : List Cell) → to < pc → execute m (Jump (pos to)) (regs pc sp fp ep a (suc b)) s ≡ Ok (Some (regs to sp fp ep a b, s))
  jump_back to pc sp fp ep a b s down = rw (lt-ltb to pc down) refl

  pub jump_broke : (to pc sp fp ep a : ℕ) (s : List Cell) → to < pc → execute m (Jump (pos to)) (regs pc sp fp ep a 0) s ≡ Err Budget
  jump_broke to pc sp fp ep a s down = rw (lt-ltb to pc down) refl

  pub branch_on : (to pc k fp ep a b : ℕ) (zs ys : List Cell) (x : Cell) → length zs ≡ k + 1 → k ≤ limit → m.test x ≡ Ok true → execute m (JumpZero (pos to)) (regs pc (k + 1) fp ep a b) (zs ++ x ∷ ys) ≡ Ok (Some (regs pc k fp ep a b, zs ++ x ∷ ys))
  branch_on to pc k fp ep a b zs ys x long fits is =
      rw (cell_seam zs (x ∷ ys) (k + 1) 0 (k + 1) x long (add-zero (k + 1)) refl, down_one k, register_fits k fits, is) refl

  pub branch_off : (to pc k fp ep a b : ℕ) (zs ys : List Cell) (x : Cell) → length zs ≡ k + 1 → k ≤ limit → pc ≤ to → m.test x ≡ Ok false → execute m (JumpZero (pos to)) (regs pc (k + 1) fp ep a b) (zs ++ x ∷ ys) ≡ Ok (Some (regs to k fp ep a b, zs ++ x ∷ ys))
  branch_off to pc k fp ep a b zs ys x long fits up is =
      rw (cell_seam zs (x ∷ ys) (k + 1) 0 (k + 1) x long (add-zero (k + 1)) refl, down_one k, register_fits k fits, is, le-ltb to pc up) refl

  pub branch_stops : (to pc k fp ep a b : ℕ) (zs ys : List Cell) (x : Cell) (e : ReckoningStop) → length zs ≡ k + 1 → k ≤ limit → m.test x ≡ Err e → execute m (JumpZero (pos to)) (regs pc (k + 1) fp ep a b) (zs ++ x ∷ ys) ≡ Err (Reckoned e)
  branch_stops to pc k fp ep a b zs ys x e long fits is =
      rw (cell_seam zs (x ∷ ys) (k + 1) 0 (k + 1) x long (add-zero (k + 1)) refl, down_one k, register_fits k fits, is) refl

  pub mark_ok : (pc sp fp ep a b : ℕ) (zs ys : List Cell) (x y z : Cell) → ep ≤ largest → fp ≤ largest → length zs ≡ sp + 1 → sp + 4 ≤ limit → execute m Mark (regs pc sp fp ep a b) (zs ++ x ∷ y ∷ z ∷ ys) ≡ Ok (Some (regs pc (sp + 4) fp ep a b, zs ++ m.whole 0 ∷ m.whole ep ∷ m.whole fp ∷ ys))
  mark_ok pc sp fp ep a b zs ys x y z low lower long fits =
      rw (le-leb ep largest low, le-leb fp largest lower, register_fits (sp + 4) fits, three_seam zs ys sp (m.whole 0) (m.whole ep) (m.whole fp) x y z long) refl

  -- The frame pointer of the callee is f, its n arguments lie above, and the address of its code on top.
  pub call_is : (n t pc f fp ep a b : ℕ) (zs xs ys : List Cell) (p : Cell) → length zs ≡ f → length xs ≡ n → f + n ≤ limit → pc ≤ largest → t ≤ largest → execute m (Call (pos n)) (regs pc (f + n + 1) fp ep a b) (zs ++ (p ∷ (xs ++ m.whole t ∷ ys))) ≡ goes (admitted a b >>= λ left. Ok (regs t (f + n) f ep (a + 1) left, zs ++ (m.whole pc ∷ (xs ++ m.whole t ∷ ys))))
  unfolding read_after
  call_is n t pc f fp ep a b zs xs ys p long many fits low small =
      let down : pos (f + n) -ℤ pos n ≡ pos f = omega (arith, ints) in
      let write : put (zs ++ (p ∷ (xs ++ m.whole t ∷ ys))) (pos f) (m.whole pc) ≡ Ok (zs ++ (m.whole pc ∷ (xs ++ m.whole t ∷ ys))) = put_seam zs (p ∷ (xs ++ m.whole t ∷ ys)) f 0 f (m.whole pc) long (add-zero f) (omega arith) in
      let above : slice_get (m.whole pc ∷ (xs ++ m.whole t ∷ ys)) (n + 1) ≡ Some (m.whole t) = ap (slice_get (m.whole pc ∷ (xs ++ m.whole t ∷ ys))) (sym (seam_at n xs (m.whole pc) many)) ∙ nth_past_seam (m.whole pc ∷ xs) (m.whole t ∷ ys) 0 in
      let top : cell (zs ++ (m.whole pc ∷ (xs ++ m.whole t ∷ ys))) (pos (f + n + 1)) ≡ Ok (m.whole t) = cell_seam zs (m.whole pc ∷ (xs ++ m.whole t ∷ ys)) f (n + 1) (f + n + 1) (m.whole t) long (omega arith) above in
      rw (down_one (f + n), register_fits (f + n) fits, down, register_fits f (omega arith), le-leb pc largest low, write, top, laws.place_whole t small) refl
    where
      seam_at : (n : ℕ) (xs : List Cell) (c : Cell) → length xs ≡ n → length (c ∷ xs) + 0 ≡ n + 1
      seam_at n xs c many = omega arith

  pub enter_ok : (q pc sp fp ep a b : ℕ) (s : List Cell) → sp + q < length s → sp + q ≤ limit → execute m (Enter (pos q)) (regs pc sp fp ep a b) s ≡ Ok (Some (regs pc sp fp (sp + q) a b, s))
  enter_ok q pc sp fp ep a b s room fits = rw (register_fits (sp + q) fits, lt-ltb (sp + q) (length s) room) refl

  pub allocate_ok : (k pc sp fp ep a b : ℕ) (zs xs : List Cell) → length zs ≡ sp + 1 → k ≤ length xs → sp + k ≤ limit → execute m (Allocate (pos k)) (regs pc sp fp ep a b) (zs ++ xs) ≡ Ok (Some (regs pc (sp + k) fp ep a b, zs ++ (replicate k (m.whole 0) ++ drop k xs)))
  allocate_ok k pc sp fp ep a b zs xs long room fits = rw (register_fits (sp + k) fits, clear_seam zs xs sp (m.whole 0) k long room) refl

  saved_seam : (fp d : ℤ) (a n : ℕ) (s : List Cell) → fp -ℤ d ≡ pos a → a ≤ limit → cell s (pos a) ≡ Ok (m.whole n) → n ≤ largest → saved m s fp d ≡ Ok (pos n)
  saved_seam fp d a n s at fits is small =
      ap (λ z. register z >>= λ i. cell s i >>= λ c. address m c) at ∙ rw (register_fits a fits, is, laws.place_whole n small) refl

  -- What is saved lies in the four cells that end at the frame pointer; the first of them is the result.
  pub return_ok : (pc sp n ep a b p f e : ℕ) (zs ys : List Cell) (v : Cell) → length zs ≡ n → n + 3 ≤ limit → p ≤ largest → f ≤ largest → e ≤ largest → execute m Return (regs pc sp (n + 3) ep (suc a) b) (zs ++ v ∷ m.whole e ∷ m.whole f ∷ m.whole p ∷ ys) ≡ Ok (Some (regs p n f e a b, zs ++ v ∷ m.whole e ∷ m.whole f ∷ m.whole p ∷ ys))
  return_ok pc sp n ep a b p f e zs ys v long fits low lower lowest =
      let xs : List Cell = v ∷ m.whole e ∷ m.whole f ∷ m.whole p ∷ ys in
      rw (
        saved_seam (pos (n + 3)) (pos 0) (n + 3) p (zs ++ xs) (omega (arith, ints)) fits (cell_seam zs xs n 3 (n + 3) (m.whole p) long refl refl) low,
        saved_seam (pos (n + 3)) (pos 1) (n + 2) f (zs ++ xs) (omega (arith, ints)) (omega arith) (cell_seam zs xs n 2 (n + 2) (m.whole f) long refl refl) lower,
        saved_seam (pos (n + 3)) (pos 2) (n + 1) e (zs ++ xs) (omega (arith, ints)) (omega arith) (cell_seam zs xs n 1 (n + 1) (m.whole e) long refl refl) lowest,
        registers_down n (omega arith),
      ) refl
    where
      registers_down : (n : ℕ) → n ≤ limit → register (pos (n + 3) -ℤ pos 3) ≡ Ok (pos n)
      registers_down n fits = let is : pos (n + 3) -ℤ pos 3 ≡ pos n = omega (arith, ints) in ap register is ∙ register_fits n fits

  pub check_ok : (n pc k fp ep a b i : ℕ) (zs ys : List Cell) (x : Cell) → length zs ≡ k → m.place x ≡ Some i → i < n → execute m (Check (pos n)) (regs pc k fp ep a b) (zs ++ x ∷ ys) ≡ Ok (Some (regs pc k fp ep a b, zs ++ x ∷ ys))
  check_ok n pc k fp ep a b i zs ys x long is low = rw (cell_seam zs (x ∷ ys) k 0 k x long (add-zero k) refl, is, lt-ltb i n low) refl

  pub check_past : (n pc k fp ep a b i : ℕ) (zs ys : List Cell) (x : Cell) → length zs ≡ k → m.place x ≡ Some i → n ≤ i → execute m (Check (pos n)) (regs pc k fp ep a b) (zs ++ x ∷ ys) ≡ Err Index
  check_past n pc k fp ep a b i zs ys x long is high = rw (cell_seam zs (x ∷ ys) k 0 k x long (add-zero k) refl, is, le-ltb i n high) refl

  pub check_none : (n pc k fp ep a b : ℕ) (zs ys : List Cell) (x : Cell) → length zs ≡ k → m.place x ≡ None → execute m (Check (pos n)) (regs pc k fp ep a b) (zs ++ x ∷ ys) ≡ Err Index
  check_none n pc k fp ep a b zs ys x long is = rw (cell_seam zs (x ∷ ys) k 0 k x long (add-zero k) refl, is) refl
