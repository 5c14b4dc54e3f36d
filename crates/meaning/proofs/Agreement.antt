-- The code of a sheet does what its reading says. Assumes nothing.
use Rattle.std.proofs.Common.{◌≡◌, ℕ, zero, suc, ◌+◌, ◌-◌, ◌*◌, ◌<◌, ◌≤◌, Bool, true, false, cond, ltb, leb, List, [], ◌∷◌, ◌++◌, length, get_or, take, drop, set, replicate, ℤ, pos, negsuc, ◌+ℤ◌, Some, None, Ok, Err, Option, Result, unwrap_or, sym, refl, ap, ◌∙◌, subst, add-zero, arith}
use Rattle.std.specs.List.{slice_get}
use Rattle.std.proofs.lemmas.List.{length-set, length-drop, length-replicate, length-append, append_assoc, append-nil, length_push}
use Rattle.std.proofs.lemmas.Option.{slice_get-get_or}
use Rattle.std.proofs.lemmas.Bool.{ltb-true, ltb-false, leb-false}
use Rattle.std.proofs.lemmas.Int.{ints}
use Rattle.reckoning.specs.Meaning.{Meaning, Laws, applied, largest}
use Rattle.reckoning.specs.declared.Operator.{Operator}
use Rattle.reckoning.specs.declared.Operator.TheVariants.{Add, Multiply}
use Rattle.reckoning.specs.declared.Stop.{Stop as ReckoningStop}
use Rattle.instructions.specs.declared.Instruction.TheVariants.{LoadConstant, LoadRelative, Load, Store, Pop, Operate, Negate, Not, Jump, JumpZero, Mark, Call, Enter, Allocate, Return, Check}
use Rattle.instructions.specs.declared.Stop.{Stop}
use Rattle.instructions.specs.declared.Stop.TheVariants.{Index, Budget, Depth, Reckoned}
use Rattle.machine.specs.Endings.{stopped as ends}
use Rattle.machine.specs.Instructions.{State, ◌>>=◌, cell, put, admitted}
use Rattle.machine.specs.Steps.{execute, outcome, step, goes}
use Rattle.language.specs.Resolved.{Region, on_sheet, in_frame, Expression, constant, value, assignment, invocation, negation, inversion, operation, Subscripts, whole_of, subscript, Arguments, none, also, arity, Statement, perform, sequence, give, when, either, repeat, Statements, finish, first as then_do, Routine}
use Rattle.language.specs.Reading.{Memory, Outcome, gives, stops, Reads, follow, Level, cells_in, with_cells, with_frame, pure, stop, with_budget, reckon, within, pay, admit, back_in, unless_returned, spend, read_expression, read_subscripts, read_arguments, read_statement, read_statements, read_routine, read_numbered, level}
use Rattle.language.proofs.Fitting.{room, Fits, Inside, FitArgs, FitStatement, FitStatements, starts_inside}
use Rattle.translation.specs.Translation.{Line, base, code_expression, code_subscripts, code_arguments, need_expression, need_subscripts, need_arguments, code_statement, code_statements, need_statement, need_statements, need, code_routine}
use Rattle.meaning.proofs.Seams.{nth_before_seam, set_before_seam}
use Rattle.meaning.proofs.Instructions.{regs, register_fits, cell_seam, put_seam, push_ok, relative_ok, load_ok, store_ok, pop_ok, binary_ok, binary_stops, negate_ok, negate_stops, not_ok, not_stops, check_ok, check_past, check_none, mark_ok, call_is, jump_ahead, jump_back, jump_broke, branch_on, branch_off, branch_stops, return_ok, enter_ok, allocate_ok}
use Rattle.meaning.proofs.Frames.{Has, Stands, stands_left, stands_right, Frame, Sound, Sized, Room, flat, flat_split, flat_push, flat_long, flat_sheet}

module _ {Cell : Type 0} (m : Meaning Cell) (laws : Laws m) (words places : List ℕ) (Good : State Cell → Type 0) (next : (t u : State Cell) → step m words places t ≡ Ok u → Good u → Good t) (g : ℕ) where
  pub step_at : (pc sp fp ep a b : ℕ) (s : List Cell) (l : Line) → pc ≤ largest → Has words places pc l → step m words places (regs pc sp fp ep a b, s) ≡ outcome l.1 (execute m l.0 (regs (pc + 1) sp fp ep a b) s)
  step_at pc sp fp ep a b s l low has =
      rw (has.there, register_fits (pc + 1) (omega arith), has.known, has.place) refl

  -- A run that stops so, with these cells and this budget, is good.
  abbrev pub Fails : Stop → ℕ → List Cell → ℕ → Type 0
  Fails e p c b = (t : State Cell) → take g (drop 1 t.1) ≡ c → t.0.budget ≡ b → step m words places t ≡ Err (ends e p) → Good t

  pub onward : (pc sp fp ep a b : ℕ) (s : List Cell) (l : Line) (t : State Cell) → pc ≤ largest → Has words places pc l → execute m l.0 (regs (pc + 1) sp fp ep a b) s ≡ Ok (Some t) → Good t → Good (regs pc sp fp ep a b, s)
  onward pc sp fp ep a b s l t low has is good = next _ t (step_at pc sp fp ep a b s l low has ∙ ap (outcome l.1) is) good

  pub stopped : (pc sp fp ep a b : ℕ) (s : List Cell) (l : Line) (e : Stop) (c : List Cell) → pc ≤ largest → Has words places pc l → execute m l.0 (regs (pc + 1) sp fp ep a b) s ≡ Err e → take g (drop 1 s) ≡ c → Fails e l.1 c b → Good (regs pc sp fp ep a b, s)
  stopped pc sp fp ep a b s l e c low has is shows fails = fails _ shows refl (step_at pc sp fp ep a b s l low has ∙ ap (outcome l.1) is)

  -- Where a reading gives something, that holds of it; where it stops, so may the run.
  abbrev pub Meets : {X : Type 0} → Outcome Cell X → (X → Memory Cell → Type 0) → Type 0
  Meets (gives x h) Q = Q x h
  Meets (stops e p c b) Q = Fails e p c b

  pub after : {X Y : Type 0} (o : Outcome Cell X) (then : X → Reads Cell Y) (Q : Y → Memory Cell → Type 0) (P : X → Memory Cell → Type 0) → ((x : X) (h : Memory Cell) → Meets (then x h) Q → P x h) → Meets (follow o then) Q → Meets o P
  after (gives x h) then Q P so meets = so x h meets
  after (stops e p c b) then Q P so meets = meets

  pub weaken : {X : Type 0} (o : Outcome Cell X) (P Q : X → Memory Cell → Type 0) → ((x : X) (h : Memory Cell) → P x h → Q x h) → Meets o P → Meets o Q
  weaken (gives x h) P Q so meets = so x h meets
  weaken (stops e p c b) P Q so meets = meets

  pub back_meets : {X : Type 0} (cs : List Cell) (o : Outcome Cell X) (Q P : X → Memory Cell → Type 0) → ((x : X) (h : Memory Cell) → Q x (with_frame cs h) → P x h) → Meets (back_in cs o) Q → Meets o P
  back_meets cs (gives x h) Q P so meets = so x h meets
  back_meets cs (stops e p c b) Q P so meets = meets

  pub regroup : {X Y Z : Type 0} (o : Outcome Cell X) (then : X → Reads Cell Y) (more : Y → Reads Cell Z) (Q : Z → Memory Cell → Type 0) → Meets (follow (follow o then) more) Q → Meets (follow o (λ x h. follow (then x h) more)) Q
  regroup (gives x h) then more Q meets = meets
  regroup (stops e p c b) then more Q meets = meets

  -- A function is entered: above what lies under it and the four saved cells are its arguments.
  abbrev pub entry : Cell → List Cell → ℕ → ℕ → ℕ → ℕ → ℕ → List Cell → Memory Cell → List Cell → State Cell
  entry first under back old_fp old_ep callers start xs h free = (regs start (g + length under + 4 + length xs) (g + length under + 4) old_ep (callers + 1) h.budget, first ∷ (h.sheet ++ (under ++ (m.whole 0 ∷ m.whole old_ep ∷ m.whole old_fp ∷ m.whole back ∷ (xs ++ free)))))

  -- It is left with a value.
  abbrev pub exit : Cell → List Cell → ℕ → ℕ → ℕ → ℕ → Cell → Memory Cell → List Cell → State Cell
  exit first under back old_fp old_ep callers v h free = (regs back (g + length under + 1) old_fp old_ep callers h.budget, first ∷ (h.sheet ++ (under ++ (v ∷ free))))

  -- Calls below a level do what their reading says.
  abbrev pub CalleeOk : ℕ → ℕ → Cell → List Routine → List ℕ → Level Cell → Type 0
  CalleeOk N k first rs starts L =
      (under : List Cell) (back old_fp old_ep callers f : ℕ) (r : Routine) (xs : List Cell) (h : Memory Cell) (free : List Cell)
      → slice_get rs f ≡ Some r → length xs ≡ r.parameters → back ≤ largest → old_fp ≤ largest → old_ep ≤ largest
      → length h.sheet ≡ g → h.budget < k
      → g + length under + length xs + length free + 5 ≡ N → 300 + (24 - (callers + 1)) * 300 ≤ length free
      → Meets (L.callee (callers + 1) f xs h) (λ v h'. length h'.sheet ≡ g → h'.budget ≤ k → (rest : List Cell) → length rest ≡ length xs + length free + 3 → Good (exit first under back old_fp old_ep callers v h' rest))
      → Good (entry first under back old_fp old_ep callers (get_or starts f 0) xs h free)

  module _ (N k : ℕ) (bound : N ≤ 16384) (first : Cell) (F : Frame Cell) (sound : Sound F) where
    abbrev pub frame_pointer : ℕ
    frame_pointer = g + length F.under + 4

    -- the machine at an address, with the memory of a reading
    abbrev pub at : ℕ → Memory Cell → List Cell → List Cell → State Cell
    at pc h ts free = (regs pc (frame_pointer + F.size + length ts) frame_pointer F.ep (F.callers + 1) h.budget, flat m first F h (ts ++ free))

    -- the same state, written otherwise
    pub moved : (pc pc' sp sp' a b : ℕ) (s s' : List Cell) → pc ≡ pc' → sp ≡ sp' → s ≡ s' → Good (regs pc sp frame_pointer F.ep a b, s) → Good (regs pc' sp' frame_pointer F.ep a b, s')
    moved pc pc' sp sp' a b s s' e f i good = subst (λ (x : ℕ × ℕ × List Cell). Good (regs x.0 x.1 frame_pointer F.ep a b, x.2)) (λ j. (e j, f j, i j)) good

    module _ (h : Memory Cell) (sized : Sized g k F h) where
      long : (ts : List Cell) → length (flat m first F h ts) ≡ g + length F.under + F.size + length ts + 5
      long ts = flat_long g k m first F h sized ts

      -- A cell is pushed.
      abbrev Pushes : ℕ → List Cell → List Cell → Cell → Type 0
      Pushes pc ts free c = (rest : List Cell) → length rest + 1 ≡ length free → Good (at (pc + 1) h (ts ++ c ∷ []) rest)

      pushed_at : (pc : ℕ) (ts free : List Cell) (l : Line) (c : Cell) → pc ≤ largest → Has words places pc l → Room g N F 1 ts free
          → ((zs ys : List Cell) (y : Cell) → length zs ≡ frame_pointer + F.size + length ts + 1 → execute m l.0 (regs (pc + 1) (frame_pointer + F.size + length ts) frame_pointer F.ep (F.callers + 1) h.budget) (zs ++ y ∷ ys) ≡ Ok (Some (regs (pc + 1) (frame_pointer + F.size + length ts + 1) frame_pointer F.ep (F.callers + 1) h.budget, zs ++ c ∷ ys)))
          → Pushes pc ts free c → Good (at pc h ts free)
      pushed_at pc ts [] l c low has room does good = absurd (omega arith)
      pushed_at pc ts (y ∷ ys) l c low has room does good =
          moved pc pc _ _ _ _ _ _ refl refl (sym (flat_split m first F h ts (y ∷ ys)))
          (onward pc _ _ _ _ _ _ l _ low has (does (flat m first F h ts) ys y (long ts ∙ omega arith))
          (moved (pc + 1) (pc + 1) _ _ _ _ _ _ refl (omega (arith, length_push ts c)) (flat_push m first F h ts ys c ∙ flat_split m first F h ts (c ∷ ys))
          (good ys (omega arith))))

      pub constant_at : (pc : ℕ) (ts free : List Cell) (n : ℕ) → pc ≤ largest → n ≤ largest → Has words places pc (LoadConstant (pos n), 0) → Room g N F 1 ts free → Pushes pc ts free (m.whole n) → Good (at pc h ts free)
      constant_at pc ts free n low fits has room =
          pushed_at pc ts free (LoadConstant (pos n), 0) (m.whole n) low has room (λ zs ys y is. push_ok m laws n (pc + 1) _ _ _ _ _ zs ys y fits is (omega arith))

      pub relative_at : (pc : ℕ) (ts free : List Cell) (j : ℤ) (n : ℕ) → pc ≤ largest → pos frame_pointer +ℤ j ≡ pos n → n ≤ largest → Has words places pc (LoadRelative j, 0) → Room g N F 1 ts free → Pushes pc ts free (m.whole n) → Good (at pc h ts free)
      relative_at pc ts free j n low is fits has room =
          pushed_at pc ts free (LoadRelative j, 0) (m.whole n) low has room (λ zs ys y long. relative_ok m laws j n (pc + 1) _ _ _ _ _ zs ys y is fits long (omega arith))

      -- the topmost cell, and the two topmost ones
      one_top : (ts ys : List Cell) (x : Cell) → flat m first F h ((ts ++ x ∷ []) ++ ys) ≡ flat m first F h ts ++ x ∷ ys
      one_top ts ys x = flat_push m first F h ts ys x ∙ flat_split m first F h ts (x ∷ ys)

      two_tops : (ts ys : List Cell) (x y : Cell) → flat m first F h (((ts ++ x ∷ []) ++ y ∷ []) ++ ys) ≡ flat m first F h ts ++ x ∷ y ∷ ys
      two_tops ts ys x y = flat_push m first F h (ts ++ x ∷ []) ys y ∙ one_top ts (y ∷ ys) x

      abbrev base_top : List Cell → ℕ
      base_top ts = frame_pointer + F.size + length ts + 1

      -- An instruction that changes the topmost cell.
      changed_at : (pc : ℕ) (ts free : List Cell) (l : Line) (x c : Cell) → pc ≤ largest → Has words places pc l
          → execute m l.0 (regs (pc + 1) (base_top ts) frame_pointer F.ep (F.callers + 1) h.budget) (flat m first F h ts ++ x ∷ free) ≡ Ok (Some (regs (pc + 1) (base_top ts) frame_pointer F.ep (F.callers + 1) h.budget, flat m first F h ts ++ c ∷ free))
          → Good (at (pc + 1) h (ts ++ c ∷ []) free) → Good (at pc h (ts ++ x ∷ []) free)
      changed_at pc ts free l x c low has does good =
          moved pc pc (base_top ts) _ _ _ _ _ refl (omega (arith, length_push ts x)) (sym (one_top ts free x))
          (onward pc _ _ _ _ _ _ l _ low has does
          (moved (pc + 1) (pc + 1) _ _ _ _ _ _ refl (omega (arith, length_push ts c)) (one_top ts free c) good))

      -- One that stops there.
      stopped_at : (pc : ℕ) (ts free : List Cell) (l : Line) (x : Cell) (e : Stop) → pc ≤ largest → Has words places pc l
          → execute m l.0 (regs (pc + 1) (base_top ts) frame_pointer F.ep (F.callers + 1) h.budget) (flat m first F h ts ++ x ∷ free) ≡ Err e
          → Fails e l.1 h.sheet h.budget → Good (at pc h (ts ++ x ∷ []) free)
      stopped_at pc ts free l x e low has does fails =
          moved pc pc (base_top ts) _ _ _ _ _ refl (omega (arith, length_push ts x)) (sym (one_top ts free x))
          (stopped pc _ _ _ _ _ _ l e h.sheet low has does (ap (λ s. take g (drop 1 s)) (sym (one_top ts free x)) ∙ flat_sheet g k m first F h sized ((ts ++ x ∷ []) ++ free)) fails)

      top_long : (ts : List Cell) → length (flat m first F h ts) ≡ base_top ts
      top_long ts = long ts ∙ omega arith

      pub load_at : (pc : ℕ) (ts free : List Cell) (n : ℕ) (c : Cell) → pc ≤ largest → n ≤ largest → Has words places pc (Load, 0) → cell (flat m first F h ((ts ++ m.whole n ∷ []) ++ free)) (pos n) ≡ Ok c → Good (at (pc + 1) h (ts ++ c ∷ []) free) → Good (at pc h (ts ++ m.whole n ∷ []) free)
      load_at pc ts free n c low fits has is =
          changed_at pc ts free (Load, 0) (m.whole n) c low has (load_ok m laws n _ _ _ _ _ _ (flat m first F h ts) free c fits (top_long ts) (ap (λ s. cell s (pos n)) (sym (one_top ts free (m.whole n))) ∙ is))

      pub negate_at : (pc p : ℕ) (ts free : List Cell) (x c : Cell) → pc ≤ largest → Has words places pc (Negate, p) → m.negate x ≡ Ok c → Good (at (pc + 1) h (ts ++ c ∷ []) free) → Good (at pc h (ts ++ x ∷ []) free)
      negate_at pc p ts free x c low has is = changed_at pc ts free (Negate, p) x c low has (negate_ok m laws _ _ _ _ _ _ (flat m first F h ts) free x c (top_long ts) is)

      pub negate_fails : (pc p : ℕ) (ts free : List Cell) (x : Cell) (e : ReckoningStop) → pc ≤ largest → Has words places pc (Negate, p) → m.negate x ≡ Err e → Fails (Reckoned e) p h.sheet h.budget → Good (at pc h (ts ++ x ∷ []) free)
      negate_fails pc p ts free x e low has is = stopped_at pc ts free (Negate, p) x (Reckoned e) low has (negate_stops m laws _ _ _ _ _ _ (flat m first F h ts) free x e (top_long ts) is)

      pub not_at : (pc p : ℕ) (ts free : List Cell) (x : Cell) (so : Bool) → pc ≤ largest → Has words places pc (Not, p) → m.test x ≡ Ok so → Good (at (pc + 1) h (ts ++ m.whole (cond so 0 1) ∷ []) free) → Good (at pc h (ts ++ x ∷ []) free)
      not_at pc p ts free x so low has is = changed_at pc ts free (Not, p) x (m.whole (cond so 0 1)) low has (not_ok m laws _ _ _ _ _ _ (flat m first F h ts) free x so (top_long ts) is)

      pub not_fails : (pc p : ℕ) (ts free : List Cell) (x : Cell) (e : ReckoningStop) → pc ≤ largest → Has words places pc (Not, p) → m.test x ≡ Err e → Fails (Reckoned e) p h.sheet h.budget → Good (at pc h (ts ++ x ∷ []) free)
      not_fails pc p ts free x e low has is = stopped_at pc ts free (Not, p) x (Reckoned e) low has (not_stops m laws _ _ _ _ _ _ (flat m first F h ts) free x e (top_long ts) is)

      pub check_at : (pc p n i : ℕ) (ts free : List Cell) (x : Cell) → pc ≤ largest → Has words places pc (Check (pos n), p) → m.place x ≡ Some i → i < n → Good (at (pc + 1) h (ts ++ x ∷ []) free) → Good (at pc h (ts ++ x ∷ []) free)
      check_at pc p n i ts free x low has is fits = changed_at pc ts free (Check (pos n), p) x x low has (check_ok m laws n _ _ _ _ _ _ i (flat m first F h ts) free x (top_long ts) is fits)

      pub check_fails : (pc p n i : ℕ) (ts free : List Cell) (x : Cell) → pc ≤ largest → Has words places pc (Check (pos n), p) → m.place x ≡ Some i → n ≤ i → Fails Index p h.sheet h.budget → Good (at pc h (ts ++ x ∷ []) free)
      check_fails pc p n i ts free x low has is past = stopped_at pc ts free (Check (pos n), p) x Index low has (check_past m laws n _ _ _ _ _ _ i (flat m first F h ts) free x (top_long ts) is past)

      pub check_missing : (pc p n : ℕ) (ts free : List Cell) (x : Cell) → pc ≤ largest → Has words places pc (Check (pos n), p) → m.place x ≡ None → Fails Index p h.sheet h.budget → Good (at pc h (ts ++ x ∷ []) free)
      check_missing pc p n ts free x low has is = stopped_at pc ts free (Check (pos n), p) x Index low has (check_none m laws n _ _ _ _ _ _ (flat m first F h ts) free x (top_long ts) is)

      pub operate_at : (o : Operator) (pc p : ℕ) (ts free : List Cell) (x y c : Cell) → pc ≤ largest → Has words places pc (Operate o, p) → applied m o x y ≡ Ok c → Good (at (pc + 1) h (ts ++ c ∷ []) (y ∷ free)) → Good (at pc h ((ts ++ x ∷ []) ++ y ∷ []) free)
      operate_at o pc p ts free x y c low has is good =
          moved pc pc (base_top ts + 1) _ _ _ _ _ refl (omega (arith, length_push ts x, length_push (ts ++ x ∷ []) y)) (sym (two_tops ts free x y))
          (onward pc _ _ _ _ _ _ (Operate o, p) _ low has (binary_ok m laws o _ (base_top ts) _ _ _ _ (flat m first F h ts) free x y c (top_long ts) is)
          (moved (pc + 1) (pc + 1) _ _ _ _ _ _ refl (omega (arith, length_push ts c)) (one_top ts (y ∷ free) c) good))

      pub operate_fails : (o : Operator) (pc p : ℕ) (ts free : List Cell) (x y : Cell) (e : ReckoningStop) → pc ≤ largest → Has words places pc (Operate o, p) → applied m o x y ≡ Err e → Fails (Reckoned e) p h.sheet h.budget → Good (at pc h ((ts ++ x ∷ []) ++ y ∷ []) free)
      operate_fails o pc p ts free x y e low has is fails =
          moved pc pc (base_top ts + 1) _ _ _ _ _ refl (omega (arith, length_push ts x, length_push (ts ++ x ∷ []) y)) (sym (two_tops ts free x y))
          (stopped pc _ _ _ _ _ _ (Operate o, p) (Reckoned e) h.sheet low has (binary_stops m laws o _ (base_top ts) _ _ _ _ (flat m first F h ts) free x y e (top_long ts) is) (ap (λ s. take g (drop 1 s)) (sym (two_tops ts free x y)) ∙ flat_sheet g k m first F h sized _) fails)

      pub pop_at : (pc : ℕ) (ts free : List Cell) (x : Cell) → pc ≤ largest → Room g N F 0 (ts ++ x ∷ []) free → Has words places pc (Pop, 0) → Good (at (pc + 1) h ts (x ∷ free)) → Good (at pc h (ts ++ x ∷ []) free)
      pop_at pc ts free x low room has good =
          let many = length_push ts x in
          moved pc pc (frame_pointer + F.size + length ts + 1) _ _ _ _ _ refl (omega arith) (sym (flat_push m first F h ts free x))
          (onward pc _ _ _ _ _ _ (Pop, 0) _ low has (pop_ok m laws _ _ _ _ _ _ _ (omega arith)) good)

    -- the address of the variable at an offset
    abbrev pub address : Region → ℕ → ℕ
    address on_sheet j = j + 1
    address in_frame j = frame_pointer + (j + 1)

    -- all below the function's variables
    abbrev below : Memory Cell → List Cell
    below h = first ∷ (h.sheet ++ (F.under ++ m.whole 0 ∷ m.whole F.old_ep ∷ m.whole F.old_fp ∷ m.whole F.back ∷ []))

    flat_below : (h : Memory Cell) (xs : List Cell) → flat m first F h xs ≡ below h ++ (h.frame ++ xs)
    flat_below h xs = simp append_assoc

    below_long : (h : Memory Cell) → Sized g k F h → length (below h) ≡ frame_pointer + 1
    below_long h sized = simp length-append (omega arith)

    -- what the variable at an offset holds
    pub cell_of : (r : Region) (h : Memory Cell) (j : ℕ) (xs : List Cell) → Sized g k F h → j < room g F.size r → cell (flat m first F h xs) (pos (address r j)) ≡ Ok (get_or (cells_in r h) j (m.whole 0))
    cell_of on_sheet h j xs sized low =
        let there : j < length h.sheet = omega arith in
        cell_seam (first ∷ []) _ 1 j (j + 1) _ refl (omega arith) (nth_before_seam h.sheet _ j there ∙ slice_get-get_or h.sheet j (m.whole 0) there)
    cell_of in_frame h j xs sized low =
        let there : j < length h.frame = omega arith in
        ap (λ s. cell s (pos (frame_pointer + (j + 1)))) (flat_below h xs)
        ∙ cell_seam (below h) (h.frame ++ xs) (frame_pointer + 1) j (frame_pointer + (j + 1)) _ (below_long h sized) (omega arith) (nth_before_seam h.frame xs j there ∙ slice_get-get_or h.frame j (m.whole 0) there)

    pub put_of : (r : Region) (h : Memory Cell) (j : ℕ) (xs : List Cell) (v : Cell) → Sized g k F h → j < room g F.size r → put (flat m first F h xs) (pos (address r j)) v ≡ Ok (flat m first F (with_cells r (set (cells_in r h) j v) h) xs)
    put_of on_sheet h j xs v sized low =
        let there : j < length h.sheet = omega arith in
        put_seam (first ∷ []) (h.sheet ++ _) 1 j (j + 1) v refl (omega arith) (simp length-append (omega arith))
        ∙ ap (λ t. Ok (first ∷ t)) (set_before_seam h.sheet _ j v there)
    put_of in_frame h j xs v sized low =
        let there : j < length h.frame = omega arith in
        ap (λ s. put s (pos (frame_pointer + (j + 1))) v) (flat_below h xs)
        ∙ put_seam (below h) (h.frame ++ xs) (frame_pointer + 1) j (frame_pointer + (j + 1)) v (below_long h sized) (omega arith) (simp length-append (omega arith))
        ∙ ap (λ t. Ok (below h ++ t)) (set_before_seam h.frame xs j v there)
        ∙ ap Ok (sym (flat_below (with_cells in_frame (set h.frame j v) h) xs))

    pub kept_sized : (r : Region) (h : Memory Cell) (j : ℕ) (v : Cell) → Sized g k F h → Sized g k F (with_cells r (set (cells_in r h) j v) h)
    kept_sized on_sheet h j v sized = record { sheet_long = length-set h.sheet j v ∙ sized.sheet_long; frame_long = sized.frame_long; low = sized.low }
    kept_sized in_frame h j v sized = record { sheet_long = sized.sheet_long; frame_long = length-set h.frame j v ∙ sized.frame_long; low = sized.low }

    budget_kept : (r : Region) (h : Memory Cell) (cs : List Cell) → (with_cells r cs h).budget ≡ h.budget
    budget_kept on_sheet h cs = refl
    budget_kept in_frame h cs = refl

    -- A variable is assigned to: its address is popped, and the value stays.
    pub store_at : (r : Region) (h : Memory Cell) (j pc : ℕ) (ts free : List Cell) (v : Cell) → Sized g k F h → pc ≤ largest → j < room g F.size r → address r j ≤ largest → Has words places pc (Store, 0)
        → Good (at (pc + 1) (with_cells r (set (cells_in r h) j v) h) (ts ++ v ∷ []) (m.whole (address r j) ∷ free)) → Good (at pc h ((ts ++ v ∷ []) ++ m.whole (address r j) ∷ []) free)
    store_at r h j pc ts free v sized low inside small has good =
        let w : Cell = m.whole (address r j) in
        let h' : Memory Cell = with_cells r (set (cells_in r h) j v) h in
        moved pc pc (base_top h sized ts + 1) _ _ _ _ _ refl (omega (arith, length_push ts v, length_push (ts ++ v ∷ []) w)) (sym (two_tops h sized ts free v w))
        (onward pc _ _ _ _ _ _ (Store, 0) _ low has (store_ok m laws (address r j) _ (base_top h sized ts) _ _ _ _ (flat m first F h ts) free (flat m first F h' (((ts ++ v ∷ []) ++ w ∷ []) ++ free)) v small (top_long h sized ts) (ap (λ s. put s (pos (address r j)) v) (sym (two_tops h sized ts free v w)) ∙ put_of r h j _ v sized inside))
        (subst (λ b. Good (regs (pc + 1) (base_top h sized ts) frame_pointer F.ep (F.callers + 1) b, flat m first F h' (((ts ++ v ∷ []) ++ w ∷ []) ++ free))) (budget_kept r h _)
        (moved (pc + 1) (pc + 1) _ _ _ _ _ _ refl (omega (arith, length_push ts v)) (sym (flat_push m first F h' (ts ++ v ∷ []) free w)) good)))

    -- The four cells that a call saves: the result, the extreme pointer, the frame pointer, and one that the call fills.
    abbrev saves : Cell → List Cell
    saves c = m.whole 0 ∷ m.whole F.ep ∷ m.whole frame_pointer ∷ c ∷ []

    mark_at : (h : Memory Cell) (sized : Sized g k F h) (pc : ℕ) (ts free : List Cell) → pc ≤ largest → Has words places pc (Mark, 0) → Room g N F 4 ts free → ((c : Cell) (rest : List Cell) → length rest + 4 ≡ length free → Good (at (pc + 1) h (ts ++ saves c) rest)) → Good (at pc h ts free)
    mark_at h sized pc ts [] low has roomy good = absurd (omega arith)
    mark_at h sized pc ts (x ∷ []) low has roomy good = absurd (omega arith)
    mark_at h sized pc ts (x ∷ y ∷ []) low has roomy good = absurd (omega arith)
    mark_at h sized pc ts (x ∷ y ∷ z ∷ []) low has roomy good = absurd (omega arith)
    mark_at h sized pc ts (x ∷ y ∷ z ∷ c ∷ ys) low has roomy good =
        let four = length-append ts (saves c) in
        moved pc pc _ _ _ _ _ _ refl refl (sym (flat_split m first F h ts (x ∷ y ∷ z ∷ c ∷ ys)))
        (onward pc _ _ _ _ _ _ (Mark, 0) _ low has (mark_ok m laws (pc + 1) _ _ _ _ _ (flat m first F h ts) (c ∷ ys) x y z sound.own_small (omega arith) (long h sized ts ∙ omega arith) (omega arith))
        (moved (pc + 1) (pc + 1) _ _ _ _ _ _ refl (omega arith) (ap (flat m first F h) (append_assoc ts (saves c) ys) ∙ flat_split m first F h ts (saves c ++ ys))
        (good c ys (omega arith))))

    -- the same, at an address written otherwise
    elsewhere : (pc pc' : ℕ) (h : Memory Cell) (ts free : List Cell) → pc ≡ pc' → Good (at pc h ts free) → Good (at pc' h ts free)
    elsewhere pc pc' h ts free e good = subst (λ i. Good (at i h ts free)) e good

    address_small : (r : Region) (j q : ℕ) (ts free : List Cell) → j < room g F.size r → Room g N F q ts free → address r j ≤ largest
    address_small on_sheet j q ts free low roomy = omega arith
    address_small in_frame j q ts free low roomy = omega arith

    base_at : (r : Region) (j pc : ℕ) (h : Memory Cell) (ts free : List Cell) → Sized g k F h → pc ≤ largest → address r j ≤ largest → Has words places pc (base r j, 0) → Room g N F 1 ts free
        → ((rest : List Cell) → length rest + 1 ≡ length free → Good (at (pc + 1) h (ts ++ m.whole (address r j) ∷ []) rest)) → Good (at pc h ts free)
    base_at on_sheet j pc h ts free sized low small has roomy good = constant_at h sized pc ts free (j + 1) low small has roomy good
    base_at in_frame j pc h ts free sized low small has roomy good = relative_at h sized pc ts free (pos (j + 1)) (frame_pointer + (j + 1)) low refl small has roomy good

    module _ (rs : List Routine) (starts : List ℕ) (L : Level Cell) (starts_small : (f : ℕ) → get_or starts f 0 ≤ largest) (callee-ok : CalleeOk N k first rs starts L) where
      -- an expression gives its value on top
      abbrev Given : ℕ → List Cell → List Cell → Cell → Memory Cell → Type 0
      Given pc ts free v h = Sized g k F h → (rest : List Cell) → length rest + 1 ≡ length free → Good (at pc h (ts ++ v ∷ []) rest)

      -- subscripts lead to the address of an element, on top
      abbrev Reached : Region → ℕ → List Cell → List Cell → ℕ → Memory Cell → Type 0
      Reached r pc ts free a h = Sized g k F h → a < room g F.size r → (rest : List Cell) → length rest ≡ length free → Good (at pc h (ts ++ m.whole (address r a) ∷ []) rest)

      -- arguments lie one above the other
      abbrev Stacked : ℕ → List Cell → List Cell → ℕ → List Cell → Memory Cell → Type 0
      Stacked pc ts free n xs h = Sized g k F h → length xs ≡ n → (rest : List Cell) → length rest + n ≡ length free → Good (at pc h (ts ++ xs) rest)

      abbrev active : ℕ
      active = F.callers + 1

      operated : (o : Operator) (p pc pc' : ℕ) (ts free free' : List Cell) (x y : Cell) (h : Memory Cell) (res : Result Cell ReckoningStop) → applied m o x y ≡ res → Sized g k F h → pc ≤ largest → Has words places pc (Operate o, p) → pc + 1 ≡ pc' → length free + 2 ≡ length free' → Meets (reckon p res h) (Given pc' ts free') → Good (at pc h ((ts ++ x ∷ []) ++ y ∷ []) free)
      operated o p pc pc' ts free free' x y h (Ok c) is sized low has to long meets = operate_at h sized o pc p ts free x y c low has is (elsewhere pc' (pc + 1) h _ _ (sym to) (meets sized (y ∷ free) (omega arith)))
      operated o p pc pc' ts free free' x y h (Err e) is sized low has to long meets = operate_fails h sized o pc p ts free x y e low has is meets

      negated : (p pc pc' : ℕ) (ts free free' : List Cell) (x : Cell) (h : Memory Cell) (res : Result Cell ReckoningStop) → m.negate x ≡ res → Sized g k F h → pc ≤ largest → Has words places pc (Negate, p) → pc + 1 ≡ pc' → length free + 1 ≡ length free' → Meets (reckon p res h) (Given pc' ts free') → Good (at pc h (ts ++ x ∷ []) free)
      negated p pc pc' ts free free' x h (Ok c) is sized low has to long meets = negate_at h sized pc p ts free x c low has is (elsewhere pc' (pc + 1) h _ _ (sym to) (meets sized free long))
      negated p pc pc' ts free free' x h (Err e) is sized low has to long meets = negate_fails h sized pc p ts free x e low has is meets

      inverted : (p pc pc' : ℕ) (ts free free' : List Cell) (x : Cell) (h : Memory Cell) (res : Result Bool ReckoningStop) → m.test x ≡ res → Sized g k F h → pc ≤ largest → Has words places pc (Not, p) → pc + 1 ≡ pc' → length free + 1 ≡ length free' → Meets (follow (reckon p res h) (λ so h'. gives (m.whole (cond so 0 1)) h')) (Given pc' ts free') → Good (at pc h (ts ++ x ∷ []) free)
      inverted p pc pc' ts free free' x h (Ok so) is sized low has to long meets = not_at h sized pc p ts free x so low has is (elsewhere pc' (pc + 1) h _ _ (sym to) (meets sized free long))
      inverted p pc pc' ts free free' x h (Err e) is sized low has to long meets = not_fails h sized pc p ts free x e low has is meets

      -- An index is checked.
      checked : {X : Type 0} (p n pc : ℕ) (ts free : List Cell) (x : Cell) (h : Memory Cell) (then : ℕ → Reads Cell X) (Q : X → Memory Cell → Type 0) → Sized g k F h → pc ≤ largest → Has words places pc (Check (pos n), p)
          → ((i : ℕ) → m.place x ≡ Some i → i < n → Meets (then i h) Q → Good (at (pc + 1) h (ts ++ x ∷ []) free))
          → Meets (follow (within p n (m.place x) h) then) Q → Good (at pc h (ts ++ x ∷ []) free)
      checked {X} p n pc ts free x h then Q sized low has good = placed (m.place x) refl
        where
          told : (i : ℕ) → m.place x ≡ Some i → (b : Bool) → ltb i n ≡ b → Meets (follow (cond {A = Reads Cell ℕ} b (pure i) (stop Index p) h) then) Q → Good (at pc h (ts ++ x ∷ []) free)
          told i is true lower meets = check_at h sized pc p n i ts free x low has is (ltb-true i n lower) (good i is (ltb-true i n lower) meets)
          told i is false past meets = check_fails h sized pc p n i ts free x low has is (ltb-false i n past) meets

          placed : (o : Option ℕ) → m.place x ≡ o → Meets (follow (within p n o h) then) Q → Good (at pc h (ts ++ x ∷ []) free)
          placed (Some i) is meets = told i is (ltb i n) refl meets
          placed None is meets = check_missing h sized pc p n ts free x low has is meets

      later : (r : Region) (a d : ℕ) → address r a + d ≡ address r (a + d)
      later on_sheet a d = omega arith
      later in_frame a d = omega arith

      -- From an array's address and an index to an element's address.
      scaled : (r : Region) (a i each pc : ℕ) (ts free : List Cell) (x : Cell) (h : Memory Cell) → Sized g k F h → pc + 3 ≤ largest
          → Has words places pc (LoadConstant (pos each), 0) → Has words places (pc + 1) (Operate Multiply, 0) → Has words places (pc + 1 + 1) (Operate Add, 0)
          → m.place x ≡ Some i → each ≤ largest → address r (a + i * each) ≤ largest → Room g N F 1 ((ts ++ m.whole (address r a) ∷ []) ++ x ∷ []) free
          → ((rest : List Cell) → length rest ≡ length free + 1 → Good (at (pc + 3) h (ts ++ m.whole (address r (a + i * each)) ∷ []) rest))
          → Good (at pc h ((ts ++ m.whole (address r a) ∷ []) ++ x ∷ []) free)
      scaled r a i each pc ts free x h sized low one two three is small inside roomy good =
          let known = laws.whole_place x i is in
          let along = later r a (i * each) in
          let product : m.multiply x (m.whole each) ≡ Ok (m.whole (i * each)) = ap (λ c. m.multiply c (m.whole each)) known.1 ∙ laws.product i each known.0 small (omega arith) in
          let sum : m.add (m.whole (address r a)) (m.whole (i * each)) ≡ Ok (m.whole (address r (a + i * each))) = laws.sum (address r a) (i * each) (omega arith) ∙ ap (λ n. Ok (m.whole n)) along in
          constant_at h sized pc _ free each (omega arith) small one roomy (λ rest long.
          operate_at h sized Multiply (pc + 1) 0 (ts ++ m.whole (address r a) ∷ []) rest x (m.whole each) (m.whole (i * each)) (omega arith) two product
          (operate_at h sized Add (pc + 1 + 1) 0 ts (m.whole each ∷ rest) (m.whole (address r a)) (m.whole (i * each)) (m.whole (address r (a + i * each))) (omega arith) three sum
          (elsewhere (pc + 3) _ h _ _ (omega arith) (good (m.whole (i * each) ∷ m.whole each ∷ rest) (omega arith)))))

      four_on : (n : ℕ) → n + 1 + 1 + 1 + 1 ≡ n + 1 + 3
      four_on n = omega arith

      need_one : (js : Subscripts) → 1 ≤ need_subscripts js
      need_one whole_of = omega arith
      need_one (subscript p n each e js) = omega arith

      need_more : (es : Arguments) → arity es + 1 ≤ need_arguments es
      need_more none = omega arith
      need_more (also e es) = let more = need_more es in omega arith

      -- what lies under the callee
      abbrev under_callee : Memory Cell → List Cell → List Cell
      under_callee h ts = F.under ++ (m.whole 0 ∷ m.whole F.old_ep ∷ m.whole F.old_fp ∷ m.whole F.back ∷ (h.frame ++ ts))

      under_long : (h : Memory Cell) (ts : List Cell) → Sized g k F h → length (under_callee h ts) ≡ length F.under + 4 + F.size + length ts
      under_long h ts sized = simp length-append (omega arith)

      moved_all : (pc sp sp' fp fp' ep a b : ℕ) (s s' : List Cell) → sp ≡ sp' → fp ≡ fp' → s ≡ s' → Good (regs pc sp fp ep a b, s) → Good (regs pc sp' fp' ep a b, s')
      moved_all pc sp sp' fp fp' ep a b s s' e f i good = subst (λ (x : ℕ × ℕ × List Cell). Good (regs pc x.0 x.1 ep a b, x.2)) (λ j. (e j, f j, i j)) good

      module _ (f n p pc pc' t : ℕ) (r : Routine) (ts free rest xs : List Cell) (c : Cell) (h : Memory Cell) (sized : Sized g k F h) (at-start : get_or starts f 0 ≡ t) (is-there : slice_get rs f ≡ Some r) (params : r.parameters ≡ n) (many : length xs ≡ n) (to : pc + 1 ≡ pc') (low : pc + 1 ≤ largest) (has : Has words places pc (Call (pos n), p)) (total : g + length F.under + F.size + length ts + length free + 5 ≡ N) (used : length rest + n + 5 ≡ length free) (roomy : n + 5 + (24 - active) * 300 ≤ length free) where
        abbrev Before : Type 0
        Before = Good (at pc h (((ts ++ saves c) ++ xs) ++ m.whole t ∷ []) rest)

        abbrev Calls : Memory Cell → Outcome Cell Cell
        Calls h = back_in h.frame (L.callee (active + 1) f xs h)

        abbrev callee_pointer : ℕ
        callee_pointer = frame_pointer + F.size + length ts + 4

        small : t ≤ largest
        small = subst (λ i. i ≤ largest) at-start (starts_small f)

        -- the store as the call finds it
        found : flat m first F h ((((ts ++ saves c) ++ xs) ++ m.whole t ∷ []) ++ rest) ≡ (flat m first F h ts ++ (m.whole 0 ∷ m.whole F.ep ∷ m.whole frame_pointer ∷ [])) ++ (c ∷ (xs ++ m.whole t ∷ rest))
        found = simp append_assoc

        found_long : length (flat m first F h ts ++ (m.whole 0 ∷ m.whole F.ep ∷ m.whole frame_pointer ∷ [])) ≡ callee_pointer
        found_long = length-append (flat m first F h ts) _ ∙ (let l = long h sized ts in omega arith)

        top_at : callee_pointer + n + 1 ≡ frame_pointer + F.size + length (((ts ++ saves c) ++ xs) ++ m.whole t ∷ [])
        top_at = simp length-append (omega arith)

        abbrev entering : Result ℕ Stop → Result (Option (State Cell)) Stop
        entering paid = goes (paid >>= λ left. Ok (regs t (callee_pointer + n) callee_pointer F.ep (F.callers + 1 + 1) left, (flat m first F h ts ++ (m.whole 0 ∷ m.whole F.ep ∷ m.whole frame_pointer ∷ [])) ++ (m.whole (pc + 1) ∷ (xs ++ m.whole t ∷ rest))))

        does : execute m (Call (pos n)) (regs (pc + 1) (callee_pointer + n + 1) frame_pointer F.ep (F.callers + 1) h.budget) ((flat m first F h ts ++ (m.whole 0 ∷ m.whole F.ep ∷ m.whole frame_pointer ∷ [])) ++ (c ∷ (xs ++ m.whole t ∷ rest))) ≡ entering (admitted (F.callers + 1) h.budget)
        does = call_is m laws n t (pc + 1) callee_pointer frame_pointer F.ep (F.callers + 1) h.budget (flat m first F h ts ++ (m.whole 0 ∷ m.whole F.ep ∷ m.whole frame_pointer ∷ [])) xs rest c found_long many (omega arith) low small

        refused : (e : Stop) → admitted (F.callers + 1) h.budget ≡ Err e → Fails e p h.sheet h.budget → Before
        refused e is fails =
            moved pc pc (callee_pointer + n + 1) _ _ _ _ _ refl top_at (sym found)
            (stopped pc _ _ _ _ _ _ (Call (pos n), p) e h.sheet (omega arith) has (does ∙ ap entering is) (ap (λ s. take g (drop 1 s)) (sym found) ∙ flat_sheet g k m first F h sized _) fails)

        -- the store as the callee finds it, and as the caller finds it back
        entered_store : first ∷ (h.sheet ++ (under_callee h ts ++ (m.whole 0 ∷ m.whole F.ep ∷ m.whole frame_pointer ∷ m.whole (pc + 1) ∷ (xs ++ m.whole t ∷ rest)))) ≡ (flat m first F h ts ++ (m.whole 0 ∷ m.whole F.ep ∷ m.whole frame_pointer ∷ [])) ++ (m.whole (pc + 1) ∷ (xs ++ m.whole t ∷ rest))
        entered_store = simp append_assoc

        left_store : (h2 : Memory Cell) (v : Cell) (more : List Cell) → flat m first F (with_frame h.frame h2) ((ts ++ v ∷ []) ++ more) ≡ first ∷ (h2.sheet ++ (under_callee h ts ++ (v ∷ more)))
        left_store h2 v more = simp append_assoc

        entered : (b : ℕ) → h.budget ≡ suc b → F.callers + 1 < 24 → admitted (F.callers + 1) h.budget ≡ Ok b → Meets (Calls (with_budget b h)) (Given pc' ts free) → Before
        entered b paid few is meets =
            let under = under_long h ts sized in
            moved pc pc (callee_pointer + n + 1) _ _ _ _ _ refl top_at (sym found)
            (onward pc _ _ _ _ _ _ (Call (pos n), p) _ (omega arith) has (does ∙ ap entering is)
            (moved_all t (g + length (under_callee h ts) + 4 + length xs) _ (g + length (under_callee h ts) + 4) _ _ _ _ _ _ (omega arith) (omega arith) entered_store
            (subst (λ i. Good (entry first (under_callee h ts) (pc + 1) frame_pointer F.ep (F.callers + 1) i xs (with_budget b h) (m.whole t ∷ rest))) at-start
            (callee-ok (under_callee h ts) (pc + 1) frame_pointer F.ep (F.callers + 1) f r xs (with_budget b h) (m.whole t ∷ rest) is-there (many ∙ sym params) low (omega arith) sound.own_small sized.sheet_long (omega arith) (omega arith) (omega arith)
            (back_meets h.frame (L.callee (active + 1) f xs (with_budget b h)) (Given pc' ts free) (λ v h2. length h2.sheet ≡ g → h2.budget ≤ k → (more : List Cell) → length more ≡ length xs + length (m.whole t ∷ rest) + 3 → Good (exit first (under_callee h ts) (pc + 1) frame_pointer F.ep (F.callers + 1) v h2 more)) (λ v h2 given sheet_long budget-low back-rest back_long.
            let one = length_push ts v in
            subst (λ i. Good (exit first (under_callee h ts) i frame_pointer F.ep (F.callers + 1) v h2 back-rest)) (sym to)
            (moved_all pc' _ (g + length (under_callee h ts) + 1) _ frame_pointer _ _ _ _ _ (omega arith) refl (left_store h2 v back-rest)
            (given (record { sheet_long = sheet_long; frame_long = sized.frame_long; low = budget-low }) back-rest (omega arith)))) meets)))))

        called : Meets (follow (admit active p h) (λ _. Calls)) (Given pc' ts free) → Before
        called = deep (leb 24 active) refl
          where
            paid : (b : ℕ) → leb 24 active ≡ false → h.budget ≡ b → Meets (follow (pay p b h) (λ _. Calls)) (Given pc' ts free) → Before
            paid zero few is meets = refused Budget (rw (few, is) refl) meets
            paid (suc b) few is meets = entered b is (leb-false 24 active few) (rw (few, is) refl) meets

            deep : (so : Bool) → leb 24 active ≡ so → Meets (follow (cond {A = Reads Cell (Unit {0})} so (stop Depth p) (λ h. pay p h.budget h) h) (λ _. Calls)) (Given pc' ts free) → Before
            deep true is meets = refused Depth (rw is refl) meets
            deep false is meets = paid h.budget is refl meets

      mutual
        pub expression_ok : (e : Expression) (pc : ℕ) (h : Memory Cell) (ts free : List Cell) → Fits rs g F.size e → Stands words places pc (code_expression starts e) → pc + length (code_expression starts e) ≤ largest → Sized g k F h → Room g N F (need_expression e) ts free
            → Meets (read_expression m L active e h) (Given (pc + length (code_expression starts e)) ts free) → Good (at pc h ts free)
        expression_ok (constant n) pc h ts free fits stands ends sized roomy meets =
            constant_at h sized pc ts free n (omega arith) fits stands.0 roomy (λ rest long. meets sized rest long)
        expression_ok (value r j js) pc h ts free fits stands ends sized roomy meets =
            let cs = code_subscripts starts js in
            let sizes : length (((base r j, 0) ∷ cs) ++ (Load, 0) ∷ []) ≡ length cs + 2 = simp length-append (omega arith) in
            let more = need_one js in
            base_at r j pc h ts free sized (omega arith) (address_small r j _ ts free (starts_inside rs g F.size (room g F.size r) js j fits) roomy) stands.0 (omega arith) (λ rest long.
            subscripts_ok js r j (pc + 1) h ts rest fits (stands_left words places (pc + 1) cs _ stands.1) (omega arith) sized (omega arith) (omega arith)
            (after (read_subscripts m L active js j h) _ _ _ (λ a h1 meets1 sized1 inside rest1 long1.
            load_at h1 sized1 (pc + 1 + length cs) ts rest1 (address r a) (get_or (cells_in r h1) a (m.whole 0)) (omega arith) (address_small r a _ ts free inside roomy) (stands_right words places (pc + 1) cs _ stands.1).0 (cell_of r h1 a _ sized1 inside)
            (elsewhere _ _ h1 _ rest1 (omega arith) (meets1 sized1 rest1 (omega arith)))) meets))
        expression_ok (assignment r j js e) pc h ts free fits stands ends sized roomy meets =
            let ce = code_expression starts e in
            let cs = code_subscripts starts js in
            let sizes : length (ce ++ (((base r j, 0) ∷ cs) ++ (Store, 0) ∷ [])) ≡ length ce + length cs + 2 = simp length-append (omega arith) in
            let more = need_one js in
            let behind = stands_right words places pc ce _ stands in
            expression_ok e pc h ts free fits.1 (stands_left words places pc ce _ stands) (omega arith) sized (omega arith)
            (after (read_expression m L active e h) _ _ _ (λ v h1 meets1 sized1 rest1 long1.
            let one = length_push ts v in
            base_at r j (pc + length ce) h1 (ts ++ v ∷ []) rest1 sized1 (omega arith) (address_small r j _ ts free (starts_inside rs g F.size (room g F.size r) js j fits.0) roomy) behind.0 (omega arith) (λ rest2 long2.
            subscripts_ok js r j (pc + length ce + 1) h1 (ts ++ v ∷ []) rest2 fits.0 (stands_left words places _ cs _ behind.1) (omega arith) sized1 (omega arith) (omega arith)
            (after (read_subscripts m L active js j h1) _ _ _ (λ a h2 meets2 sized2 inside rest3 long3.
            store_at r h2 a (pc + length ce + 1 + length cs) ts rest3 v sized2 (omega arith) inside (address_small r a _ ts free inside roomy) (stands_right words places _ cs _ behind.1).0
            (elsewhere _ _ _ _ _ (omega arith) (meets2 (kept_sized r h2 a v sized2) (m.whole (address r a) ∷ rest3) (omega arith)))) meets1))) meets)
        expression_ok (invocation f p es) pc h ts free fits stands ends sized roomy meets =
            let cs = code_arguments starts es in
            let t : ℕ = get_or starts f 0 in
            let sizes : length (((Mark, 0) ∷ cs) ++ (LoadConstant (pos t), 0) ∷ (Call (pos (arity es)), p) ∷ []) ≡ length cs + 3 = simp length-append (omega arith) in
            let more = need_more es in
            let behind = stands_right words places (pc + 1) cs _ stands.1 in
            mark_at h sized pc ts free (omega arith) stands.0 (omega arith) (λ c rest long_rest.
            let four = length-append ts (saves c) in
            arguments_ok es (pc + 1) h (ts ++ saves c) rest fits.1 (stands_left words places (pc + 1) cs _ stands.1) (omega arith) sized (omega arith)
            (after (read_arguments m L active es h) _ _ _ (λ xs h1 meets1 sized1 many rest1 long1.
            let all = length-append (ts ++ saves c) xs in
            constant_at h1 sized1 (pc + 1 + length cs) ((ts ++ saves c) ++ xs) rest1 t (omega arith) (starts_small f) behind.0 (omega arith) (λ rest2 long2.
            called f (arity es) p (pc + 1 + length cs + 1) _ t fits.0.0 ts free rest2 xs c h1 sized1 refl fits.0.1 fits.0.2 many (omega arith) (omega arith) behind.1.0 (omega arith) (omega arith) (omega arith) meets1)) meets))
        expression_ok (negation p e) pc h ts free fits stands ends sized roomy meets =
            let ce = code_expression starts e in
            let sizes : length (ce ++ (Negate, p) ∷ []) ≡ length ce + 1 = simp length-append (omega arith) in
            expression_ok e pc h ts free fits (stands_left words places pc ce _ stands) (omega arith) sized roomy
            (after (read_expression m L active e h) _ _ _ (λ x h1 meets1 sized1 rest1 long1.
            negated p (pc + length ce) _ ts rest1 free x h1 (m.negate x) refl sized1 (omega arith) (stands_right words places pc ce _ stands).0 (omega arith) long1 meets1) meets)
        expression_ok (inversion p e) pc h ts free fits stands ends sized roomy meets =
            let ce = code_expression starts e in
            let sizes : length (ce ++ (Not, p) ∷ []) ≡ length ce + 1 = simp length-append (omega arith) in
            expression_ok e pc h ts free fits (stands_left words places pc ce _ stands) (omega arith) sized roomy
            (after (read_expression m L active e h) _ _ _ (λ x h1 meets1 sized1 rest1 long1.
            inverted p (pc + length ce) _ ts rest1 free x h1 (m.test x) refl sized1 (omega arith) (stands_right words places pc ce _ stands).0 (omega arith) long1 meets1) meets)
        expression_ok (operation o p l r) pc h ts free fits stands ends sized roomy meets =
            let cl = code_expression starts l in
            let cr = code_expression starts r in
            let sizes : length (cl ++ (cr ++ (Operate o, p) ∷ [])) ≡ length cl + length cr + 1 = simp length-append (omega arith) in
            let behind = stands_right words places pc cl _ stands in
            expression_ok l pc h ts free fits.0 (stands_left words places pc cl _ stands) (omega arith) sized (omega arith)
            (after (read_expression m L active l h) _ _ _ (λ x h1 meets1 sized1 rest1 long1.
            let one = length_push ts x in
            expression_ok r (pc + length cl) h1 (ts ++ x ∷ []) rest1 fits.1 (stands_left words places _ cr _ behind) (omega arith) sized1 (omega arith)
            (after (read_expression m L active r h1) _ _ _ (λ y h2 meets2 sized2 rest2 long2.
            operated o p (pc + length cl + length cr) _ ts rest2 free x y h2 (applied m o x y) refl sized2 (omega arith) (stands_right words places _ cr _ behind).0 (omega arith) (omega arith) meets2) meets1)) meets)

        pub subscripts_ok : (js : Subscripts) (r : Region) (a pc : ℕ) (h : Memory Cell) (ts free : List Cell) → Inside rs g F.size (room g F.size r) js a → Stands words places pc (code_subscripts starts js) → pc + length (code_subscripts starts js) ≤ largest → Sized g k F h → g + length F.under + F.size + length ts + length free + 6 ≡ N → need_subscripts js + (24 - active) * 300 ≤ length free + 1
            → Meets (read_subscripts m L active js a h) (Reached r (pc + length (code_subscripts starts js)) ts free) → Good (at pc h (ts ++ m.whole (address r a) ∷ []) free)
        subscripts_ok whole_of r a pc h ts free inside stands ends sized total roomy meets = elsewhere (pc + 0) pc h _ free (add-zero pc) (meets sized inside free refl)
        subscripts_ok (subscript p n each e js) r a pc h ts free inside stands ends sized total roomy meets =
            let ce = code_expression starts e in
            let cs = code_subscripts starts js in
            let w : Cell = m.whole (address r a) in
            let sizes : length (ce ++ ((Check (pos n), p) ∷ (LoadConstant (pos each), 0) ∷ (Operate Multiply, 0) ∷ (Operate Add, 0) ∷ cs)) ≡ length ce + length cs + 4 = simp length-append (omega arith) in
            let behind = stands_right words places pc ce _ stands in
            let one = length_push ts w in
            expression_ok e pc h (ts ++ w ∷ []) free inside.0 (stands_left words places pc ce _ stands) (omega arith) sized (omega arith)
            (after (read_expression m L active e h) _ _ _ (λ x h1 meets1 sized1 rest1 long1.
            checked p n (pc + length ce) (ts ++ w ∷ []) rest1 x h1 _ _ sized1 (omega arith) behind.0 (λ i is low meets2.
            let reach = inside.3 i low in
            let two = length_push (ts ++ w ∷ []) x in
            scaled r a i each (pc + length ce + 1) ts rest1 x h1 sized1 (omega arith) behind.1.0 behind.1.1.0 behind.1.1.1.0 is inside.2 (address_small r (a + i * each) 0 (ts ++ w ∷ []) free reach.0 (omega arith)) (omega arith) (λ rest2 long2.
            subscripts_ok js r (a + i * each) (pc + length ce + 1 + 3) h1 ts rest2 reach.1 (subst (λ i. Stands words places i cs) (four_on (pc + length ce)) behind.1.1.1.1) (omega arith) sized1 (omega arith) (omega arith)
            (weaken (read_subscripts m L active js (a + i * each) h1) _ _ (λ b h2 meets3 sized2 inside2 rest3 long3. elsewhere _ _ h2 _ rest3 (omega arith) (meets3 sized2 inside2 rest3 (omega arith))) meets2))) meets1) meets)

        pub arguments_ok : (es : Arguments) (pc : ℕ) (h : Memory Cell) (ts free : List Cell) → FitArgs rs g F.size es → Stands words places pc (code_arguments starts es) → pc + length (code_arguments starts es) ≤ largest → Sized g k F h → Room g N F (need_arguments es) ts free
            → Meets (read_arguments m L active es h) (Stacked (pc + length (code_arguments starts es)) ts free (arity es)) → Good (at pc h ts free)
        arguments_ok none pc h ts free fits stands ends sized roomy meets =
            elsewhere (pc + 0) pc h ts free (add-zero pc) (subst (λ us. Good (at (pc + 0) h us free)) (append-nil ts) (meets sized refl free (omega arith)))
        arguments_ok (also e es) pc h ts free fits stands ends sized roomy meets =
            let ce = code_expression starts e in
            let cs = code_arguments starts es in
            let sizes : length (ce ++ cs) ≡ length ce + length cs = length-append ce cs in
            expression_ok e pc h ts free fits.0 (stands_left words places pc ce _ stands) (omega arith) sized (omega arith)
            (after (read_expression m L active e h) _ _ _ (λ x h1 meets1 sized1 rest1 long1.
            let one = length_push ts x in
            arguments_ok es (pc + length ce) h1 (ts ++ x ∷ []) rest1 fits.1 (stands_right words places pc ce _ stands) (omega arith) sized1 (omega arith)
            (after (read_arguments m L active es h1) _ _ _ (λ xs h2 meets2 sized2 many rest2 long2.
            subst (λ us. Good (at (pc + length ce + length cs) h2 us rest2)) (sym (append_assoc ts (x ∷ []) xs))
            (elsewhere _ _ h2 _ rest2 (omega arith) (meets2 sized2 (omega arith) rest2 (omega arith)))) meets1)) meets)

      -- A function is left with a value, whatever then lies above it.
      abbrev pub Leaves : Cell → Memory Cell → Type 0
      Leaves v h = (rest : List Cell) → g + length F.under + length rest + 2 ≡ N → Good (exit first F.under F.back F.old_fp F.old_ep F.callers v h rest)

      -- A statement goes on behind its code, or the function is left.
      abbrev pub Ended : ℕ → List Cell → Option Cell → Memory Cell → Type 0
      Ended pc free None h = Sized g k F h → (rest : List Cell) → length rest ≡ length free → Good (at pc h [] rest)
      Ended pc free (Some v) h = Sized g k F h → Leaves v h

      -- Loops below a level do what their reading says.
      abbrev pub AgainOk : Type 0
      AgainOk = (s : Statement) (pc : ℕ) (h : Memory Cell) (free : List Cell) → FitStatement rs g F.size s → Stands words places pc (code_statement starts pc s) → pc + length (code_statement starts pc s) ≤ largest → Sized g k F h → h.budget < k → Room g N F (need_statement s) [] free
          → Meets (L.again active s h) (Ended (pc + length (code_statement starts pc s)) free) → Good (at pc h [] free)

      leave_at : (pc sp : ℕ) (h : Memory Cell) (v : Cell) (ys : List Cell) → pc ≤ largest → Sized g k F h → g + length F.under + length ys + 5 ≡ N → Has words places pc (Return, 0) → Leaves v h
          → Good (regs pc sp frame_pointer F.ep (F.callers + 1) h.budget, first ∷ (h.sheet ++ (F.under ++ (v ∷ m.whole F.old_ep ∷ m.whole F.old_fp ∷ m.whole F.back ∷ ys))))
      leave_at pc sp h v ys low sized total has leaves =
          let four : List Cell = v ∷ m.whole F.old_ep ∷ m.whole F.old_fp ∷ m.whole F.back ∷ ys in
          let zs : List Cell = first ∷ (h.sheet ++ F.under) in
          let n : ℕ = g + length F.under + 1 in
          let whole-store : zs ++ four ≡ first ∷ (h.sheet ++ (F.under ++ four)) = simp append_assoc in
          let zs-long : length zs ≡ n = simp length-append (omega arith) in
          let callers : suc F.callers ≡ F.callers + 1 = omega arith in
          let pointer : n + 3 ≡ frame_pointer = omega arith in
          subst (λ (x : ℕ × ℕ × List Cell). Good (regs pc sp x.0 F.ep x.1 h.budget, x.2)) (λ j. (pointer j, callers j, whole-store j))
          (onward pc _ _ _ _ _ _ (Return, 0) _ low has (return_ok m laws (pc + 1) sp n F.ep F.callers h.budget F.back F.old_fp F.old_ep zs ys v zs-long (omega arith) sound.back_small sound.fp_small sound.ep_small)
          (subst (λ t. Good (regs F.back n F.old_fp F.old_ep F.callers h.budget, t)) (sym whole-store)
          (leaves (m.whole F.old_ep ∷ m.whole F.old_fp ∷ m.whole F.back ∷ ys) (omega arith))))

      -- A value is returned: it goes into the result's cell, and the function is left.
      given_back : (pc : ℕ) (h : Memory Cell) (free : List Cell) (v : Cell) → pc + 2 ≤ largest → Sized g k F h → Room g N F 1 (v ∷ []) free
          → Has words places pc (LoadRelative (negsuc 2), 0) → Has words places (pc + 1) (Store, 0) → Has words places (pc + 1 + 1) (Return, 0) → Leaves v h → Good (at pc h (v ∷ []) free)
      given_back pc h free v low sized roomy one two three leaves =
          let n : ℕ = g + length F.under + 1 in
          let zs : List Cell = first ∷ (h.sheet ++ F.under) in
          let back : pos frame_pointer +ℤ negsuc 2 ≡ pos n = omega (arith, ints) in
          let zs-long : length zs ≡ n = simp length-append (omega arith) in
          relative_at h sized pc (v ∷ []) free (negsuc 2) n (omega arith) back (omega arith) one roomy (λ rest long_rest.
          let above : List Cell = m.whole F.old_ep ∷ m.whole F.old_fp ∷ m.whole F.back ∷ (h.frame ++ (v ∷ m.whole n ∷ rest)) in
          let before : zs ++ (m.whole 0 ∷ above) ≡ flat m first F h [] ++ v ∷ m.whole n ∷ rest = simp (append_assoc, append-nil) in
          let split : flat m first F h (v ∷ m.whole n ∷ rest) ≡ flat m first F h [] ++ v ∷ m.whole n ∷ rest = flat_split m first F h [] (v ∷ m.whole n ∷ rest) in
          let wrote : put (flat m first F h [] ++ v ∷ m.whole n ∷ rest) (pos n) v ≡ Ok (zs ++ (v ∷ above)) = ap (λ t. put t (pos n) v) (sym before) ∙ put_seam zs (m.whole 0 ∷ above) n 0 n v zs-long (add-zero n) (omega arith) in
          let result : first ∷ (h.sheet ++ (F.under ++ (v ∷ above))) ≡ zs ++ (v ∷ above) = simp append_assoc in
          let above-long : length (h.frame ++ (v ∷ m.whole n ∷ rest)) ≡ F.size + length rest + 2 = simp length-append (omega arith) in
          moved (pc + 1) (pc + 1) (base_top h sized [] + 1) _ _ _ _ _ refl (omega arith) (sym split)
          (onward (pc + 1) _ _ _ _ _ _ (Store, 0) _ (omega arith) two (store_ok m laws n _ (base_top h sized []) _ _ _ _ (flat m first F h []) rest (zs ++ (v ∷ above)) v (omega arith) (top_long h sized []) wrote)
          (subst (λ t. Good (regs (pc + 1 + 1) (base_top h sized []) frame_pointer F.ep (F.callers + 1) h.budget, t)) result
          (leave_at (pc + 1 + 1) _ h v (h.frame ++ (v ∷ m.whole n ∷ rest)) (omega arith) sized (omega arith) three leaves))))

      -- A test decides where the run goes on.
      branched : (p pc to : ℕ) (h : Memory Cell) (free : List Cell) (x : Cell) (on off : Reads Cell (Option Cell)) (Q : Option Cell → Memory Cell → Type 0) → Sized g k F h → pc ≤ largest → pc + 1 ≤ to → Room g N F 0 (x ∷ []) free → Has words places pc (JumpZero (pos to), p)
          → (Meets (on h) Q → Good (at (pc + 1) h [] (x ∷ free))) → (Meets (off h) Q → Good (at to h [] (x ∷ free)))
          → Meets (follow (reckon p (m.test x) h) (λ so. cond so on off)) Q → Good (at pc h (x ∷ []) free)
      branched p pc to h free x on off Q sized low ahead roomy has yes-on no-off = decided (m.test x) refl
        where
          top : ℕ
          top = frame_pointer + F.size

          split : flat m first F h (x ∷ free) ≡ flat m first F h [] ++ x ∷ free
          split = flat_split m first F h [] (x ∷ free)

          under_long' : length (flat m first F h []) ≡ frame_pointer + F.size + 1
          under_long' = let l = long h sized [] in omega arith

          decided : (res : Result Bool ReckoningStop) → m.test x ≡ res → Meets (follow (reckon p res h) (λ so. cond so on off)) Q → Good (at pc h (x ∷ []) free)
          decided (Ok true) is meets =
              moved pc pc (frame_pointer + F.size + 1) _ _ _ _ _ refl (omega arith) (sym split)
              (onward pc _ _ _ _ _ _ (JumpZero (pos to), p) _ low has (branch_on m laws to _ _ _ _ _ _ (flat m first F h []) free x under_long' (omega arith) is)
              (moved (pc + 1) (pc + 1) _ _ _ _ _ _ refl (omega arith) split (yes-on meets)))
          decided (Ok false) is meets =
              moved pc pc (frame_pointer + F.size + 1) _ _ _ _ _ refl (omega arith) (sym split)
              (onward pc _ _ _ _ _ _ (JumpZero (pos to), p) _ low has (branch_off m laws to _ _ _ _ _ _ (flat m first F h []) free x under_long' (omega arith) ahead is)
              (moved to to _ _ _ _ _ _ refl (omega arith) split (no-off meets)))
          decided (Err e) is meets =
              moved pc pc (frame_pointer + F.size + 1) _ _ _ _ _ refl (omega arith) (sym split)
              (stopped pc _ _ _ _ _ _ (JumpZero (pos to), p) (Reckoned e) h.sheet low has (branch_stops m laws to _ _ _ _ _ _ (flat m first F h []) free x e under_long' (omega arith) is) (ap (λ t. take g (drop 1 t)) (sym split) ∙ flat_sheet g k m first F h sized (x ∷ free)) meets)

      -- The run goes back to a loop's test, for a unit.
      returned : (p pc to : ℕ) (h : Memory Cell) (free : List Cell) (then : Reads Cell (Option Cell)) (Q : Option Cell → Memory Cell → Type 0) → Sized g k F h → pc ≤ largest → to < pc + 1 → Has words places pc (Jump (pos to), p)
          → ((b : ℕ) → h.budget ≡ suc b → Meets (then (with_budget b h)) Q → Good (at to (with_budget b h) [] free))
          → Meets (follow (spend p h) (λ _. then)) Q → Good (at pc h [] free)
      returned p pc to h free then Q sized low down has good = paid h.budget refl
        where
          around : ℕ → State Cell
          around b = (regs pc (frame_pointer + F.size + 0) frame_pointer F.ep (F.callers + 1) b, flat m first F h free)

          paid : (b : ℕ) → h.budget ≡ b → Meets (follow (pay p b h) (λ _. then)) Q → Good (at pc h [] free)
          paid zero is meets =
              stopped pc _ _ _ _ _ _ (Jump (pos to), p) Budget h.sheet low has (ap (λ b. execute m (Jump (pos to)) (regs (pc + 1) (frame_pointer + F.size + 0) frame_pointer F.ep (F.callers + 1) b) (flat m first F h free)) is ∙ jump_broke m laws to _ _ _ _ _ _ down) (flat_sheet g k m first F h sized free) meets
          paid (suc b) is meets =
              subst (λ b. Good (around b)) (sym is)
              (onward pc _ _ _ _ _ _ (Jump (pos to), p) _ low has (jump_back m laws to _ _ _ _ _ b _ down) (good b is meets))

      -- After a statement the rest is read, unless it returned.
      followed : (pc : ℕ) (free free' : List Cell) (pc' : ℕ) (then : Reads Cell (Option Cell)) (o : Outcome Cell (Option Cell)) → length free' ≡ length free
          → ((h : Memory Cell) (rest : List Cell) → Sized g k F h → length rest ≡ length free → Meets (then h) (Ended pc' free') → Good (at pc h [] rest))
          → Meets (follow o (unless_returned then)) (Ended pc' free') → Meets o (Ended pc free)
      followed pc free free' pc' then (gives (Some v) h) same good meets = meets
      followed pc free free' pc' then (gives None h) same good meets = λ sized rest long_rest. good h rest sized long_rest meets
      followed pc free free' pc' then (stops e p c b) same good meets = meets

      -- An end from which the run comes to another one.
      ended_by : (pc pc' : ℕ) (free free' : List Cell) → length free ≡ length free' → ((h : Memory Cell) (rest : List Cell) → Good (at pc h [] rest) → Good (at pc' h [] rest)) → (o : Outcome Cell (Option Cell)) → Meets o (Ended pc free) → Meets o (Ended pc' free')
      ended_by pc pc' free free' same good (gives (Some v) h) meets = meets
      ended_by pc pc' free free' same good (gives None h) meets = λ sized rest long_rest. good h rest (meets sized rest (omega arith))
      ended_by pc pc' free free' same good (stops st p c b) meets = meets

      ended_at : (pc pc' : ℕ) (free free' : List Cell) → pc ≡ pc' → length free ≡ length free' → (o : Outcome Cell (Option Cell)) → Meets o (Ended pc free) → Meets o (Ended pc' free')
      ended_at pc pc' free free' e same = ended_by pc pc' free free' same (λ h rest. elsewhere pc pc' h [] rest e)

      need_some : (e : Expression) → 1 ≤ need_expression e
      need_some (constant n) = omega arith
      need_some (value r j js) = need_one js
      need_some (assignment r j js e) = omega arith
      need_some (invocation f p es) = omega arith
      need_some (negation p e) = need_some e
      need_some (inversion p e) = need_some e
      need_some (operation o p l r) = omega arith

      module _ (again-ok : AgainOk) where
        mutual
          pub statement_ok : (s : Statement) (pc : ℕ) (h : Memory Cell) (free : List Cell) → FitStatement rs g F.size s → Stands words places pc (code_statement starts pc s) → pc + length (code_statement starts pc s) ≤ largest → Sized g k F h → Room g N F (need_statement s) [] free
              → Meets (read_statement m L active s h) (Ended (pc + length (code_statement starts pc s)) free) → Good (at pc h [] free)
          statement_ok (perform e) pc h free fits stands ends sized roomy meets =
              let ce = code_expression starts e in
              let sizes : length (ce ++ (Pop, 0) ∷ []) ≡ length ce + 1 = simp length-append (omega arith) in
              let some = need_some e in
              expression_ok e pc h [] free fits (stands_left words places pc ce _ stands) (omega arith) sized roomy
              (after (read_expression m L active e h) _ _ _ (λ x h1 meets1 sized1 rest1 long1.
              pop_at h1 sized1 (pc + length ce) [] rest1 x (omega arith) (omega arith) (stands_right words places pc ce _ stands).0
              (elsewhere _ _ h1 [] (x ∷ rest1) (omega arith) (meets1 sized1 (x ∷ rest1) (omega arith)))) meets)
          statement_ok (sequence ss) pc h free fits stands ends sized roomy meets = statements_ok ss pc h free fits stands ends sized roomy meets
          statement_ok (give e) pc h free fits stands ends sized roomy meets =
              let ce = code_expression starts e in
              let sizes : length (ce ++ (LoadRelative (negsuc 2), 0) ∷ (Store, 0) ∷ (Return, 0) ∷ []) ≡ length ce + 3 = simp length-append (omega arith) in
              let behind = stands_right words places pc ce _ stands in
              expression_ok e pc h [] free fits (stands_left words places pc ce _ stands) (omega arith) sized (omega arith)
              (after (read_expression m L active e h) _ _ _ (λ x h1 meets1 sized1 rest1 long1.
              given_back (pc + length ce) h1 rest1 x (omega arith) sized1 (omega arith) behind.0 behind.1.0 behind.1.1.0 (meets1 sized1)) meets)
          statement_ok (when p e s) pc h free fits stands ends sized roomy meets =
              let ce = code_expression starts e in
              let body = code_statement starts (pc + length ce + 1) s in
              let past : ℕ = pc + length ce + 1 + length body in
              let sizes : length (ce ++ (JumpZero (pos past), p) ∷ body) ≡ length ce + length body + 1 = simp length-append (omega arith) in
              let behind = stands_right words places pc ce _ stands in
              let some = need_some e in
              expression_ok e pc h [] free fits.0 (stands_left words places pc ce _ stands) (omega arith) sized (omega arith)
              (after (read_expression m L active e h) _ _ _ (λ x h1 meets1 sized1 rest1 long1.
              branched p (pc + length ce) past h1 rest1 x (read_statement m L active s) (pure None) _ sized1 (omega arith) (omega arith) (omega arith) behind.0
              (λ on. statement_ok s (pc + length ce + 1) h1 (x ∷ rest1) fits.1 behind.1 (omega arith) sized1 (omega arith) (ended_at _ _ free (x ∷ rest1) (omega arith) (omega arith) (read_statement m L active s h1) on))
              (λ off. elsewhere _ _ h1 [] _ (omega arith) (off sized1 (x ∷ rest1) (omega arith)))
              meets1) (regroup (read_expression m L active e h) _ _ _ meets))
          statement_ok (either p e s t) pc h free fits stands ends sized roomy meets =
              let ce = code_expression starts e in
              let body = code_statement starts (pc + length ce + 1) s in
              let past : ℕ = pc + length ce + 1 + length body + 1 in
              let other = code_statement starts past t in
              let sizes : length (ce ++ (((JumpZero (pos past), p) ∷ body) ++ (Jump (pos (past + length other)), 0) ∷ other)) ≡ length ce + length body + length other + 2 = simp length-append (omega arith) in
              let behind = stands_right words places pc ce _ stands in
              let beyond = stands_right words places (pc + length ce + 1) body _ behind.1 in
              let some = need_some e in
              expression_ok e pc h [] free fits.0 (stands_left words places pc ce _ stands) (omega arith) sized (omega arith)
              (after (read_expression m L active e h) _ _ _ (λ x h1 meets1 sized1 rest1 long1.
              branched p (pc + length ce) past h1 rest1 x (read_statement m L active s) (read_statement m L active t) _ sized1 (omega arith) (omega arith) (omega arith) behind.0
              (λ on. statement_ok s (pc + length ce + 1) h1 (x ∷ rest1) fits.1 (stands_left words places _ body _ behind.1) (omega arith) sized1 (omega arith)
              (ended_by _ _ free (x ∷ rest1) (omega arith) (λ h2 rest2 good.
              onward (pc + length ce + 1 + length body) _ _ _ _ _ _ (Jump (pos (past + length other)), 0) _ (omega arith) beyond.0 (jump_ahead m laws (past + length other) _ _ _ _ _ _ _ (omega arith)) (elsewhere _ (past + length other) h2 [] rest2 (omega arith) good)) (read_statement m L active s h1) on))
              (λ off. statement_ok t past h1 (x ∷ rest1) fits.2 beyond.1 (omega arith) sized1 (omega arith) (ended_at _ _ free (x ∷ rest1) (omega arith) (omega arith) (read_statement m L active t h1) off))
              meets1) (regroup (read_expression m L active e h) _ _ _ meets))
          statement_ok (repeat p e s) pc h free fits stands ends sized roomy meets =
              let ce = code_expression starts e in
              let body = code_statement starts (pc + length ce + 1) s in
              let past : ℕ = pc + length ce + 1 + length body + 1 in
              let sizes : length (ce ++ (((JumpZero (pos past), p) ∷ body) ++ (Jump (pos pc), p) ∷ [])) ≡ length ce + length body + 2 = simp length-append (omega arith) in
              let behind = stands_right words places pc ce _ stands in
              let beyond = stands_right words places (pc + length ce + 1) body _ behind.1 in
              let some = need_some e in
              expression_ok e pc h [] free fits.0 (stands_left words places pc ce _ stands) (omega arith) sized (omega arith)
              (after (read_expression m L active e h) _ _ _ (λ x h1 meets1 sized1 rest1 long1.
              branched p (pc + length ce) past h1 rest1 x (λ h. follow (read_statement m L active s h) (unless_returned (λ h. follow (spend p h) (λ _. L.again active (repeat p e s))))) (pure None) _ sized1 (omega arith) (omega arith) (omega arith) behind.0
              (λ on. statement_ok s (pc + length ce + 1) h1 (x ∷ rest1) fits.1 (stands_left words places _ body _ behind.1) (omega arith) sized1 (omega arith)
              (followed (pc + length ce + 1 + length body) (x ∷ rest1) free _ _ (read_statement m L active s h1) (omega arith) (λ h2 rest2 sized2 long2 meets2.
              returned p (pc + length ce + 1 + length body) pc h2 rest2 (L.again active (repeat p e s)) _ sized2 (omega arith) (omega arith) beyond.0 (λ b paid meets3.
              again-ok (repeat p e s) pc (with_budget b h2) rest2 fits stands ends (record { sheet_long = sized2.sheet_long; frame_long = sized2.frame_long; low = omega arith }) (omega arith) (omega arith)
              (ended_at _ _ free rest2 refl (omega arith) (L.again active (repeat p e s) (with_budget b h2)) meets3)) meets2) on))
              (λ off. elsewhere _ _ h1 [] _ (omega arith) (off sized1 (x ∷ rest1) (omega arith)))
              meets1) (regroup (read_expression m L active e h) _ _ _ meets))

          pub statements_ok : (ss : Statements) (pc : ℕ) (h : Memory Cell) (free : List Cell) → FitStatements rs g F.size ss → Stands words places pc (code_statements starts pc ss) → pc + length (code_statements starts pc ss) ≤ largest → Sized g k F h → Room g N F (need_statements ss) [] free
              → Meets (read_statements m L active ss h) (Ended (pc + length (code_statements starts pc ss)) free) → Good (at pc h [] free)
          statements_ok finish pc h free fits stands ends sized roomy meets = elsewhere (pc + 0) pc h [] free (add-zero pc) (meets sized free refl)
          statements_ok (then_do s ss) pc h free fits stands ends sized roomy meets =
              let one = code_statement starts pc s in
              let rest-code = code_statements starts (pc + length one) ss in
              let sizes : length (one ++ rest-code) ≡ length one + length rest-code = length-append one rest-code in
              statement_ok s pc h free fits.0 (stands_left words places pc one _ stands) (omega arith) sized (omega arith)
              (followed (pc + length one) free free _ (read_statements m L active ss) (read_statement m L active s h) refl (λ h1 rest1 sized1 long1 meets1.
              statements_ok ss (pc + length one) h1 rest1 fits.1 (stands_right words places pc one _ stands) (omega arith) sized1 (omega arith)
              (ended_at _ _ free rest1 (omega arith) (sym long1) (read_statements m L active ss h1) meets1)) meets)

  -- What a function is left with, in the words of its caller.
  abbrev pub Answered : ℕ → ℕ → Cell → List Cell → ℕ → ℕ → ℕ → ℕ → Cell → Memory Cell → Type 0
  Answered k above first under back old_fp old_ep callers v h = length h.sheet ≡ g → h.budget ≤ k → (rest : List Cell) → length rest ≡ above → Good (exit first under back old_fp old_ep callers v h rest)

  module _ (N k : ℕ) (bound : N ≤ 16384) (first : Cell) (rs : List Routine) (starts : List ℕ) (L : Level Cell) (starts_small : (f : ℕ) → get_or starts f 0 ≤ largest) (callee-ok : CalleeOk N k first rs starts L) (again-ok : (F : Frame Cell) (sound : Sound F) → AgainOk N k bound first F sound rs starts L starts_small callee-ok) where
    -- A function is entered, its variables are made, and its body runs.
    routine_ok : (under : List Cell) (back old_fp old_ep callers start : ℕ) (r : Routine) (xs : List Cell) (h : Memory Cell) (free : List Cell)
        → FitStatements rs g (r.parameters + r.locals) r.body → Stands words places start (code_routine starts start r) → start + length (code_routine starts start r) ≤ 16384 → need r ≤ 300
        → length xs ≡ r.parameters → back ≤ largest → old_fp ≤ largest → old_ep ≤ largest → length h.sheet ≡ g → h.budget ≤ k
        → g + length under + length xs + length free + 5 ≡ N → 300 + (24 - (callers + 1)) * 300 ≤ length free
        → Meets (read_routine m L (callers + 1) r xs h) (Answered k (length xs + length free + 3) first under back old_fp old_ep callers)
        → Good (entry first under back old_fp old_ep callers start xs h free)
    routine_ok under back old_fp old_ep callers start r xs h free fits stands ends needs many low lower lowest sheet_long budget-low total roomy meets =
        let sp : ℕ = g + length under + 4 + length xs in
        let q : ℕ = need r in
        let n : ℕ = r.locals in
        let body = code_statements starts (start + 2) r.body in
        let four : List Cell = m.whole 0 ∷ m.whole old_ep ∷ m.whole old_fp ∷ m.whole back ∷ [] in
        let zs : List Cell = first ∷ (h.sheet ++ (under ++ (four ++ xs))) in
        let F : Frame Cell = record { under = under; back = back; old_fp = old_fp; old_ep = old_ep; size = r.parameters + r.locals; ep = sp + q; callers = callers } in
        let sound : Sound F = record { back_small = low; fp_small = lower; ep_small = lowest; own_small = omega arith } in
        let own : List Cell = xs ++ replicate n (m.whole 0) in
        let h0 : Memory Cell = with_frame own h in
        let own-long : length own ≡ r.parameters + r.locals = length-append xs (replicate n (m.whole 0)) ∙ omega (arith, length-replicate n (m.whole 0)) in
        let sized : Sized g k F h0 = record { sheet_long = sheet_long; frame_long = own-long; low = budget-low } in
        let before : zs ++ free ≡ first ∷ (h.sheet ++ (under ++ (m.whole 0 ∷ m.whole old_ep ∷ m.whole old_fp ∷ m.whole back ∷ (xs ++ free)))) = simp append_assoc in
        let after-it : flat m first F h0 (drop n free) ≡ zs ++ (replicate n (m.whole 0) ++ drop n free) = simp append_assoc in
        let zs-long : length zs ≡ sp + 1 = simp length-append (omega arith) in
        let dropped = length-drop n free in
        let store_long : length (zs ++ free) ≡ sp + 1 + length free = length-append zs free ∙ ap (λ i. i + length free) zs-long in
        let sizes : length (code_routine starts start r) ≡ length body + 3 = (let l = length-append body ((Return, 0) ∷ []) in omega arith) in
        let two-on : start + 1 + 1 ≡ start + 2 = omega arith in
        let stands-body : Stands words places (start + 2) (body ++ (Return, 0) ∷ []) = subst (λ i. Stands words places i (body ++ (Return, 0) ∷ [])) two-on stands.1.1 in
        subst (λ t. Good (regs start sp (g + length under + 4) old_ep (callers + 1) h.budget, t)) before
        (onward start _ _ _ _ _ _ (Enter (pos q), 0) _ (omega arith) stands.0 (enter_ok m laws q (start + 1) sp (g + length under + 4) old_ep (callers + 1) h.budget (zs ++ free) (omega arith) (omega arith))
        (onward (start + 1) _ _ _ _ _ _ (Allocate (pos n), 0) _ (omega arith) stands.1.0 (allocate_ok m laws n _ _ _ _ _ _ zs free zs-long (omega arith) (omega arith))
        (moved N k bound first F sound (start + 2) (start + 1 + 1) _ (sp + n) _ _ _ _ (omega arith) (omega arith) after-it
        (statements_ok N k bound first F sound rs starts L starts_small callee-ok (again-ok F sound) r.body (start + 2) h0 (drop n free) fits (stands_left words places _ body _ stands-body) (omega arith) sized (omega arith)
        (left F sound (start + 2 + length body) (drop n free) (read_statements m L (callers + 1) r.body h0) (omega arith) (stands_right words places _ body _ stands-body).0 (omega arith) (omega arith) meets)))))
      where
        -- The body's end: a value was returned, or the function's last instruction leaves it with whole(0).
        left : (F : Frame Cell) (sound : Sound F) (pc : ℕ) (rest : List Cell) (o : Outcome Cell (Option Cell)) → pc ≤ largest → Has words places pc (Return, 0) → g + length F.under + F.size + length rest + 5 ≡ N → g + length F.under + (length xs + length free + 3) + 2 ≡ N
            → Meets (follow o (λ v. pure (unwrap_or v (m.whole 0)))) (Answered k (length xs + length free + 3) first F.under F.back F.old_fp F.old_ep F.callers)
            → Meets o (Ended N k bound first F sound rs starts L starts_small callee-ok pc rest)
        left F sound pc rest (gives (Some v) h1) low has total above meets = λ sized. λ more long-more. meets sized.sheet_long sized.low more (omega arith)
        left F sound pc rest (gives None h1) low has total above meets = λ sized. λ more long-more.
            let frame_long = length-append h1.frame more in
            leave_at N k bound first F sound rs starts L starts_small callee-ok pc _ h1 (m.whole 0) (h1.frame ++ more) low sized (omega arith) has (λ more2 long2. meets sized.sheet_long sized.low more2 (omega arith))
        left F sound pc rest (stops e p c b) low has total above meets = meets

  -- Every function of the program stands where it starts, keeps inside, and needs at most 300 cells.
  pub record Loaded (rs : List Routine) (starts : List ℕ) : Type 0 where
    pub small : (f : ℕ) → get_or starts f 0 ≤ largest
    pub stands : (f : ℕ) (r : Routine) → slice_get rs f ≡ Some r → Stands words places (get_or starts f 0) (code_routine starts (get_or starts f 0) r)
    pub ends : (f : ℕ) (r : Routine) → slice_get rs f ≡ Some r → get_or starts f 0 + length (code_routine starts (get_or starts f 0) r) ≤ 16384
    pub needs : (f : ℕ) (r : Routine) → slice_get rs f ≡ Some r → need r ≤ 300
    pub fits : (f : ℕ) (r : Routine) → slice_get rs f ≡ Some r → FitStatements rs g (r.parameters + r.locals) r.body

  module _ (N : ℕ) (bound : N ≤ 16384) (first : Cell) (rs : List Routine) (starts : List ℕ) (loaded : Loaded rs starts) where
    -- calls and loops at a level
    Both : ℕ → Type 0
    Both k = (calls : CalleeOk N k first rs starts (level m rs k)) × ((F : Frame Cell) (sound : Sound F) → AgainOk N k bound first F sound rs starts (level m rs k) loaded.small calls)

    more_sized : (k : ℕ) (F : Frame Cell) (h : Memory Cell) → Sized g k F h → Sized g (suc k) F h
    more_sized k F h sized = record { sheet_long = sized.sheet_long; frame_long = sized.frame_long; low = omega arith }

    both : (k : ℕ) → Both k
    unfolding Both
    both zero = (
      (λ under back old_fp old_ep callers f r xs h free there many a b c d low. absurd (omega arith)),
      (λ F sound s pc h free fits stands ends sized low. absurd (omega arith)),
    )
    both (suc k) = go (both k)
      where
        go : Both k → Both (suc k)
        go below = (calls, again)
          where
            calls : CalleeOk N (suc k) first rs starts (level m rs (suc k))
            calls under back old_fp old_ep callers f r xs h free there many a b c d low total roomy meets =
                routine_ok N k bound first rs starts (level m rs k) loaded.small below.0 below.1 under back old_fp old_ep callers (get_or starts f 0) r xs h free (loaded.fits f r there) (loaded.stands f r there) (loaded.ends f r there) (loaded.needs f r there) many a b c d (omega arith) total roomy
                (weaken (read_routine m (level m rs k) (callers + 1) r xs h) (Answered (suc k) (length xs + length free + 3) first under back old_fp old_ep callers) _ (λ v h1 answered sheet_long budget-low rest long_rest. answered sheet_long (omega arith) rest long_rest)
                (subst (λ o. Meets (read_numbered m rs (level m rs k) (callers + 1) o xs h) (Answered (suc k) (length xs + length free + 3) first under back old_fp old_ep callers)) there meets))

            again : (F : Frame Cell) (sound : Sound F) → AgainOk N (suc k) bound first F sound rs starts (level m rs (suc k)) loaded.small calls
            again F sound s pc h free fits stands ends sized low roomy meets =
                statement_ok N k bound first F sound rs starts (level m rs k) loaded.small below.0 (below.1 F sound) s pc h free fits stands ends (record { sheet_long = sized.sheet_long; frame_long = sized.frame_long; low = omega arith }) roomy
                (lowered (read_statement m (level m rs k) (F.callers + 1) s h) meets)
              where
                lowered : (o : Outcome Cell (Option Cell)) → Meets o (Ended N (suc k) bound first F sound rs starts (level m rs (suc k)) loaded.small calls (pc + length (code_statement starts pc s)) free) → Meets o (Ended N k bound first F sound rs starts (level m rs k) loaded.small below.0 (pc + length (code_statement starts pc s)) free)
                lowered (gives (Some v) h1) meets1 = λ sized1. meets1 (more_sized k F h1 sized1)
                lowered (gives None h1) meets1 = λ sized1. meets1 (more_sized k F h1 sized1)
                lowered (stops e p c b) meets1 = meets1

    -- A function is called from outside, with a budget below the level.
    pub call_ok : (k : ℕ) → CalleeOk N k first rs starts (level m rs k)
    unfolding Both
    call_ok k = (both k).0
