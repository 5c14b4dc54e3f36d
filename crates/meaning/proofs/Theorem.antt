-- Translation and reading agree. Assumes nothing.
use Rattle.std.proofs.Common.{◌≡◌, ℕ, suc, ◌+◌, ◌≤◌, List, [], ◌∷◌, ◌++◌, length, get_or, take, drop, Some, Ok, Err, sym, refl, ap, ◌∙◌, subst, add-one, arith}
use Rattle.std.specs.List.{slice_get}
use Rattle.std.proofs.lemmas.List.{length-take-le, length-drop, take_at}
use Rattle.reckoning.specs.Meaning.{Meaning, Laws}
use Rattle.instructions.specs.declared.Instruction.TheVariants.{Halt}
use Rattle.machine.specs.Endings.{halted, stopped}
use Rattle.machine.specs.Instructions.{State}
use Rattle.machine.specs.Steps.{step}
use Rattle.machine.specs.Runs.{run}
use Rattle.machine.proofs.Chains.{run_next, run_end}
use Rattle.language.specs.Tree.{Sheet}
use Rattle.language.specs.Resolved.{Routine, Program}
use Rattle.language.specs.Scope.{resolved}
use Rattle.language.specs.Limits.{Limited}
use Rattle.language.specs.Reading.{Memory, Outcome, gives, stops, reading}
use Rattle.language.specs.Stopping.{Clean}
use Rattle.language.proofs.Stopping.{stops_so}
use Rattle.language.proofs.Resolution.{fit, cells_kept, parameters_few}
use Rattle.translation.specs.Limits.{Compact}
use Rattle.translation.specs.Translation.{code, starts}
use Rattle.meaning.specs.Agreement.{Begins, cells, framed, started, Tells, Agreement}
use Rattle.meaning.proofs.Seams.{nth_past_seam}
use Rattle.meaning.proofs.Frames.{Has, Stands}
use Rattle.meaning.proofs.Instructions.{regs}
use Rattle.meaning.proofs.Agreement.{step_at, Meets, exit, Answered, Loaded, call_ok}
use Rattle.meaning.proofs.Loading.{stands, routine_stands, starts_small, all_nth, fit_nth}

module _ {Cell : Type 0} (m : Meaning Cell) (laws : Laws m) (words places : List ℕ) (g : ℕ) (o : Outcome Cell Cell) where
  -- from here the run tells what is to be told
  abbrev Good : State Cell → Type 0
  Good t = Tells g o (run m words places t)

  next : (t u : State Cell) → step m words places t ≡ Ok u → Good u → Good t
  next t u is good = subst (Tells g o) (sym (run_next m words places t u is)) good

module _ {Cell : Type 0} (m : Meaning Cell) (laws : Laws m) (words places : List ℕ) (g k above : ℕ) (first : Cell) (halts : Has words places 0 (Halt, 0)) where
  -- A function left with its value comes to the halt at address 0; a stop ends the run.
  told : (o : Outcome Cell Cell) → Clean o → Meets m laws words places (Good m laws words places g o) (next m laws words places g o) g o (Answered m laws words places (Good m laws words places g o) (next m laws words places g o) g k above first [] 0 0 0 0)
  told (gives v h) clean = λ sheet_long low rest long_rest.
      let t : State Cell = exit m laws words places (Good m laws words places g (gives v h)) (next m laws words places g (gives v h)) g first [] 0 0 0 0 v h rest in
      let last : step m words places t ≡ Err halted = step_at m laws words places (Good m laws words places g (gives v h)) (next m laws words places g (gives v h)) g 0 _ _ _ _ _ _ (Halt, 0) (omega arith) halts in
      subst (Tells g (gives v h)) (sym (run_end m words places t halted last)) (
        ap (slice_get (first ∷ (h.sheet ++ (v ∷ rest)))) (let e : g + 1 ≡ suc (length h.sheet + 0) = omega arith in e) ∙ nth_past_seam h.sheet (v ∷ rest) 0,
        take_at h.sheet (v ∷ rest) g sheet_long,
        refl,
      )
  told (stops e p c b) clean = λ t shows left last. subst (Tells g (stops e p c b)) (sym (run_end m words places t (stopped e p) last)) (refl, refl, clean, shows, left)

module _ {Cell : Type 0} (m : Meaning Cell) (laws : Laws m) where
  begun : (g : ℕ) (xs : List Cell) (first : Cell) (rest : List Cell) → first ∷ (take g rest ++ (m.whole 0 ∷ m.whole 0 ∷ m.whole 0 ∷ m.whole 0 ∷ (xs ++ drop (g + 5 + length xs) (first ∷ rest)))) ≡ framed m g xs (first ∷ rest)
  begun g xs first rest = ap (λ n. take n (first ∷ rest) ++ (m.whole 0 ∷ m.whole 0 ∷ m.whole 0 ∷ m.whole 0 ∷ (xs ++ drop (g + 5 + length xs) (first ∷ rest)))) (sym (add-one g))

  module _ (s : Sheet) (p : Program) (is : resolved s ≡ Some p) (limited : Limited s) (compact : Compact p) (words places : List ℕ) (begins : Begins words places (code p)) where
    all_stands : Stands words places 0 (code p)
    all_stands = stands words places (code p) begins

    loaded : (o : Outcome Cell Cell) → Loaded m laws words places (Good m laws words places p.cells o) (next m laws words places p.cells o) p.cells p.routines (starts p)
    loaded o = record {
      small = starts_small p compact.words;
      stands = λ f r there. (routine_stands words places p f r there all_stands).0;
      ends = λ f r there. omega (arith, (routine_stands words places p f r there all_stands).1, compact.words);
      needs = λ f r there. all_nth _ p.routines compact.needs f r there;
      fits = λ f r there. fit_nth p.routines p.routines p.cells (fit s p limited is) f r there;
    }

    runs : (store : List Cell) → 8192 ≤ length store → length store ≤ 16384 → (f : ℕ) (r : Routine) → slice_get p.routines f ≡ Some r → (xs : List Cell) → length xs ≡ r.parameters → (budget : ℕ)
        → Tells p.cells (reading m p.routines 1 f xs (cells p.cells store) budget) (run m words places (started m (get_or (starts p) f 0) p.cells xs budget store))
    runs [] low high f r there xs many budget = absurd (omega arith)
    runs (first ∷ rest) low high f r there xs many budget =
        let g : ℕ = p.cells in
        let o : Outcome Cell Cell = reading m p.routines 1 f xs (take g rest) budget in
        let free : List Cell = drop (g + 5 + length xs) (first ∷ rest) in
        let h : Memory Cell = record { sheet = take g rest; frame = []; budget = budget } in
        let few = all_nth _ p.routines (parameters_few s p limited is) f r there in
        let small : g ≤ 512 = omega (arith, cells_kept s p is, limited.cells) in
        let sheet_long : length (take g rest) ≡ g = length-take-le g rest (omega arith) in
        let free-long = length-drop (g + 5 + length xs) (first ∷ rest) in
        let one : g + 0 + 4 + length xs ≡ g + 4 + length xs = omega arith in
        let two : g + 0 + 4 ≡ g + 4 = omega arith in
        subst (λ (x : ℕ × ℕ × List Cell). Good m laws words places g o (regs (get_or (starts p) f 0) x.0 x.1 0 1 budget, x.2)) (λ j. (one j, two j, begun g xs first rest j))
        (call_ok m laws words places (Good m laws words places g o) (next m laws words places g o) g (length (first ∷ rest)) high first p.routines (starts p) (loaded o) (suc budget) [] 0 0 0 0 f r xs h free there many (omega arith) (omega arith) (omega arith) sheet_long (omega arith) (omega arith) (omega arith)
        (told m laws words places g (suc budget) (length xs + length free + 3) first all_stands.0 o (stops_so m p.routines 1 f xs (take g rest) budget)))

  pub agreement : Agreement m
  agreement s p is limited compact words places begins store low high f r there xs many budget = runs s p is limited compact words places begins store low high f r there xs many budget
