-- From a run to the answer of a call, and from what a run tells to what an answer says. Assumes nothing.
use Rattle.std.proofs.Common.{◌≡◌, ℕ, zero, suc, ◌+◌, ◌-◌, ◌<◌, ◌≤◌, Bool, true, false, cond, ◌&&◌, List, [], ◌∷◌, length, get_or, Some, None, Ok, Err, Option, Result, sym, ap, ◌∙◌, subst, arith, le-leb}
use Rattle.std.specs.List.{slice_get}
use Rattle.std.proofs.lemmas.List.{get_or_read}
use Rattle.reckoning.specs.Meaning.{Meaning, Laws, largest}
use Rattle.machine.specs.Endings.{Ending}
use Rattle.machine.specs.declared.Registers.{Registers}
use Rattle.machine.specs.declared.Stopped.{Stopped}
use Rattle.machine.specs.Instructions.{State}
use Rattle.machine.specs.Runs.{run}
use Rattle.language.specs.Reading.{Outcome, gives, stops, reading}
use Rattle.language.proofs.Resolution.{cells_kept, parameters_few}
use Rattle.translation.specs.Translation.{starts}
use Rattle.meaning.specs.Agreement.{cells, started, Tells}
use Rattle.meaning.proofs.Loading.{starts_small, all_nth}
use Rattle.meaning.proofs.Theorem.{agreement}
use Rattle.calling.specs.declared.calls.Answer.{Answer}
use Rattle.calling.specs.Calls.{room, addressed, answered, begun, concluded, called, Answers, Agrees}

nth_is : {X : Type 0} (xs : List X) (i : ℕ) (x d : X) → slice_get xs i ≡ Some x → get_or xs i d ≡ x
nth_is [] i x d is = cc
nth_is (y ∷ ys) zero x d is = cc
nth_is (y ∷ ys) (suc i) x d is = nth_is ys i x d is

module _ {Cell : Type 0} (m : Meaning Cell) (g budget : ℕ) where
  concludes : (e : Ending) (t : State Cell) (v : Cell) (a : Answer Cell) → g + 1 < length t.1 → v ≡ get_or t.1 (g + 1) v → a ≡ answered e v (budget - t.0.budget)
      → (Some a, t.1) ≡ concluded m g budget (e, t)
  concludes e t v a low is same = ap (λ b. (Some b, t.1)) (same ∙ ap (λ w. answered e w (budget - t.0.budget)) (get_or_read t.1 (g + 1) v low is (m.whole 0)))

  abbrev answer : Result Cell Stopped → ℕ → Answer Cell
  answer value spent = record { value = value; spent = spent }

  told : (o : Outcome Cell Cell) (ran : Ending × State Cell) → Tells g o ran → Answers g budget o (concluded m g budget ran)
  told (gives v h) (Ok u, t) tells = (ap Some (ap (λ w. answer (Ok w) (budget - t.0.budget)) (nth_is t.1 (g + 1) v (m.whole 0) tells.0) ∙ ap (λ b. answer (Ok v) (budget - b)) tells.2), tells.1)
  told (gives v h) (Err f, t) tells = absurd tells
  told (stops e p c b) (Ok u, t) tells = absurd tells
  told (stops e p c b) (Err f, t) tells = (ap Some (λ i. answer (Err (record { stop = tells.0 i; place = tells.1 i })) (budget - tells.4 i)), tells.3)

module _ {Cell : Type 0} (m : Meaning Cell) (words places : List ℕ) (start g : ℕ) (xs : List Cell) (budget : ℕ) (store : List Cell) where
  abbrev first : State Cell
  first = started m start g xs budget store

  abbrev whole_run : Option (Answer Cell) × List Cell
  whole_run = concluded m g budget (run m words places first)

  -- A call that has no first frame answers nothing.
  pub refused : (after : List Cell) → ◌≡◌ {A = Option Registers × List Cell} (None, after) (begun m start g xs budget store) → ◌≡◌ {A = Option (Answer Cell) × List Cell} (None, after) (called m words places start g xs budget store)
  refused after = by_test (addressed start (length store) && room g (length xs) (length store))
    where
      by_test : (may : Bool) → ◌≡◌ {A = Option Registers × List Cell} (None, after) (cond may (Some first.0, first.1) (None, store)) → ◌≡◌ {A = Option (Answer Cell) × List Cell} (None, after) (cond may whole_run (None, store))
      by_test true is = absurd (let apart = ap (λ p. p.0) is in let clash : ◌≡◌ {A = ℕ} 0 1 = cc in omega arith)
      by_test false is = ap (λ p. (None, p.1)) is

  -- One that has it answers by the end of its run.
  pub completed : (r : Registers) (frame : List Cell) (e : Ending) (t : State Cell) (v : Cell) (a : Answer Cell)
      → ◌≡◌ {A = Option Registers × List Cell} (Some r, frame) (begun m start g xs budget store) → ◌≡◌ {A = Ending × State Cell} (e, t) (run m words places (r, frame))
      → g + 1 < length t.1 → v ≡ get_or t.1 (g + 1) v → a ≡ answered e v (budget - t.0.budget)
      → ◌≡◌ {A = Option (Answer Cell) × List Cell} (Some a, t.1) (called m words places start g xs budget store)
  completed r frame e t v a begins ran low is same = by_test (addressed start (length store) && room g (length xs) (length store)) begins
    where
      by_test : (may : Bool) → ◌≡◌ {A = Option Registers × List Cell} (Some r, frame) (cond may (Some first.0, first.1) (None, store)) → ◌≡◌ {A = Option (Answer Cell) × List Cell} (Some a, t.1) (cond may whole_run (None, store))
      by_test true is-first =
          let registers-are = ap (λ p. p.0) is-first in
          let registers : r ≡ first.0 = cc in
          let cells_are : frame ≡ first.1 = ap (λ p. p.1) is-first in
          concludes m g budget e t v a low is same ∙ ap (concluded m g budget) (ran ∙ ap (run m words places) (λ j. (registers j, cells_are j)))
      by_test false is-first = absurd (let apart = ap (λ p. p.0) is-first in let clash : ◌≡◌ {A = ℕ} 0 1 = cc in omega arith)

module _ {Cell : Type 0} (m : Meaning Cell) (laws : Laws m) (words places : List ℕ) (start g : ℕ) (xs : List Cell) (budget : ℕ) (store : List Cell) where
  there_is_room : start ≤ largest → length store ≤ 16384 → g + 5 + length xs ≤ length store → (addressed start (length store) && room g (length xs) (length store)) ≡ true
  there_is_room near high low = rw (le-leb start largest near, le-leb (length store) 16384 high, le-leb (g + 5 + length xs) (length store) low)

  call_agrees : Agrees m words places start g xs budget store (called m words places start g xs budget store)
  call_agrees s p is limited compact begins low high f r there starts-there cells_are many =
      let few = all_nth _ p.routines (parameters_few s p limited is) f r there in
      let small : g ≤ 512 = omega (arith, cells_kept s p is, limited.cells) in
      let near : start ≤ largest = omega (arith, starts_small p compact.words f) in
      let fits = there_is_room near high (omega arith) in
      let ran = agreement m laws s p is limited compact words places begins store low high f r there xs many budget in
      subst (λ b. Answers p.cells budget (reading m p.routines 1 f xs (cells p.cells store) budget) (cond b (concluded m g budget (run m words places (started m start g xs budget store))) (None, store))) (sym fits)
      (subst (λ (a : ℕ × ℕ). Answers p.cells budget (reading m p.routines 1 f xs (cells p.cells store) budget) (concluded m a.1 budget (run m words places (started m a.0 a.1 xs budget store)))) (λ j. (sym starts-there j, sym cells_are j))
      (told m p.cells budget (reading m p.routines 1 f xs (cells p.cells store) budget) (run m words places (started m (get_or (starts p) f 0) p.cells xs budget store)) ran))

  pub seen_agrees : (seen : Option (Answer Cell) × List Cell) → seen ≡ called m words places start g xs budget store → Agrees m words places start g xs budget store seen
  seen_agrees seen is = subst (Agrees m words places start g xs budget store) (sym is) call_agrees
