-- Where the code of a function stands in lists that begin with that of its sheet. Assumes nothing.
use Rattle.std.proofs.Common.{◌≡◌, ℕ, zero, suc, ◌+◌, ◌≤◌, List, [], ◌∷◌, ◌++◌, length, get_or, Some, None, Option, unwrap_or, refl, ap, subst, add-zero, arith}
use Rattle.std.specs.List.{slice_get, AllByRecursion}
use Rattle.std.proofs.lemmas.List.{length-append}
use Rattle.reckoning.specs.Meaning.{largest}
use Rattle.instructions.specs.Words.{encoded}
use Rattle.instructions.proofs.RoundTrip.{instruction_back}
use Rattle.language.specs.Resolved.{Routine, Program}
use Rattle.language.proofs.Fitting.{FitStatements, FitRoutines}
use Rattle.translation.specs.Translation.{Line, code_routine, code, size, starts_from, starts}
use Rattle.translation.proofs.Pieces.{in_one_piece}
use Rattle.meaning.specs.Agreement.{Begins}
use Rattle.meaning.proofs.Frames.{Has, Stands, stands_left, stands_right}

module _ (words places : List ℕ) where
  line_stands : (pc : ℕ) (l : Line) → (w : ℕ) × (slice_get words pc ≡ Some w) × (encoded l.0 ≡ Some w) × (slice_get places pc ≡ Some l.1) → Has words places pc l
  line_stands pc l b = record { word = b.0; there = b.1; known = instruction_back l.0 b.0 b.2; place = ap (λ o. unwrap_or o 0) b.3 }

  lines_stand : (pc : ℕ) (ls : List Line) → ((i : ℕ) (l : Line) → slice_get ls i ≡ Some l → Has words places (pc + i) l) → Stands words places pc ls
  lines_stand pc [] each = tt
  lines_stand pc (l ∷ ls) each = (
    subst (λ i. Has words places i l) (add-zero pc) (each 0 l refl),
    lines_stand (pc + 1) ls (λ i k is. subst (λ j. Has words places j k) (let e : pc + suc i ≡ pc + 1 + i = omega arith in e) (each (suc i) k is)),
  )

  pub stands : (ls : List Line) → Begins words places ls → Stands words places 0 ls
  stands ls begins = lines_stand 0 ls (λ i l is. subst (λ j. Has words places j l) (let e : i ≡ 0 + i = omega arith in e) (line_stands i l (begins i l is)))

  -- A function's code in that of all.
  pub routine_stands : (p : Program) (f : ℕ) (r : Routine) → slice_get p.routines f ≡ Some r → Stands words places 0 (code p)
      → Stands words places (get_or (starts p) f 0) (code_routine (starts p) (get_or (starts p) f 0) r) × (get_or (starts p) f 0 + length (code_routine (starts p) (get_or (starts p) f 0) r) ≤ length (code p))
  routine_stands p f r is all =
      let found = in_one_piece p f r is in
      let own = code_routine (starts p) (get_or (starts p) f 0) r in
      let here : 0 + length found.0 ≡ get_or (starts p) f 0 = omega (arith, found.3) in (
        subst (λ i. Stands words places i own) here
            (stands_left words places _ own found.1 (stands_right words places 0 found.0 _ (subst (Stands words places 0) found.2 all))),
        omega (arith, found.3, ap length found.2, length-append found.0 (own ++ found.1), length-append own found.1),
      )

-- a function that is not there starts nowhere
starts_nowhere : (at : ℕ) (rs : List Routine) (f : ℕ) → slice_get rs f ≡ None → get_or (starts_from at rs) f 0 ≡ 0
starts_nowhere at [] f is = refl
starts_nowhere at (q ∷ rs) zero is = absurd (let clash : ◌≡◌ {A = ℕ} 0 1 = cc in omega arith)
starts_nowhere at (q ∷ rs) (suc f) is = starts_nowhere (at + size q) rs f is

pub starts_small : (p : Program) → length (code p) ≤ 16384 → (f : ℕ) → get_or (starts p) f 0 ≤ largest
starts_small p low f = go (slice_get p.routines f) refl
  where
    go : (o : Option Routine) → slice_get p.routines f ≡ o → get_or (starts p) f 0 ≤ largest
    go (Some r) is =
        let found = in_one_piece p f r is in
        omega (arith, found.3, ap length found.2, length-append found.0 (code_routine (starts p) (get_or (starts p) f 0) r ++ found.1), length-append (code_routine (starts p) (get_or (starts p) f 0) r) found.1)
    go None is = omega (arith, starts_nowhere 1 p.routines f is)

pub all_nth : {X : Type 0} (P : X → Type 0) (xs : List X) → AllByRecursion P xs → (i : ℕ) (x : X) → slice_get xs i ≡ Some x → P x
all_nth P [] h i x is = absurd (let clash : ◌≡◌ {A = ℕ} 0 1 = cc in omega arith)
all_nth P (y ∷ ys) h zero x is = subst P (let e : y ≡ x = cc in e) h.0
all_nth P (y ∷ ys) h (suc i) x is = all_nth P ys h.1 i x is

pub fit_nth : (all rs : List Routine) (g : ℕ) → FitRoutines all g rs → (f : ℕ) (r : Routine) → slice_get rs f ≡ Some r → FitStatements all g (r.parameters + r.locals) r.body
fit_nth all [] g h f r is = absurd (let clash : ◌≡◌ {A = ℕ} 0 1 = cc in omega arith)
fit_nth all (q ∷ rs) g h zero r is = subst (λ r. FitStatements all g (r.parameters + r.locals) r.body) (let e : q ≡ r = cc in e) h.0
fit_nth all (q ∷ rs) g h (suc f) r is = fit_nth all rs g h.1 f r is
