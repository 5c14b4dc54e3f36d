-- How an instruction, and a step, goes on or ends. Assumes nothing.
use Rattle.std.proofs.Common.{◌≡◌, ℕ, ◌≤◌, List, ℤ, Some, None, Ok, Err, Option, Result, sym, refl, ap, arith}
use Rattle.std.specs.Option.{ok_or, option_map}
use Rattle.std.proofs.lemmas.Option.{slice_get_past}
use Rattle.reckoning.specs.Meaning.{Meaning}
use Rattle.machine.specs.declared.state.Flow.TheVariants.{Onward, Halts}
use Rattle.machine.specs.declared.state.Registers.{Registers}
use Rattle.instructions.specs.declared.Stop.{Stop}
use Rattle.instructions.specs.declared.Stop.TheVariants.{Broken}
use Rattle.machine.specs.Endings.{Ending, stopped}
use Rattle.machine.specs.Instructions.{State, ◌>>=◌}
use Rattle.machine.specs.Seen.{flowed, last, stepped}
use Rattle.machine.specs.Steps.{execute, perform, outcome}
use Rattle.instructions.specs.Words.{table}

-- a number that no instruction has
pub perform_past : {Cell : Type 0} (m : Meaning Cell) (n : ℕ) (z : ℤ) (r : Registers) (s : List Cell) → 27 ≤ n → perform m n z r s ≡ Err Broken
perform_past m n z r s past = ap (λ o. ok_or (option_map (λ i. i z) o) Broken >>= λ i. execute m i r s) (slice_get_past table n past)

-- a step that goes on, and one that ends the run
pub next_is : {X : Type 0} (t u : X) (x : Result X Ending) → (Ok Onward, u) ≡ stepped t x → x ≡ Ok u
next_is t u (Ok v) is = let second = ap (λ r. r.1) is in sym (ap Ok second)
next_is t u (Err (Ok e)) is = let first = ap (λ r. r.0) is in cc
next_is t u (Err (Err e)) is = let first = ap (λ r. r.0) is in cc

pub ended_is : {X : Type 0} (t u : X) (x : Result X Ending) (e : Ending) → (last e, u) ≡ stepped t x → (x ≡ Err e) × (u ≡ t)
ended_is t u (Ok v) (Ok e) is = let first = ap (λ r. r.0) is in let clash : ◌≡◌ {A = ℕ} 0 1 = cc in absurd (omega arith)
ended_is t u (Ok v) (Err e) is = let first = ap (λ r. r.0) is in let clash : ◌≡◌ {A = ℕ} 0 1 = cc in absurd (omega arith)
ended_is t u (Err (Ok d)) (Ok e) is = (refl, ap (λ r. r.1) is)
ended_is t u (Err (Ok d)) (Err e) is = let first = ap (λ r. r.0) is in let clash : ◌≡◌ {A = ℕ} 0 1 = cc in absurd (omega arith)
ended_is t u (Err (Err d)) (Ok e) is = let first = ap (λ r. r.0) is in let clash : ◌≡◌ {A = ℕ} 0 1 = cc in absurd (omega arith)
ended_is t u (Err (Err d)) (Err e) is =
    let first = ap (λ r. r.0) is in
    let second = ap (λ r. r.1) is in
    (cc, second)

-- what a step says of what its instruction did
pub onward_step : {Cell : Type 0} (t u : State Cell) (p : ℕ) (x : Result (Option (State Cell)) Stop) → (Ok Onward, u) ≡ flowed t x → (Ok Onward, u) ≡ stepped t (outcome p x)
onward_step t u p (Ok (Some v)) is = let second = ap (λ r. r.1) is in ap (λ w. (Ok Onward, w)) second
onward_step t u p (Ok None) is = let first = ap (λ r. r.0) is in let clash : ◌≡◌ {A = ℕ} 0 1 = cc in absurd (omega arith)
onward_step t u p (Err e) is = let first = ap (λ r. r.0) is in let clash : ◌≡◌ {A = ℕ} 0 1 = cc in absurd (omega arith)

pub halted_step : {Cell : Type 0} (t u : State Cell) (p : ℕ) (x : Result (Option (State Cell)) Stop) → (Ok Halts, u) ≡ flowed t x → (Ok Halts, u) ≡ stepped t (outcome p x)
halted_step t u p (Ok (Some v)) is = let first = ap (λ r. r.0) is in let clash : ◌≡◌ {A = ℕ} 0 1 = cc in absurd (omega arith)
halted_step t u p (Ok None) is = let second = ap (λ r. r.1) is in ap (λ w. (Ok Halts, w)) second
halted_step t u p (Err e) is = let first = ap (λ r. r.0) is in let clash : ◌≡◌ {A = ℕ} 0 1 = cc in absurd (omega arith)

pub stopped_step : {Cell : Type 0} (t u : State Cell) (p q : ℕ) (x : Result (Option (State Cell)) Stop) (e : Stop) → (Err e, u) ≡ flowed t x → p ≡ q → (last (stopped e p), u) ≡ stepped t (outcome q x)
stopped_step t u p q (Ok (Some v)) e is same = let first = ap (λ r. r.0) is in let clash : ◌≡◌ {A = ℕ} 0 1 = cc in absurd (omega arith)
stopped_step t u p q (Ok None) e is same = let first = ap (λ r. r.0) is in let clash : ◌≡◌ {A = ℕ} 0 1 = cc in absurd (omega arith)
stopped_step t u p q (Err d) e is same =
    let first = ap (λ r. r.0) is in
    let second = ap (λ r. r.1) is in
    let ending : last (stopped e p) ≡ last (stopped d q) = cc in
    (λ i. (ending i, second i))

-- a stop leaves the state as it was
pub flowed_back : {X : Type 0} (t u : X) (x : Result (Option X) Stop) (e : Stop) → (Err e, u) ≡ flowed t x → u ≡ t
flowed_back t u (Ok (Some v)) e is = let first = ap (λ r. r.0) is in let clash : ◌≡◌ {A = ℕ} 0 1 = cc in absurd (omega arith)
flowed_back t u (Ok None) e is = let first = ap (λ r. r.0) is in let clash : ◌≡◌ {A = ℕ} 0 1 = cc in absurd (omega arith)
flowed_back t u (Err d) e is = ap (λ r. r.1) is
