-- A run is the chain of its steps. Assumes nothing.
use Rattle.std.proofs.Common.{◌≡◌, ℕ, zero, suc, ◌+◌, ◌≤◌, List, Some, Ok, Err, Result, unwrap_or, sym, refl, ap, ◌∙◌, subst, le_refl, arith}
use Rattle.reckoning.specs.Meaning.{Meaning}
use Rattle.machine.specs.Endings.{Ending, halted}
use Rattle.machine.specs.Instructions.{State}
use Rattle.machine.specs.Runs.{price, Chain, here, more, Ran, Alone, run_for, enough, run}
use Rattle.machine.specs.Seen.{last, stepped}
use Rattle.machine.specs.Steps.{step}
use Rattle.machine.proofs.Endings.{ended_is}
use Rattle.machine.proofs.Progress.{step_spends, step_falls}

module _ {Cell : Type 0} (m : Meaning Cell) (code places : List ℕ) where
  -- within k steps the run ends
  record Ends (k : ℕ) (t : State Cell) : Type 0 where
    end : Ending
    at : State Cell
    found : run_for m code places k t ≡ Some (end, at)
    ran : Ran m code places t end at

  next : (k : ℕ) (t u : State Cell) → step m code places t ≡ Ok u → Ends k u → Ends (suc k) t
  next k t u is e = record {
    end = e.end;
    at = e.at;
    found = rw is e.found;
    ran = record {
      units = price m code places t u + e.ran.units;
      chain = more t u e.at e.ran.units is e.ran.chain;
      last = e.ran.last;
      spends = omega (arith, step_spends m code places t u is, e.ran.spends);
    };
  }

  ends : (k : ℕ) (t : State Cell) → enough m code places t ≤ k → Ends k t
  ends zero t low = absurd (omega arith)
  ends (suc k) t low = go (ends k) (step m code places t) refl
    where
      go : ((u : State Cell) → enough m code places u ≤ k → Ends k u) → (x : Result (State Cell) Ending) → step m code places t ≡ x → Ends (suc k) t
      go ih (Ok u) is = next k t u is (ih u (omega (arith, step_falls m code places t u is)))
      go ih (Err e) is = record {
        end = e;
        at = t;
        found = rw is refl;
        ran = record { units = 0; chain = here t; last = is; spends = omega arith };
      }

  -- whatever fuel suffices, the run is the chain's last state
  only : (k : ℕ) {t : State Cell} {n : ℕ} {u : State Cell} (e : Ending) (x : Ending × State Cell) → Chain m code places t n u → step m code places u ≡ Err e → run_for m code places k t ≡ Some x → x ≡ (e, u)
  only zero e x chain last found = cc
  only (suc k) e x (here t) last found = let h = rw last at found in cc
  only (suc k) e x (more t w u n is rest) last found = only k e x rest last (rw is at found)

  ended : (t : State Cell) → Ends (enough m code places t) t
  ended t = ends (enough m code places t) t (le_refl (enough m code places t))

  run_is : (t : State Cell) → run m code places t ≡ ((ended t).end, (ended t).at)
  unfolding run
  run_is t = ap (λ o. unwrap_or o (halted, t)) (ended t).found

  ran : (t : State Cell) → Ran m code places t (run m code places t).0 (run m code places t).1
  ran t = rw run_is (ended t).ran

  pub run_to : (t : State Cell) (n : ℕ) (e : Ending) (u : State Cell) → Chain m code places t n u → step m code places u ≡ Err e → run m code places t ≡ (e, u)
  run_to t n e u chain last = run_is t ∙ only (enough m code places t) e _ chain last (ended t).found

  alone : (t : State Cell) → Alone m code places t (run m code places t).0 (run m code places t).1
  alone t n e u chain last =
      let same : run m code places t ≡ (e, u) = run_to t n e u chain last in
      (sym (ap (λ r. r.0) same), sym (ap (λ r. r.1) same))

  pub run_next : (t u : State Cell) → step m code places t ≡ Ok u → run m code places t ≡ run m code places u
  run_next t u is = run_to t _ _ _ (more t u _ _ is (ran u).chain) (ran u).last

  pub run_end : (t : State Cell) (e : Ending) → step m code places t ≡ Err e → run m code places t ≡ (e, t)
  run_end t e is = run_to t 0 e t (here t) is

  -- what is known of a run's answer and last state
  pub told : (t : State Cell) (e : Ending) (u : State Cell) → (e, u) ≡ run m code places t → Ran m code places t e u × Alone m code places t e u
  told t e u is = subst (λ r. Ran m code places t r.0 r.1 × Alone m code places t r.0 r.1) (sym is) (ran t, alone t)

  -- a run that has come from t to u, where a step ends it
  pub finished : (t u v : State Cell) (e : Ending) → run m code places u ≡ run m code places t → (last e, v) ≡ stepped u (step m code places u) → (e, v) ≡ run m code places t
  finished t u v e same last =
      let x = ended_is u v (step m code places u) e last in
      ap (λ w. (e, w)) x.1 ∙ sym (run_end u e x.0) ∙ same
