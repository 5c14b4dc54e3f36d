use Rattle.std.proofs.Common.{◌≡◌, Ok, sym, ap, ◌∙◌, subst, w32, SFits, rules}
use Rattle.std.proofs.lemmas.Int.{to_z-of_z}
use Rattle.machine.specs.Seen.{flowed}
use Rattle.machine.specs.Steps.{beside, act, step}
use Rattle.machine.proofs.Chains.{run_next, told, finished}
use Rattle.machine.proofs.Endings.{next_is, onward_step, halted_step, stopped_step, flowed_back}
use Rattle.machine.proofs.Progress.{step_falls}
use Rattle.machine.proofs.cycle.run.Given as given
use Rattle.machine.proofs.cycle.run.Goals as goal

went : (g : given.Over) (c : goal.In-Onward g) → step g.R.Reckoning.meaning c.args.code.now c.args.places.now (c.cycle.current, c.cycle.store) ≡ Ok (c.act.new.r, c.act.new.store)
went g c =
    next_is (c.cycle.current, c.cycle.store) (c.act.new.r, c.act.new.store) _
    (onward_step _ _ (beside c.args.places.now c.cycle.current.pc) (act g.R.Reckoning.meaning c.args.code.now c.cycle.current c.cycle.store) (subst (λ f. (Ok f, (c.act.new.r, c.act.new.store)) ≡ flowed (c.cycle.current, c.cycle.store) (act g.R.Reckoning.meaning c.args.code.now c.cycle.current c.cycle.store)) c.in-Onward.is c.in-Ok.ensures))

pub cycle-smaller : goal.cycle-smaller
cycle-smaller g c = step_falls g.R.Reckoning.meaning c.args.code.now c.args.places.now _ _ (went g c)

pub cycle-preserved : goal.cycle-preserved
cycle-preserved g c = sym (run_next g.R.Reckoning.meaning c.args.code.now c.args.places.now _ _ (went g c)) ∙ c.cycle.invariant

pub returns-in-Halts : goal.returns-in-Halts
returns-in-Halts g c =
    let m = g.R.Reckoning.meaning in
    let last = halted_step (c.cycle.current, c.cycle.store) _ (beside c.args.places.now c.cycle.current.pc) (act m c.args.code.now c.cycle.current c.cycle.store) (subst (λ f. (Ok f, (c.act.new.r, c.act.new.store)) ≡ flowed (c.cycle.current, c.cycle.store) (act m c.args.code.now c.cycle.current c.cycle.store)) c.in-Halts.is c.in-Ok.ensures) in
    let all = finished m c.args.code.now c.args.places.now (c.args.registers.now, c.args.store.now) (c.cycle.current, c.cycle.store) _ _ c.cycle.invariant last in
    let t = told m c.args.code.now c.args.places.now _ _ _ all in
    record { is = all; ran = t.0; alone = t.1 }

pub returns-in-Err : goal.returns-in-Err
returns-in-Err g c =
    let m = g.R.Reckoning.meaning in
    let same = flowed_back (c.cycle.current, c.cycle.store) (c.act.new.r, c.act.new.store) (act m c.args.code.now c.cycle.current c.cycle.store) _ c.in-Err.ensures in
    let f : SFits w32 c.act.new.r.pc = search rules in
    let place : c.place_beside-place.result ≡ beside c.args.places.now c.cycle.current.pc = simp to_z-of_z at c.place_beside-place.ensures ∙ ap (λ t. beside c.args.places.now t.0.pc) same in
    let last = stopped_step (c.cycle.current, c.cycle.store) (c.act.new.r, c.act.new.store) _ (beside c.args.places.now c.cycle.current.pc) (act m c.args.code.now c.cycle.current c.cycle.store) _ c.in-Err.ensures place in
    let all = finished m c.args.code.now c.args.places.now (c.args.registers.now, c.args.store.now) (c.cycle.current, c.cycle.store) _ _ c.cycle.invariant last in
    let t = told m c.args.code.now c.args.places.now _ _ _ all in
    record { is = all; ran = t.0; alone = t.1 }
