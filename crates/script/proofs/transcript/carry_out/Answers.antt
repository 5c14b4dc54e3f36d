use Rattle.std.proofs.Common.{◌+◌, Err, ap, ◌∙◌, arith, rules}
use Rattle.std.proofs.lemmas.Result.{err_from_is_err_and}
use Rattle.script.specs.Sessions.{state}
use Rattle.script.specs.Scripts.{left}
use Rattle.script.proofs.Folds.{step_raises}
use Rattle.script.proofs.transcript.carry_out.Goals as goal

pub returns-in_err-map_err-clause-meets : goal.returns-in_err-map_err-clause-meets
returns-in_err-map_err-clause-meets g c =
    let i = c.loop-i.invariant in
    let f = c.in-Some.ensures.steps in
    let p = err_from_is_err_and c.from_residual.result c.from_residual.ensures.1 in
    rw (p.1 ∙ ap Err p.2)
    (step_raises g.N.Reckoning.meaning g.N.Notation.reads g.N.Notation.writes (c.loop-i.at + 1) c.in-Some.i (left c.loop-i.i-iterator) c.in-Some.line.now (left c.next.new.self) (state c.loop-i.session) (state c.step.new.session) _ c.step.result c.map_err.result c.in_err-map_err.field-0.0 _
    f.0 (omega (arith, f.1, i.2.0)) c.step.ensures c.map_err.ensures.cases c.in_err-map_err.was (λ e h. search rules) i.3)
