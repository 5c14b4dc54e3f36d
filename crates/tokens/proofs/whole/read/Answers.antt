use Rattle.std.proofs.Common.{rules, Err, ap, ◌∙◌}
use Rattle.std.proofs.lemmas.Result.{err_from_is_err_and}
use Rattle.tokens.proofs.Cuts.{counted_whole}
use Rattle.tokens.proofs.Turns.{at_end, at_fault, at_limit, at_token}
use Rattle.tokens.proofs.whole.read.Goals as goal

pub returns-in_err-found : goal.returns-in_err-found
returns-in_err-found c =
    let p = err_from_is_err_and c.from_residual.result c.from_residual.ensures.1 in
    let same = p.1 ∙ ap Err p.2 ∙ at_fault c.loop-found.found-iterator c.next.new.self c.next.result c.next.ensures.steps _ _ _ c.loop-found.invariant.2 _ (search rules) in
    record { is = same; whole = counted_whole c.args.text.now c.args.records _ same }

pub returns-then-count-limit : goal.returns-then-count-limit
returns-then-count-limit c =
    let same = at_limit c.loop-found.found-iterator c.next.new.self c.next.result c.next.ensures.steps c.min-limit.result c.loop-found.count _ c.loop-found.invariant.2 c.in_ok-found.found (search rules) c.if-count-limit.true in
    record { is = same; whole = counted_whole c.args.text.now c.args.records _ same }

pub loop-found-preserved : goal.loop-found-preserved
loop-found-preserved c =
    (search rules, search rules, at_token c.loop-found.found-iterator c.next.new.self c.next.result c.next.ensures.steps c.min-limit.result c.loop-found.count _ c.loop-found.invariant.2 c.in_ok-found.found (search rules) (search rules), search rules)

pub returns : goal.returns
returns c =
    let same = at_end c.loop-found.found-iterator c.next.new.self c.next.result c.next.ensures.steps _ _ _ c.loop-found.invariant.2 c.in-None.is in
    record { is = same; whole = counted_whole c.args.text.now c.args.records _ same }
