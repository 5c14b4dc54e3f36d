use Rattle.std.proofs.Common.{◌<◌, [], ◌∷◌, ◌++◌, length, take, Err, ap, ◌∙◌, rules, arith}
use Rattle.std.proofs.lemmas.List.{take_more_set}
use Rattle.std.proofs.lemmas.Result.{err_from_is_err_and}
use Rattle.sheet.specs.declared.nodes.Kind.{Kind}
use Rattle.sheet.specs.Nodes.{Node, shown}
use Rattle.sheet.proofs.Turns.{at_end, at_fault, at_limit, at_token}
use Rattle.sheet.proofs.Spelled.{all_told}
use Rattle.sheet.proofs.filling.fill.Goals as goal

pub returns-in_err-found : goal.returns-in_err-found
returns-in_err-found c =
    let p = err_from_is_err_and c.from_residual.result c.from_residual.ensures.1 in
    let same = ap (λ r. shown r c.loop-found.nodes) (p.1 ∙ ap Err p.2) ∙ at_fault c.loop-found.found-iterator c.next.new.self c.next.result c.next.ensures.steps c.min-limit.result c.loop-found.count _ _ c.loop-found.invariant.2 _ (search rules) in
    record { records = same; grammar = all_told c.args.text.now _ _ same }

pub returns-then-count-limit : goal.returns-then-count-limit
returns-then-count-limit c =
    let same = at_limit c.loop-found.found-iterator c.next.new.self c.next.result c.next.ensures.steps c.min-limit.result c.loop-found.count _ _ c.loop-found.invariant.2 c.in_ok-found.found (search rules) c.if-count-limit.true in
    record { records = same; grammar = all_told c.args.text.now _ _ same }

pub loop-found-preserved : goal.loop-found-preserved
loop-found-preserved c =
    let below : c.loop-found.count < c.min-limit.result = search rules in
    let room : c.loop-found.count < length c.loop-found.nodes = omega arith in
    let node : Kind → Node = λ k. record { item = k; place = c.in_ok-found.found.place; end = c.in_ok-found.found.end } in
    let more = take_more_set c.loop-found.nodes c.loop-found.count (node c.into.result) room ∙ ap (λ k. take c.loop-found.count c.loop-found.nodes ++ (node k ∷ [])) c.into.ensures in
    (search rules, search rules, at_token c.loop-found.found-iterator c.next.new.self c.next.result c.next.ensures.steps c.min-limit.result c.loop-found.count _ _ c.loop-found.invariant.2 c.in_ok-found.found _ more (search rules) below, search rules)

pub returns : goal.returns
returns c =
    let same = at_end c.loop-found.found-iterator c.next.new.self c.next.result c.next.ensures.steps c.min-limit.result c.loop-found.count _ _ c.loop-found.invariant.2 c.in-None.is in
    record { records = same; grammar = all_told c.args.text.now _ _ same }
