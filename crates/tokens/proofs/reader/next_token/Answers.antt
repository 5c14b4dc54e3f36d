use Rattle.std.proofs.Common.{rules, ◌≡◌, ◌∙◌, Ok, Some, None, drop, ◌+◌, length, sym, ap, subst, arith, length-drop}
use Rattle.tokens.specs.Tokens.{next}
use Rattle.tokens.specs.Answers.{Found}
use Rattle.tokens.specs.Answers.{measured, answered}
use Rattle.tokens.specs.Laws.{First}
use Rattle.tokens.proofs.Cuts.{next_first}
use Rattle.tokens.proofs.Fronts.{Within, front_within}
use Rattle.tokens.proofs.reader.next_token.Goals as goal

pub overflow_add-place : goal.overflow_add-place
overflow_add-place c = omega (arith, c.front_length.ensures.few, ap length c.rest.ensures, length-drop c.args.from c.args.text.now)

pub overflow_add-result : goal.overflow_add-result
overflow_add-result c =
    let same : c.front.result ≡ Ok (c.in_ok-token.token, c.in_ok-token.length) = search rules in
    let fits = subst (Within c.rest-bytes.result.now) (sym (ap measured (sym same) ∙ c.front.ensures)) (front_within c.rest-bytes.result.now) in
    omega (arith, fits.1, ap length c.rest-bytes.ensures, length-drop (c.args.from + c.front_length.result) c.args.text.now)

pub returns-then-is_empty-clause-first : goal.returns-then-is_empty-clause-first
returns-then-is_empty-clause-first c =
    let is : Ok None ≡ next c.args.text.now c.args.from = search rules in
    subst (First c.args.from (drop c.args.from c.args.text.now)) (sym is) (next_first c.args.text.now c.args.from)

pub returns-clause-first : goal.returns-clause-first
returns-clause-first c =
    let found : Found = record { item = c.in_ok-token.token; place = c.args.from + c.front_length.result; end = c.args.from + c.front_length.result + c.in_ok-token.length } in
    let is : answered (Ok (Some found)) ≡ next c.args.text.now c.args.from = search rules in
    subst (First c.args.from (drop c.args.from c.args.text.now)) (sym is) (next_first c.args.text.now c.args.from)
