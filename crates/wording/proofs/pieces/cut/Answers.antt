use Rattle.std.proofs.Common.{rules, tests, sym, ◌∙◌, Some, None}
use Rattle.std.specs.Bool.{◌==◌}
use Rattle.std.proofs.lemmas.List.{take_rest}
use Rattle.std.proofs.lemmas.Iterator.{YieldsList-from_slice}
use Rattle.std.proofs.lemmas.Iterator.Search.{position_from_yields_List}
use Rattle.wording.proofs.Cuts.{cut_is}
use Rattle.wording.proofs.pieces.cut.Goals as goal

pub returns-in_err-i : goal.returns-in_err-i
returns-in_err-i c =
    let at = position_from_yields_List (λ b. b == c.args.at) _ _ _ c.position.ensures.ran (YieldsList-from_slice _ c.iter.ensures.rest) (λ x b q k. search (rules, tests)) in
    rw c.from_residual.ensures (sym (cut_is c.args.at c.args.bytes.now None (sym c.in_err-i.was ∙ at)))

pub returns : goal.returns
returns c =
    let at = position_from_yields_List (λ b. b == c.args.at) _ _ _ c.position.ensures.ran (YieldsList-from_slice _ c.iter.ensures.rest) (λ x b q k. search (rules, tests)) in
    rw take_rest (sym (cut_is c.args.at c.args.bytes.now (Some c.in_ok-i.i) (sym c.in_ok-i.was ∙ at)))
