use Rattle.std.proofs.Common.{rules, tests}
use Rattle.std.proofs.lemmas.Iterator.{YieldsList-from_slice}
use Rattle.wording.proofs.Folding.{digits_folded}
use Rattle.wording.proofs.numerals.digits.Goals as goal

pub returns : goal.returns
returns c =
    let t = c.args.text.now in
    let ran = c.try_fold.ensures.ran in
    digits_folded _ (λ x. x.now) _ _ (λ a x q h. search (rules, tests)) c.try_fold.result _ ran.0 ran.1 ran.3 ran.2 t c.iter.result _ (YieldsList-from_slice t c.iter.ensures.rest) ran.4 ran.5 ran.6 (λ x h. search (rules, tests)) (search rules)
