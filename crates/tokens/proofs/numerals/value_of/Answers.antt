use Rattle.std.proofs.Common.{◌≡◌, ◌+◌, ◌-◌, ◌*◌, min, [], ◌∷◌, ◌++◌, rules, arith, refl}
use Rattle.std.proofs.iter.Yields.{fronts}
use Rattle.std.proofs.lemmas.Fn.{fold_over}
use Rattle.std.proofs.lemmas.Iterator.{YieldsList-from_slice}
use Rattle.std.proofs.lemmas.List.Sums.{fold-append}
use Rattle.tokens.specs.Tokens.{value}
use Rattle.tokens.proofs.numerals.value_of.Goals as goal

pub returns : goal.returns
returns c = fold_over fronts (λ y. y.now) _ (λ ds n. n ≡ min (value ds) 4294967295) _ (λ ds a x b f' j k.
    let more : value (ds ++ (x.now ∷ [])) ≡ 10 * value ds + (x.now - 48) = fold-append _ 0 ds (x.now ∷ []) in
    let is : b ≡ min (min (a * 10) 4294967295 + (x.now - 48)) 4294967295 = search rules in
    (omega arith, search rules)) c.iter.result c.args.digits.now _ _ (YieldsList-from_slice c.args.digits.now cc).runs refl c.fold.ensures.ran
