use Rattle.std.proofs.Common.{◌≡◌, codes, rules, sym, ap}
use Rattle.std.proofs.lemmas.Slice.Eq.{text_from_reads}
use Rattle.tokens.specs.Tokens.{kept}
use Rattle.tokens.proofs.spellings.kept_word.Goals as goal

pub returns-in-return : goal.returns-in-return
returns-in-return c =
    let is : c.args.bytes.now ≡ codes "return" = text_from_reads _ _ (search rules) (search rules) in
    sym (ap kept is)
