use Rattle.std.proofs.Common.{rules, ◌≡◌}
use Rattle.tokens.specs.Tokens.{short, single}
use Rattle.tokens.specs.Answers.{measured}
use Rattle.tokens.proofs.Fronts.{signed_none, signed_short}
use Rattle.tokens.proofs.reader.sign.Goals.{else-behind-lt1-via-then-behind-lt1, else-behind-lt1-via-in-len1-up+in-None-1}
use Rattle.tokens.proofs.reader.sign.Goals as goal

pub returns-2 : goal.returns-2
returns-2 c =
    let s : measured c.ok_or.result ≡ short (single c.args.first) = search rules in
    elim c.else-behind-lt1.branch [ else-behind-lt1-via-then-behind-lt1 w ↦ search (rules, signed_none, s) | else-behind-lt1-via-in-len1-up+in-None-1 w ↦ search (rules, signed_short, s) ]
