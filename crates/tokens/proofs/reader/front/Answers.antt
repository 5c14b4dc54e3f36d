use Rattle.std.proofs.Common.{rules}
use Rattle.tokens.specs.Tokens.{inner, digit}
use Rattle.tokens.proofs.reader.front.Goals as goal

pub returns-then-is_letter : goal.returns-then-is_letter
returns-then-is_letter c =
    let is = c.front_length-length.ensures.is inner (λ b r e. e) in
    search rules

pub returns-then-is_ascii_digit : goal.returns-then-is_ascii_digit
returns-then-is_ascii_digit c =
    let is = c.front_length-length-then-is_ascii_digit.ensures.is digit (λ b r e. search rules) in
    search rules
