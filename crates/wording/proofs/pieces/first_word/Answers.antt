use Rattle.std.proofs.Common.{ap, ◌∙◌, rules, tests, arith}
use Rattle.std.specs.Char.{is_ascii_whitespace}
use Rattle.std.proofs.lemmas.List.{nil_from_length}
use Rattle.std.proofs.lemmas.Iterator.{YieldsList-from_slice}
use Rattle.std.proofs.lemmas.Iterator.Search.{position_from_yields_List}
use Rattle.wording.specs.Pieces.{words}
use Rattle.wording.proofs.Spans.{or_all, words_trimmed, words_cut}
use Rattle.wording.proofs.pieces.first_word.Goals as goal

pub returns-then-is_empty : goal.returns-then-is_empty
returns-then-is_empty c =
    let rest = c.trim_ascii_start-rest.result.now in
    words_trimmed c.args.line.now rest c.trim_ascii_start-rest.ensures.value ∙ ap words (nil_from_length rest (search rules))

pub returns : goal.returns
returns c =
    let rest = c.trim_ascii_start-rest.result.now in
    let at = position_from_yields_List is_ascii_whitespace _ _ _ c.position.ensures.ran (YieldsList-from_slice _ c.iter.ensures.rest) (λ x b q k. search (rules, tests)) in
    let end = or_all rest c.unwrap_or-end.result c.position.result at c.unwrap_or-end.ensures in
    let cut = words_cut c.args.line.now rest c.unwrap_or-end.result c.trim_ascii_start-rest.ensures.value (search rules) end in
    grind (arith, cut, c.split_at.ensures.front, c.split_at.ensures.back)
