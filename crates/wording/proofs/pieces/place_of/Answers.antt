use Rattle.std.proofs.Common.{rules, tests}
use Rattle.std.proofs.lemmas.Iterator.{YieldsList-from_slice}
use Rattle.std.proofs.lemmas.Iterator.Search.{position_from_yields_List}
use Rattle.wording.proofs.Places.{is, place_is}
use Rattle.wording.proofs.pieces.place_of.Goals as goal

pub returns : goal.returns
returns c =
    let at = position_from_yields_List (is c.args.word.now) _ _ _ c.position.ensures.ran (YieldsList-from_slice _ c.iter.ensures.rest) (λ x b q k. search (rules, tests)) in
    let place = place_is c.args.word.now c.args.names.now in
    search (rules, tests)
