use Rattle.std.proofs.Common.{SFits, w64}
use mir.Syntax.{w128}
use Rattle.std.proofs.lemmas.Int.{to_z-of_z}
use Rattle.wording.proofs.Counting.{widened, converted_within}
use Rattle.wording.proofs.numerals.within_i64.Goals as goal

pub returns : goal.returns
returns c negative o e =
    let low : SFits w64 c.args.low = c.ranges.low in
    let high : SFits w64 c.args.high = c.ranges.high in
    let low_wide : SFits w128 c.args.low = widened c.args.low low in
    let high_wide : SFits w128 c.args.high = widened c.args.high high in
    let is = simp (c.from.ensures, c.from-2.ensures, to_z-of_z) at c.within.ensures in
    converted_within _ negative c.args.low c.args.high o c.args.number c.within.result low high e is
