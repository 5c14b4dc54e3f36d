use Rattle.std.proofs.Common.{◌≡◌, Ok, SFits, rules}
use mir.Syntax.{w128}
use Rattle.std.proofs.lemmas.Int.{to_z-of_z}
use Rattle.wording.specs.Numerals.{read_within}
use Rattle.wording.specs.Conversions.{converted}
use Rattle.wording.proofs.numerals.within.Goals as goal

pub returns : goal.returns
returns g c =
    let z = c.in_ok-number.number in
    let f : SFits w128 z = search rules in
    let e : read_within c.args.low c.args.high c.args.number ≡ Ok z = search rules in
    let is : c.map_err.result ≡ converted c.try_from.result = search rules in
    rw e (c.try_from.result, simp to_z-of_z at c.try_from.ensures, is)
