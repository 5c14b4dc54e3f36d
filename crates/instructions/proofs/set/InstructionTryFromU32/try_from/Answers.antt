use Rattle.std.proofs.Common.{◌≡◌, ◌/◌, ◌≤◌, None, sym, ap, arith}
use Rattle.std.specs.Option.{option_map, ok_or}
use Rattle.std.proofs.lemmas.Option.{slice_get_past}
use Rattle.instructions.specs.Words.{table, decoded, unknown}
use Rattle.instructions.proofs.set.InstructionTryFromU32.try_from.Goals as goal

pub returns-in_default : goal.returns-in_default
returns-in_default c =
    let past : 27 ≤ c.args.word / 16777216 = omega arith in
    let none : decoded c.args.word ≡ None = ap (option_map _) (slice_get_past table _ past) in
    (sym (ap (λ o. ok_or o (unknown c.args.word)) none), λ i is. cc)
