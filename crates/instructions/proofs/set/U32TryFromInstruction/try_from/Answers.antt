use Rattle.std.proofs.Common.{◌≡◌, sym, ◌∙◌, rules}
use Rattle.std.specs.Option.{ok_or}
use Rattle.instructions.specs.Words.{operand, encoded, out_of_range}
use Rattle.instructions.proofs.RoundTrip.{instruction_back, ok_some}
use Rattle.instructions.proofs.set.U32TryFromInstruction.try_from.Goals as goal

pub returns : goal.returns
returns c =
    let is : c.ok_or.result ≡ ok_or (encoded c.args.instruction) (out_of_range (operand c.args.instruction)) = search rules in
    (is, λ w ok. instruction_back c.args.instruction w (ok_some _ _ w (sym is ∙ ok)))
