use Rattle.std.proofs.Common.{◌≡◌, ◌-◌, ◌/◌, ◌%◌, ◌^◌, ◌∷◌, ◌++◌, ◌∙◌, string_bytes, ap, arith, rules, w32, SFits}
use Rattle.std.specs.Fmt.{decimal, format_spec, styled_decimal}
use Rattle.std.proofs.lemmas.Int.{to_z-of_z}
use Rattle.std.proofs.lemmas.Result.{IfOk-weaker}
use Rattle.wording.specs.Numerals.{in_thousandths, thousandths_written}
use Rattle.wording.proofs.Written.{three_written, written_below_zero, written_from_zero}
use Rattle.wording.proofs.numerals.written_thousandths.Goals as goal
use Rattle.wording.proofs.numerals.written_thousandths.Goals.{then-thousandths-lt0, else-thousandths-lt0}

pub returns : goal.returns
returns c =
    let f : SFits w32 c.args.thousandths = search rules in
    let n = c.unsigned_abs-n.result in
    let abs = simp to_z-of_z at c.unsigned_abs-n.ensures.value in
    let sign = c.if-thousandths-lt0.sign.now in
    let laid : c.laid_out.result ≡ format_spec 32 0 4 3 (2 ^ 64 - 1) = search rules in
    let digits : sign ++ (decimal (n / 1000) ++ (46 ∷ styled_decimal c.laid_out.result (n % 1000))) ≡ sign ++ in_thousandths n = rw laid (ap (λ t. sign ++ t) (three_written n)) in
    let text : sign ++ in_thousandths n ≡ thousandths_written c.args.thousandths =
    elim c.if-thousandths-lt0.branch [
      | then-thousandths-lt0 w ↦ written_below_zero c.args.thousandths _ sign abs (simp to_z-of_z at w.if-thousandths-lt0.true) (ap (λ b. b.now) w.sign-is)
      | else-thousandths-lt0 w ↦ written_from_zero c.args.thousandths _ sign abs (simp to_z-of_z at w.if-thousandths-lt0.false) (ap (λ b. b.now) w.sign-is)
    ]
    in
    IfOk-weaker c.format.result _ (λ s. string_bytes s ≡ thousandths_written c.args.thousandths) (λ s h. h ∙ ap (λ m. sign ++ (decimal (n / 1000) ++ (46 ∷ styled_decimal c.laid_out.result m))) (omega arith) ∙ digits ∙ text) c.format.ensures.ok
