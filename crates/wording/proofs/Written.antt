-- The text of a number of thousandths, by its sign and its magnitude. Assumes nothing.
use Rattle.std.proofs.Common.{◌≡◌, refl, ℕ, suc, ◌+◌, ◌-◌, ◌/◌, ◌%◌, ◌^◌, ◌<◌, ◌≤◌, List, [], ◌∷◌, ◌++◌, ap, ◌∙◌, ⊎_elim, false, true, ℤ, pos, negsuc, nat_abs, int_lt, arith}
use Rattle.std.specs.Fmt.{decimal, format_spec, padded_integral, styled_decimal, char_count}
use Rattle.std.proofs.lemmas.Bool.{cases_lt}
use Rattle.std.proofs.lemmas.Fmt.{decimal_digit, decimal_step}
use Rattle.std.proofs.lemmas.Int.{ints}
use Rattle.wording.specs.Numerals.{in_thousandths, thousandths_written}

two_digits : (m : ℕ) → 10 ≤ m → m < 100 → decimal m ≡ (48 + m / 10) ∷ (48 + m % 10) ∷ []
two_digits m l h = decimal_step m l (omega arith) ∙ ap (λ ds. ds ++ ((48 + m % 10) ∷ [])) (decimal_digit (m / 10) (omega arith))

three_digits : (m : ℕ) → 100 ≤ m → m < 1000 → decimal m ≡ (48 + m / 10 / 10) ∷ (48 + m / 10 % 10) ∷ (48 + m % 10) ∷ []
three_digits m l h = decimal_step m (omega arith) (omega arith) ∙ ap (λ ds. ds ++ ((48 + m % 10) ∷ [])) (two_digits (m / 10) (omega arith) (omega arith))

-- what `{:03}` writes
digits : ℕ → List ℕ
digits m = (48 + m / 100) ∷ (48 + m / 10 % 10) ∷ (48 + m % 10) ∷ []

padded_three : (m : ℕ) → m < 1000 → padded_integral (format_spec 32 0 4 3 (2 ^ 64 - 1)) false [] (decimal m) ≡ digits m
unfolding padded_integral char_count digits
padded_three m h = ⊎_elim one (λ l. ⊎_elim (two l) three (cases_lt m 100)) (cases_lt m 10)
  where
    one : m < 10 → padded_integral (format_spec 32 0 4 3 (2 ^ 64 - 1)) false [] (decimal m) ≡ digits m
    one s = let a : m / 100 ≡ 0 = omega arith in let b : m / 10 % 10 ≡ 0 = omega arith in let d : m % 10 ≡ m = omega arith in rw (decimal_digit m s, a, b, d) refl

    two : 10 ≤ m → m < 100 → padded_integral (format_spec 32 0 4 3 (2 ^ 64 - 1)) false [] (decimal m) ≡ digits m
    two l s = let a : m / 100 ≡ 0 = omega arith in let b : m / 10 % 10 ≡ m / 10 = omega arith in rw (two_digits m l s, a, b) refl

    three : 100 ≤ m → padded_integral (format_spec 32 0 4 3 (2 ^ 64 - 1)) false [] (decimal m) ≡ digits m
    three l = let a : m / 10 / 10 ≡ m / 100 = omega arith in rw (three_digits m l h, a) refl

pub three_written : (n : ℕ) → decimal (n / 1000) ++ (46 ∷ styled_decimal (format_spec 32 0 4 3 (2 ^ 64 - 1)) (n % 1000)) ≡ in_thousandths n
unfolding digits
three_written n =
    let m = n % 1000 in
    let a : m / 100 ≡ n / 100 % 10 = omega arith in
    let b : m / 10 % 10 ≡ n / 10 % 10 = omega arith in
    let d : m % 10 ≡ n % 10 = omega arith in
    rw (padded_three m (omega arith), a, b, d, decimal_digit (n / 100 % 10) (omega arith), decimal_digit (n / 10 % 10) (omega arith), decimal_digit (n % 10) (omega arith)) refl

pub written_below_zero : (z : ℤ) (n : ℕ) (sign : List ℕ) → n ≡ nat_abs z → int_lt z (pos 0) ≡ true → sign ≡ 45 ∷ [] → sign ++ in_thousandths n ≡ thousandths_written z
written_below_zero (pos m) n sign is low mark = absurd (grind (arith, ints))
written_below_zero (negsuc m) n sign is low mark = let e : suc m ≡ m + 1 = omega arith in rw (mark, is) (ap (λ k. 45 ∷ in_thousandths k) e)

pub written_from_zero : (z : ℤ) (n : ℕ) (sign : List ℕ) → n ≡ nat_abs z → int_lt z (pos 0) ≡ false → sign ≡ [] → sign ++ in_thousandths n ≡ thousandths_written z
written_from_zero (pos m) n sign is low mark = rw (mark, is) refl
written_from_zero (negsuc m) n sign is low mark = cc
