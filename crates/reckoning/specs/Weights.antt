-- Weights: a cell is a number of thousandths of a kilogram from -2,000,000,000 to 2,000,000,000. Assumes nothing.
use Rattle.std.specs.Prelude.{ℕ, ◌*◌, ◌/◌, ◌%◌, cond, not, ◌&&◌, ℤ, pos, negsuc, ◌+ℤ◌, ◌-ℤ◌, ◌*ℤ◌, neg_ℤ, Some, None, Ok, Err, Option, Result, ◌==◌, int_div, int_rem, nat_le}
use Rattle.std.specs.Int.{int_min, int_max}
use Rattle.reckoning.specs.declared.base.Stop.{Stop}
use Rattle.reckoning.specs.declared.base.Stop.TheVariants.{OutOfRange, ZeroDivisor}
use Rattle.reckoning.specs.declared.in_weights.Weight.{Weight}
use Rattle.reckoning.specs.Meaning.{Meaning, holds, is_zero, within, flag, largest}

-- negsuc n is -(n + 1)
abbrev pub lowest : ℤ
lowest = negsuc 1999999999

abbrev pub highest : ℤ
highest = pos 2000000000

abbrev pub weight : ℤ → Weight
weight z = record { thousandths = z }

-- the weight of z thousandths, if there is one
abbrev pub weighed : ℤ → Result Weight Stop
weighed z = cond (within lowest highest z) (Ok (weight z)) (Err OutOfRange)

-- what a weight counts as: no number of thousandths lies outside the range
abbrev pub nearest : Weight → ℤ
nearest w = int_max lowest (int_min w.thousandths highest)

-- n kilograms are 1,000 × n thousandths
abbrev pub kilograms : ℕ → Weight
kilograms n = weight (pos (1000 * n))

abbrev pub weight_place : ℤ → Option ℕ
weight_place (pos n) = cond (n % 1000 == 0 && nat_le (n / 1000) largest) (Some (n / 1000)) None
weight_place (negsuc n) = None

-- of thousandths; int_div drops the fraction toward zero, and int_rem has the sign of the left operand
abbrev pub weight_quotient : ℤ → ℤ → Result Weight Stop
weight_quotient a b = cond (is_zero b) (Err ZeroDivisor) (weighed (int_div (a *ℤ pos 1000) b))

abbrev pub weight_remainder : ℤ → ℤ → Result Weight Stop
weight_remainder a b = cond (is_zero b) (Err ZeroDivisor) (weighed (int_rem a b))

abbrev pub weights_meaning : Meaning Weight
weights_meaning = record {
  whole = kilograms;
  place = λ c. weight_place (nearest c);
  add = λ a b. weighed (nearest a +ℤ nearest b);
  subtract = λ a b. weighed (nearest a -ℤ nearest b);
  multiply = λ a b. weighed (int_div (nearest a *ℤ nearest b) (pos 1000));
  divide = λ a b. weight_quotient (nearest a) (nearest b);
  remainder = λ a b. weight_remainder (nearest a) (nearest b);
  negate = λ a. weighed (neg_ℤ (nearest a));
  compare = λ how a b. Ok (kilograms (flag (holds how (nearest a) (nearest b))));
  test = λ a. Ok (not (is_zero (nearest a)));
}
