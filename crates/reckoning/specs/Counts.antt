-- Counts: a cell is a whole number from -2,147,483,648 to 2,147,483,647. Assumes nothing.
use Rattle.std.specs.Prelude.{ℕ, cond, not, ℤ, pos, negsuc, ◌+ℤ◌, ◌-ℤ◌, ◌*ℤ◌, neg_ℤ, Some, None, Ok, Err, Option, Result, int_div, int_rem, nat_le}
use Rattle.reckoning.specs.declared.base.Stop.{Stop}
use Rattle.reckoning.specs.declared.base.Stop.TheVariants.{OutOfRange, ZeroDivisor}
use Rattle.reckoning.specs.Meaning.{Meaning, holds, is_zero, within, flag, largest}

-- the count z, if there is one; negsuc n is -(n + 1)
abbrev pub counted : ℤ → Result ℤ Stop
counted z = cond (within (negsuc 2147483647) (pos 2147483647) z) (Ok z) (Err OutOfRange)

abbrev pub count_place : ℤ → Option ℕ
count_place (pos n) = cond (nat_le n largest) (Some n) None
count_place (negsuc n) = None

-- int_div drops the fraction toward zero, and int_rem has the sign of the left operand
abbrev pub counts_meaning : Meaning ℤ
counts_meaning = record {
  whole = pos;
  place = count_place;
  add = λ a b. counted (a +ℤ b);
  subtract = λ a b. counted (a -ℤ b);
  multiply = λ a b. counted (a *ℤ b);
  divide = λ a b. cond (is_zero b) (Err ZeroDivisor) (counted (int_div a b));
  remainder = λ a b. cond (is_zero b) (Err ZeroDivisor) (counted (int_rem a b));
  negate = λ a. counted (neg_ℤ a);
  compare = λ how a b. Ok (pos (flag (holds how a b)));
  test = λ a. Ok (not (is_zero a));
}
