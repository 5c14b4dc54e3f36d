-- How the cells of a reckoning are written. Assumes nothing.
use Rattle.std.specs.Prelude.{ℕ, List, ℤ, pos, negsuc, Option}
use Rattle.std.specs.Option.{option_map}
use Rattle.std.specs.Result.{result_ok}
use Rattle.reckoning.specs.declared.in_weights.Weight.{Weight}
use Rattle.reckoning.specs.Weights.{lowest, highest, weight, nearest}
use Rattle.wording.specs.Numerals.{integer, thousandths, read_within, thousandths_written}

-- A count is a whole number of 32 bits; negsuc n is -(n + 1).
abbrev pub count_read : List ℕ → Option ℤ
count_read w = result_ok (read_within (negsuc 2147483647) (pos 2147483647) (integer w))

-- A weight is a number of kilograms with up to three digits after the point.
abbrev pub weight_read : List ℕ → Option Weight
weight_read w = option_map weight (result_ok (read_within lowest highest (thousandths w)))

abbrev pub weight_written : Weight → List ℕ
weight_written w = thousandths_written (nearest w)
