-- Numbers cut off at the largest of 64 bits. Assumes nothing.
use Rattle.std.specs.Prelude.{ℕ, min, Option}
use Rattle.std.specs.Option.{option_map}

abbrev pub cap : ℕ → ℕ
cap n = min n 18446744073709551615

abbrev pub capped : Option ℕ → Option ℕ
capped o = option_map cap o
