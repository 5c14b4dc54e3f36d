-- How the errors of a conversion are written. Assumes nothing.
use Rattle.std.specs.Prelude.{ℕ, List, ◌++◌, ℤ, codes, decimal}
use Rattle.std.specs.Fmt.{signed_decimal}

abbrev pub unknown_text : ℕ → List ℕ
unknown_text w = codes "no instruction has the word " ++ decimal w

abbrev pub range_text : ℤ → List ℕ
range_text z = codes "the operand " ++ (signed_decimal z ++ codes " has more than 24 bits")
