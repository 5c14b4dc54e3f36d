-- Numbers converted to a type of fewer. Assumes nothing.
use Rattle.std.specs.Prelude.{◌≡◌, ℤ, Ok, Err, Result}
use Rattle.wording.specs.declared.numerals.Misread.{Misread}
use Rattle.wording.specs.declared.numerals.Misread.TheVariants.{OutOfRange}

-- What a conversion gave, where it gives an error only for a number that the type has not.
abbrev pub converted : {T E : Type 0} → Result T E → Result T Misread
converted (Ok x) = Ok x
converted (Err e) = Err OutOfRange

-- A number, converted, or the same error.
abbrev pub IsConverted : {T E : Type 0} → (ℤ → Result T E → Type 0) → Result ℤ Misread → Result T Misread → Type 0
IsConverted gives (Err e) r = r ≡ Err e
IsConverted {T} {E} gives (Ok z) r = (t : Result T E) × gives z t × (r ≡ converted t)
