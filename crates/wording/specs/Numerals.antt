-- Numbers in decimal digits: what a word stands for, and how a number is written. Assumes nothing.
use Rattle.std.specs.Prelude.{ℕ, ◌+◌, ◌-◌, ◌*◌, ◌/◌, ◌%◌, Bool, false, cond, ◌&&◌, List, [], ◌∷◌, ◌++◌, ℤ, pos, negsuc, neg_ℤ, Some, None, Ok, Err, decimal, Option, Result, ◌==◌, int_le, nat_le, nat_lt}
use Rattle.std.specs.Option.{option_map}
use Rattle.wording.specs.declared.numerals.Misread.{Misread}
use Rattle.wording.specs.declared.numerals.Misread.TheVariants.{NotANumber, OutOfRange}
use Rattle.wording.specs.Pieces.{cut}

-- '0' to '9'
abbrev pub digit : ℕ → Bool
digit b = nat_le 48 b && nat_le b 57

-- The number that digits stand for after those of n.
abbrev pub digits_after : ℕ → List ℕ → Option ℕ
digits_after n [] = Some n
digits_after n (b ∷ bs) = cond (digit b) (digits_after (10 * n + (b - 48)) bs) None

-- One digit or more.
abbrev pub digits : List ℕ → Option ℕ
digits [] = None
digits (b ∷ bs) = digits_after 0 (b ∷ bs)

-- Whether there is a minus sign in front, and what follows it.
abbrev pub minus : List ℕ → Bool
minus [] = false
minus (b ∷ bs) = b == 45

abbrev pub unsigned : List ℕ → List ℕ
unsigned [] = []
unsigned (b ∷ bs) = cond (b == 45) bs (b ∷ bs)

abbrev pub signed : Bool → ℕ → ℤ
signed negative n = cond negative (neg_ℤ (pos n)) (pos n)

-- A whole number: digits, with a minus sign before them or none.
abbrev pub integer : List ℕ → Option ℤ
integer t = option_map (signed (minus t)) (digits (unsigned t))

-- One to three digits after the point, in thousandths.
abbrev pub fraction : List ℕ → Option ℕ
fraction [] = None
fraction (a ∷ []) = option_map (λ n. 100 * n) (digits (a ∷ []))
fraction (a ∷ b ∷ []) = option_map (λ n. 10 * n) (digits (a ∷ b ∷ []))
fraction (a ∷ b ∷ c ∷ []) = digits (a ∷ b ∷ c ∷ [])
fraction (a ∷ b ∷ c ∷ d ∷ ds) = None

-- Both numbers, if there are both.
abbrev pub joined : Option ℕ → Option ℕ → Option ℕ
joined None f = None
joined (Some n) None = None
joined (Some n) (Some f) = Some (1000 * n + f)

-- Digits, or digits, a point and one to three digits.
abbrev pub scaled_at : List ℕ → Option (List ℕ × List ℕ) → Option ℕ
scaled_at t None = option_map (λ n. 1000 * n) (digits t)
scaled_at t (Some p) = joined (digits p.0) (fraction p.1)

abbrev pub scaled : List ℕ → Option ℕ
scaled t = scaled_at t (cut 46 t)

-- The thousandths of a number with up to three digits after the point.
abbrev pub thousandths : List ℕ → Option ℤ
thousandths t = option_map (signed (minus t)) (scaled (unsigned t))

-- The number, if it lies from low to high.
abbrev pub read_within : ℤ → ℤ → Option ℤ → Result ℤ Misread
read_within low high None = Err NotANumber
read_within low high (Some z) = cond (int_le low z && int_le z high) (Ok z) (Err OutOfRange)

-- The number, if it lies from 0 to below count.
abbrev pub read_below : ℕ → Option ℤ → Result ℕ Misread
read_below count None = Err NotANumber
read_below count (Some (pos n)) = cond (nat_lt n count) (Ok n) (Err OutOfRange)
read_below count (Some (negsuc n)) = Err OutOfRange

-- A number of thousandths without its sign: three digits after the point.
abbrev pub in_thousandths : ℕ → List ℕ
in_thousandths n = decimal (n / 1000) ++ (46 ∷ decimal (n / 100 % 10) ++ (decimal (n / 10 % 10) ++ decimal (n % 10)))

abbrev pub thousandths_written : ℤ → List ℕ
thousandths_written (pos n) = in_thousandths n
thousandths_written (negsuc n) = 45 ∷ in_thousandths (n + 1)
