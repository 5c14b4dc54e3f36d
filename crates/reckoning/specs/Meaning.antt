-- What a reckoning means, and the laws that it obeys. Assumes nothing.
use Rattle.std.specs.Prelude.{◌≡◌, ℕ, ◌+◌, ◌*◌, ◌≤◌, Bool, true, false, cond, not, ◌&&◌, ℤ, pos, negsuc, Some, Ok, Option, Result, ◌==◌, int_le, int_lt}
use Rattle.reckoning.specs.declared.base.Comparison.{Comparison}
use Rattle.reckoning.specs.declared.base.Comparison.TheVariants.{Equal, NotEqual, Less, AtMost, Greater, AtLeast}
use Rattle.reckoning.specs.declared.base.Operator.{Operator}
use Rattle.reckoning.specs.declared.base.Operator.TheVariants.{Add, Subtract, Multiply, Divide, Remainder, Compare}
use Rattle.reckoning.specs.declared.base.Stop.{Stop}
use Rattle.reckoning.specs.declared.base.Stop.TheVariants.{OutOfRange, ZeroDivisor, Kept47, Kept48, Kept49, Kept50, Kept51, Kept52, Kept53, Kept54, Kept55, Kept56, Kept57, Kept58, Kept59}

abbrev pub number : Stop → ℕ
number OutOfRange = 45
number ZeroDivisor = 46
number Kept47 = 47
number Kept48 = 48
number Kept49 = 49
number Kept50 = 50
number Kept51 = 51
number Kept52 = 52
number Kept53 = 53
number Kept54 = 54
number Kept55 = 55
number Kept56 = 56
number Kept57 = 57
number Kept58 = 58
number Kept59 = 59

-- A reckoning's cells: the cell of a number and back, the operations, each a cell or a stop, and the test, yes, no or a stop.
pub record Meaning (Cell : Type 0) : Type 0 where
  pub whole : ℕ → Cell
  pub place : Cell → Option ℕ
  pub add : Cell → Cell → Result Cell Stop
  pub subtract : Cell → Cell → Result Cell Stop
  pub multiply : Cell → Cell → Result Cell Stop
  pub divide : Cell → Cell → Result Cell Stop
  pub remainder : Cell → Cell → Result Cell Stop
  pub negate : Cell → Result Cell Stop
  pub compare : Comparison → Cell → Cell → Result Cell Stop
  pub test : Cell → Result Bool Stop

-- The largest number that a cell must be able to stand for.
abbrev pub largest : ℕ
largest = 16383

pub record Laws {Cell : Type 0} (m : Meaning Cell) : Type 0 where
  -- place(c) is n exactly when c is whole(n)
  pub place_whole : (n : ℕ) → n ≤ largest → m.place (m.whole n) ≡ Some n
  pub whole_place : (c : Cell) (n : ℕ) → m.place c ≡ Some n → (n ≤ largest) × (c ≡ m.whole n)
  -- sums and products of wholes are wholes
  pub sum : (a b : ℕ) → a + b ≤ largest → m.add (m.whole a) (m.whole b) ≡ Ok (m.whole (a + b))
  pub product : (a b : ℕ) → a ≤ largest → b ≤ largest → a * b ≤ largest → m.multiply (m.whole a) (m.whole b) ≡ Ok (m.whole (a * b))
  -- whole(0) tests no, every other whole yes
  pub test_zero : m.test (m.whole 0) ≡ Ok false
  pub test_more : (n : ℕ) → 1 ≤ n → n ≤ largest → m.test (m.whole n) ≡ Ok true

-- An operator as the reckoning has it.
abbrev pub applied : {Cell : Type 0} → Meaning Cell → Operator → Cell → Cell → Result Cell Stop
applied m Add = m.add
applied m Subtract = m.subtract
applied m Multiply = m.multiply
applied m Divide = m.divide
applied m Remainder = m.remainder
applied m (Compare how) = m.compare how

abbrev eq_z : ℤ → ℤ → Bool
eq_z (pos a) (pos b) = a == b
eq_z (pos a) (negsuc b) = false
eq_z (negsuc a) (pos b) = false
eq_z (negsuc a) (negsuc b) = a == b

abbrev pub is_zero : ℤ → Bool
is_zero z = eq_z z (pos 0)

abbrev pub within : ℤ → ℤ → ℤ → Bool
within low high z = int_le low z && int_le z high

-- A comparison of two whole numbers.
abbrev pub holds : Comparison → ℤ → ℤ → Bool
holds Equal a b = eq_z a b
holds NotEqual a b = not (eq_z a b)
holds Less a b = int_lt a b
holds AtMost a b = int_le a b
holds Greater a b = int_lt b a
holds AtLeast a b = int_le b a

-- What a comparison gives the whole of.
abbrev pub flag : Bool → ℕ
flag b = cond b 1 0
