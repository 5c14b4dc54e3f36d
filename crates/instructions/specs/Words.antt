-- A word of code: eight high bits of number and a 24-bit two's complement operand. Assumes nothing.
use Rattle.std.specs.Prelude.{◌≡◌, ℕ, ◌+◌, ◌-◌, ◌*◌, ◌/◌, ◌%◌, Bool, cond, ◌&&◌, ◌||◌, List, [], ◌∷◌, ℤ, pos, negsuc, Some, None, Option, Ok, Result, ◌==◌, int_le, nat_lt}
use Rattle.std.specs.Option.{option_map}
use Rattle.std.specs.List.{slice_get}
use Rattle.reckoning.specs.declared.Comparison.{Comparison}
use Rattle.reckoning.specs.declared.Comparison.TheVariants.{Equal, NotEqual, Less, AtMost, Greater, AtLeast}
use Rattle.reckoning.specs.declared.Operator.{Operator}
use Rattle.reckoning.specs.declared.Operator.TheVariants.{Add, Subtract, Multiply, Divide, Remainder, Compare}
use Rattle.instructions.specs.declared.set.Instruction.{Instruction}
use Rattle.instructions.specs.declared.set.OperandRange.{OperandRange}
use Rattle.instructions.specs.declared.set.UnknownWord.{UnknownWord}
use Rattle.instructions.specs.declared.set.Instruction.TheVariants.{Halt, LoadConstant, LoadRelative, Load, Store, Pop, Operate, Negate, Not, Jump, JumpZero, Mark, Call, Enter, Allocate, Return, Check}

-- The instructions in the order of their numbers, each with the operand that it takes or ignores.
abbrev pub table : List (ℤ → Instruction)
table = (λ _. Halt) ∷ LoadConstant ∷ LoadRelative ∷ (λ _. Load) ∷ (λ _. Store) ∷ (λ _. Pop) ∷ (λ _. Operate Add) ∷ (λ _. Operate Subtract) ∷ (λ _. Operate Multiply) ∷ (λ _. Operate Divide) ∷ (λ _. Operate Remainder) ∷ (λ _. Operate (Compare Equal)) ∷ (λ _. Operate (Compare NotEqual)) ∷ (λ _. Operate (Compare Less)) ∷ (λ _. Operate (Compare AtMost)) ∷ (λ _. Operate (Compare Greater)) ∷ (λ _. Operate (Compare AtLeast)) ∷ (λ _. Negate) ∷ (λ _. Not) ∷ Jump ∷ JumpZero ∷ (λ _. Mark) ∷ Call ∷ Enter ∷ Allocate ∷ (λ _. Return) ∷ Check ∷ []

-- 24 bits in two's complement
abbrev pub signed : ℕ → ℤ
signed n = cond (nat_lt n 8388608) (pos n) (negsuc (16777215 - n))

abbrev pub decoded : ℕ → Option Instruction
decoded w = option_map (λ i. i (signed (w % 16777216))) (slice_get table (w / 16777216))

abbrev pub comparison_number : Comparison → ℕ
comparison_number Equal = 11
comparison_number NotEqual = 12
comparison_number Less = 13
comparison_number AtMost = 14
comparison_number Greater = 15
comparison_number AtLeast = 16

abbrev pub operator_number : Operator → ℕ
operator_number Add = 6
operator_number Subtract = 7
operator_number Multiply = 8
operator_number Divide = 9
operator_number Remainder = 10
operator_number (Compare how) = comparison_number how

abbrev pub number : Instruction → ℕ
number Halt = 0
number (LoadConstant n) = 1
number (LoadRelative j) = 2
number Load = 3
number Store = 4
number Pop = 5
number (Operate o) = operator_number o
number Negate = 17
number Not = 18
number (Jump to) = 19
number (JumpZero to) = 20
number Mark = 21
number (Call n) = 22
number (Enter q) = 23
number (Allocate k) = 24
number Return = 25
number (Check n) = 26

-- The operand of an instruction that takes one, and 0 of any other.
abbrev pub operand : Instruction → ℤ
operand Halt = pos 0
operand (LoadConstant n) = n
operand (LoadRelative j) = j
operand Load = pos 0
operand Store = pos 0
operand Pop = pos 0
operand (Operate o) = pos 0
operand Negate = pos 0
operand Not = pos 0
operand (Jump to) = to
operand (JumpZero to) = to
operand Mark = pos 0
operand (Call n) = n
operand (Enter q) = q
operand (Allocate k) = k
operand Return = pos 0
operand (Check n) = n

-- The 24 bits of a number from -8,388,608 to 8,388,607.
abbrev pub low_bits : ℤ → ℕ
low_bits (pos n) = n
low_bits (negsuc n) = 16777215 - n

-- The word of a number and an operand, if the operand has 24 bits.
abbrev pub word_of : ℕ → ℤ → Option ℕ
word_of n z = cond (int_le (negsuc 8388607) z && int_le z (pos 8388607)) (Some (16777216 * n + low_bits z)) None

-- The word of an instruction, if its operand has 24 bits.
abbrev pub encoded : Instruction → Option ℕ
encoded i = word_of (number i) (operand i)

-- Whether the instruction with this number takes an operand.
abbrev pub takes : ℕ → Bool
takes n = n == 1 || (n == 2 || (n == 19 || (n == 20 || (n == 22 || (n == 23 || (n == 24 || n == 26))))))

-- A word with an ignored operand put to 0.
abbrev pub plain : ℕ → ℕ
plain w = 16777216 * (w / 16777216) + cond (takes (w / 16777216)) (w % 16777216) 0

-- What is wrong with a word that is no instruction's, and with an operand that has no 24 bits.
abbrev pub unknown : ℕ → UnknownWord
unknown w = record { 0 = w }

abbrev pub out_of_range : ℤ → OperandRange
out_of_range z = record { 0 = z }

-- An instruction comes back from its word, and a word from its instruction, but for an ignored operand.
abbrev pub Decodes : Instruction → Result ℕ OperandRange → Type 0
Decodes i encoding = (w : ℕ) → encoding ≡ Ok w → decoded w ≡ Some i

abbrev pub Encodes : ℕ → Result Instruction UnknownWord → Type 0
Encodes w decoding = (i : Instruction) → decoding ≡ Ok i → encoded i ≡ Some (plain w)
