-- The tokens that the grammar speaks of. Assumes nothing.
use Rattle.std.specs.Prelude.{ℕ, Bool, false, ◌==◌}
use Rattle.reckoning.specs.declared.Operator.{Operator}
use Rattle.language.specs.Tree.{Name}

-- the tokens that say nothing but which they are
pub data Mark : Type 0 where
  -- ( ) [ ]
  round : Mark
  end_round : Mark
  square : Mark
  end_square : Mark
  -- { }
  brace : Mark
  end_brace : Mark
  comma : Mark
  semicolon : Mark
  -- the kept words
  int_word : Mark
  return_word : Mark
  if_word : Mark
  else_word : Mark
  while_word : Mark
  for_word : Mark

pub data Lexeme : Type 0 where
  numeral : ℕ → Lexeme
  identifier : Name → Lexeme
  -- a sign between two operands; "-" also stands before one
  operator : Operator → Lexeme
  -- !
  exclamation : Lexeme
  -- =
  equals : Lexeme
  mark : Mark → Lexeme

-- a lexeme and its place in the text
abbrev pub Token : Type 0
Token = Lexeme × ℕ

abbrev pub code : Mark → ℕ
code round = 0
code end_round = 1
code square = 2
code end_square = 3
code brace = 4
code end_brace = 5
code comma = 6
code semicolon = 7
code int_word = 8
code return_word = 9
code if_word = 10
code else_word = 11
code while_word = 12
code for_word = 13

-- whether a lexeme is this mark
abbrev pub is : Mark → Lexeme → Bool
is m (numeral n) = false
is m (identifier x) = false
is m (operator o) = false
is m exclamation = false
is m equals = false
is m (mark l) = code m == code l
