-- A sheet whose names are resolved: a variable is a region and an offset in it, a function its number in the text.
-- Brackets are gone, and a for is the while that it stands for. Assumes nothing.
use Rattle.std.specs.Prelude.{ℕ, suc, List}
use Rattle.reckoning.specs.declared.Operator.{Operator}

-- Where a variable lies: among the sheet's cells, or in the frame of its function.
pub data Region : Type 0 where
  on_sheet : Region
  in_frame : Region

mutual
  pub data Expression : Type 0 where
    constant : ℕ → Expression
    -- what the variable at an offset holds, or an element of it
    value : Region → ℕ → Subscripts → Expression
    assignment : Region → ℕ → Subscripts → Expression → Expression
    -- a function's number and the place of "("
    invocation : ℕ → ℕ → Arguments → Expression
    negation : ℕ → Expression → Expression
    inversion : ℕ → Expression → Expression
    operation : Operator → ℕ → Expression → Expression → Expression

  pub data Subscripts : Type 0 where
    whole_of : Subscripts
    -- the place of "[", the number of elements, the cells that one of them takes, and the index
    subscript : ℕ → ℕ → ℕ → Expression → Subscripts → Subscripts

  pub data Arguments : Type 0 where
    none : Arguments
    also : Expression → Arguments → Arguments

mutual
  pub data Statement : Type 0 where
    perform : Expression → Statement
    sequence : Statements → Statement
    give : Expression → Statement
    when : ℕ → Expression → Statement → Statement
    either : ℕ → Expression → Statement → Statement → Statement
    repeat : ℕ → Expression → Statement → Statement

  pub data Statements : Type 0 where
    finish : Statements
    first : Statement → Statements → Statements

-- how many arguments there are
abbrev pub arity : Arguments → ℕ
arity none = 0
arity (also e es) = suc (arity es)

-- A function: how many parameters it has, the cells of its own variables, and its body.
pub record Routine : Type 0 where
  pub parameters : ℕ
  pub locals : ℕ
  pub body : Statements

-- A sheet: the cells of its variables, and its functions in text order.
pub record Program : Type 0 where
  pub cells : ℕ
  pub routines : List Routine
