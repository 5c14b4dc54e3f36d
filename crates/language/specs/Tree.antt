-- The tree of a sheet: the rule that a branch writes, as the grammar has it, with names as they are written.
-- A place is a byte offset in the text. Assumes nothing.
use Rattle.std.specs.Prelude.{ℕ, List}
use Rattle.reckoning.specs.declared.Operator.{Operator}

-- the bytes of a name
abbrev pub Name : Type 0
Name = List ℕ

-- the signs that stand before one operand
pub data Sign : Type 0 where
  minus : Sign
  bang : Sign

mutual
  pub data Expr : Type 0 where
    number : ℕ → Expr
    -- a variable: its name's place, its name, and an index for each "[" behind it
    variable : ℕ → Name → Indices → Expr
    -- a call: its name's place, its name, the place of "("
    call : ℕ → Name → ℕ → Args → Expr
    unary : Sign → ℕ → Expr → Expr
    -- an operator on two operands, with its sign's place
    binary : Operator → ℕ → Expr → Expr → Expr
    -- the place of "=", its left and its right side
    assign : ℕ → Expr → Expr → Expr
    brackets : Expr → Expr

  pub data Indices : Type 0 where
    plain : Indices
    -- the place of "[" and the index
    index : ℕ → Expr → Indices → Indices

  pub data Args : Type 0 where
    no_args : Args
    argument : Expr → Args → Args

-- The place of a statement is that of its word.
mutual
  pub data Stmt : Type 0 where
    expr : Expr → Stmt
    block : Stmts → Stmt
    return : Expr → Stmt
    if_then : ℕ → Expr → Stmt → Stmt
    if_else : ℕ → Expr → Stmt → Stmt → Stmt
    while : ℕ → Expr → Stmt → Stmt
    for : ℕ → Expr → Expr → Expr → Stmt → Stmt

  pub data Stmts : Type 0 where
    end : Stmts
    then : Stmt → Stmts → Stmts

-- A variable that is no array has no sizes, an array one for each index.
pub record Variable : Type 0 where
  pub place : ℕ
  pub name : Name
  pub sizes : List ℕ

pub record Function : Type 0 where
  pub place : ℕ
  pub name : Name
  -- a parameter has no sizes
  pub parameters : List Variable
  pub locals : List Variable
  pub body : Stmts

pub record Sheet : Type 0 where
  pub variables : List Variable
  pub functions : List Function
