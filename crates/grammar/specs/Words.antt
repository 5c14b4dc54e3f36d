-- The words of a tree, and which trees the grammar has. Assumes nothing.
use Rattle.std.specs.Prelude.{◌≡◌, ℕ, ◌<◌, ◌≤◌, List, [], ◌∷◌, ◌++◌, Some, None, Option}
use Rattle.std.specs.List.{AllByRecursion}
use Rattle.reckoning.specs.declared.Operator.{Operator}
use Rattle.reckoning.specs.declared.Operator.TheVariants.{Add, Subtract, Multiply, Divide, Remainder, Compare}
use Rattle.reckoning.specs.declared.Comparison.TheVariants.{Equal, NotEqual, Less, AtMost, Greater, AtLeast}
use Rattle.language.specs.Tree.{Sign, minus, bang, Expr, number, variable, call, unary, binary, assign, brackets, Indices, plain, index, Args, no_args, argument, Stmt, expr, block, return, if_then, if_else, while, for, Stmts, end, then, Variable, Function, Sheet}
use Rattle.grammar.specs.Lexemes.{Mark, round, end_round, square, end_square, brace, end_brace, comma, semicolon, int_word, return_word, if_word, else_word, while_word, for_word, Lexeme, numeral, identifier, operator, exclamation, equals, mark, Token}

-- a lexeme, with its place where the tree keeps it
abbrev pub Word : Type 0
Word = Lexeme × Option ℕ

abbrev pub free : Mark → Word
free m = (mark m, None)

abbrev pub placed : Lexeme → ℕ → Word
placed l p = (l, Some p)

abbrev pub sign_lexeme : Sign → Lexeme
sign_lexeme minus = operator Subtract
sign_lexeme bang = exclamation

abbrev mutual
  pub words : Expr → List Word
  words (number n) = (numeral n, None) ∷ []
  words (variable p x is) = placed (identifier x) p ∷ words_indices is
  words (call p x q es) = placed (identifier x) p ∷ placed (mark round) q ∷ (words_args es ++ (free end_round ∷ []))
  words (unary s p e) = placed (sign_lexeme s) p ∷ words e
  words (binary o p l r) = words l ++ (placed (operator o) p ∷ words r)
  words (assign p l r) = words l ++ (placed equals p ∷ words r)
  words (brackets e) = free round ∷ (words e ++ (free end_round ∷ []))

  pub words_indices : Indices → List Word
  words_indices plain = []
  words_indices (index p e is) = placed (mark square) p ∷ (words e ++ (free end_square ∷ words_indices is))

  pub words_args : Args → List Word
  words_args no_args = []
  words_args (argument e es) = words e ++ words_more es

  -- the arguments behind the first
  pub words_more : Args → List Word
  words_more no_args = []
  words_more (argument e es) = free comma ∷ (words e ++ words_more es)

abbrev mutual
  pub words_statement : Stmt → List Word
  words_statement (expr e) = words e ++ (free semicolon ∷ [])
  words_statement (block ss) = free brace ∷ (words_statements ss ++ (free end_brace ∷ []))
  words_statement (return e) = free return_word ∷ (words e ++ (free semicolon ∷ []))
  words_statement (if_then p c s) = placed (mark if_word) p ∷ free round ∷ (words c ++ (free end_round ∷ words_statement s))
  words_statement (if_else p c s t) = placed (mark if_word) p ∷ free round ∷ (words c ++ (free end_round ∷ (words_statement s ++ (free else_word ∷ words_statement t))))
  words_statement (while p c s) = placed (mark while_word) p ∷ free round ∷ (words c ++ (free end_round ∷ words_statement s))
  words_statement (for p a b c s) = placed (mark for_word) p ∷ free round ∷ (words a ++ (free semicolon ∷ (words b ++ (free semicolon ∷ (words c ++ (free end_round ∷ words_statement s))))))

  pub words_statements : Stmts → List Word
  words_statements end = []
  words_statements (then s ss) = words_statement s ++ words_statements ss

abbrev pub words_sizes : List ℕ → List Word
words_sizes [] = []
words_sizes (n ∷ ns) = free square ∷ (numeral n, None) ∷ free end_square ∷ words_sizes ns

-- a type and a name
abbrev pub words_typed : Variable → List Word
words_typed v = free int_word ∷ placed (identifier v.name) v.place ∷ words_sizes v.sizes

abbrev pub words_variables : List Variable → List Word
words_variables [] = []
words_variables (v ∷ vs) = words_typed v ++ (free semicolon ∷ words_variables vs)

-- the parameters behind the first
abbrev pub words_others : List Variable → List Word
words_others [] = []
words_others (v ∷ vs) = free comma ∷ (words_typed v ++ words_others vs)

abbrev pub words_parameters : List Variable → List Word
words_parameters [] = []
words_parameters (v ∷ vs) = words_typed v ++ words_others vs

abbrev pub words_function : Function → List Word
words_function f = free int_word ∷ placed (identifier f.name) f.place ∷ free round ∷ (words_parameters f.parameters ++ (free end_round ∷ free brace ∷ (words_variables f.locals ++ (words_statements f.body ++ (free end_brace ∷ [])))))

abbrev pub words_functions : List Function → List Word
words_functions [] = []
words_functions (f ∷ fs) = words_function f ++ words_functions fs

abbrev pub words_sheet : Sheet → List Word
words_sheet s = words_variables s.variables ++ words_functions s.functions

-- a token's place is the one that the tree keeps, if it keeps one
abbrev pub Stands : ℕ → Option ℕ → Type 0
Stands p None = Unit {0}
Stands p (Some q) = p ≡ q

-- the tokens are these words
abbrev pub Spell : List Token → List Word → Type 0
Spell [] [] = Unit {0}
Spell [] (w ∷ ws) = ⊥
Spell (t ∷ ts) [] = ⊥
Spell (t ∷ ts) (w ∷ ws) = (t.0 ≡ w.0) × Stands t.1 w.1 × Spell ts ws

-- Levels: the higher binds the tighter. A right side of "=" has level 0.
abbrev pub level : Operator → ℕ
level Add = 3
level Subtract = 3
level Multiply = 4
level Divide = 4
level Remainder = 4
level (Compare Equal) = 1
level (Compare NotEqual) = 1
level (Compare Less) = 2
level (Compare AtMost) = 2
level (Compare Greater) = 2
level (Compare AtLeast) = 2

abbrev pub level_of : Expr → ℕ
level_of (number n) = 6
level_of (variable p x is) = 6
level_of (call p x q es) = 6
level_of (unary s p e) = 5
level_of (binary o p l r) = level o
level_of (assign p l r) = 0
level_of (brackets e) = 6

-- Precedence, grouping to the left, and at most one index.
abbrev mutual
  pub Ok : Expr → Type 0
  Ok (number n) = Unit {0}
  Ok (variable p x is) = OkIndices is
  Ok (call p x q es) = OkArgs es
  Ok (unary s p e) = Ok e × (5 ≤ level_of e)
  Ok (binary o p l r) = Ok l × Ok r × (level o ≤ level_of l) × (level o < level_of r)
  Ok (assign p l r) = Ok l × Ok r × (1 ≤ level_of l)
  Ok (brackets e) = Ok e

  pub OkIndices : Indices → Type 0
  OkIndices plain = Unit {0}
  OkIndices (index p e is) = Ok e × (is ≡ plain)

  pub OkArgs : Args → Type 0
  OkArgs no_args = Unit {0}
  OkArgs (argument e es) = Ok e × OkArgs es

-- A statement that an else behind it would not belong to: it does not end in an if without one.
abbrev pub Shut : Stmt → Type 0
Shut (expr e) = Unit {0}
Shut (block ss) = Unit {0}
Shut (return e) = Unit {0}
Shut (if_then p c s) = ⊥
Shut (if_else p c s t) = Shut t
Shut (while p c s) = Shut s
Shut (for p a b c s) = Shut s

abbrev mutual
  pub OkStatement : Stmt → Type 0
  OkStatement (expr e) = Ok e
  OkStatement (block ss) = OkStatements ss
  OkStatement (return e) = Ok e
  OkStatement (if_then p c s) = Ok c × OkStatement s
  OkStatement (if_else p c s t) = Ok c × OkStatement s × OkStatement t × Shut s
  OkStatement (while p c s) = Ok c × OkStatement s
  OkStatement (for p a b c s) = Ok a × Ok b × Ok c × OkStatement s

  pub OkStatements : Stmts → Type 0
  OkStatements end = Unit {0}
  OkStatements (then s ss) = OkStatement s × OkStatements ss

-- at most one size
abbrev pub Few : List ℕ → Type 0
Few [] = Unit {0}
Few (n ∷ ns) = ns ≡ []

abbrev pub OkVariable : Variable → Type 0
OkVariable v = Few v.sizes

abbrev pub OkParameter : Variable → Type 0
OkParameter v = v.sizes ≡ []

pub record OkFunction (f : Function) : Type 0 where
  pub parameters : AllByRecursion OkParameter f.parameters
  pub locals : AllByRecursion OkVariable f.locals
  pub body : OkStatements f.body

pub record OkSheet (s : Sheet) : Type 0 where
  pub variables : AllByRecursion OkVariable s.variables
  pub functions : AllByRecursion OkFunction s.functions

-- The tokens are a sheet, with this tree.
abbrev pub Spells : List Token → Sheet → Type 0
Spells ts s = OkSheet s × Spell ts (words_sheet s)

abbrev pub IsSheet : List Token → Type 0
IsSheet ts = (s : Sheet) × Spells ts s

-- Some sheet begins with these tokens.
abbrev pub Begins : List Token → Type 0
Begins ts = (more : List Token) × IsSheet (ts ++ more)
