-- The translation: the code of a sheet whose names are resolved. Assumes nothing.
use Rattle.std.specs.Prelude.{ℕ, ◌+◌, max, List, [], ◌∷◌, ◌++◌, length, pos, negsuc, slice_index}
use Rattle.reckoning.specs.declared.Operator.TheVariants.{Add, Multiply}
use Rattle.instructions.specs.declared.Instruction.{Instruction}
use Rattle.instructions.specs.declared.Instruction.TheVariants.{Halt, LoadConstant, LoadRelative, Load, Store, Pop, Operate, Negate, Not, Jump, JumpZero, Mark, Call, Enter, Allocate, Return, Check}
use Rattle.language.specs.Resolved.{Region, on_sheet, in_frame, Expression, constant, value, assignment, invocation, negation, inversion, operation, Subscripts, whole_of, subscript, Arguments, none, also, arity, Statement, perform, sequence, give, when, either, repeat, Statements, finish, first, Routine, Program}

-- An instruction and the place beside it; 0 where a stop has no place of its own.
abbrev pub Line : Type 0
Line = Instruction × ℕ

-- The sheet's variables have addresses from 1; parameters, then local variables, count from 1 relative to the frame pointer.
abbrev pub base : Region → ℕ → Instruction
base on_sheet at = LoadConstant (pos (at + 1))
base in_frame at = LoadRelative (pos (at + 1))

-- Where functions start, by their numbers.
module _ (starts : List ℕ) where
  abbrev mutual
    pub code_expression : Expression → List Line
    code_expression (constant n) = (LoadConstant (pos n), 0) ∷ []
    code_expression (value r at js) = (base r at, 0) ∷ code_subscripts js ++ (Load, 0) ∷ []
    code_expression (assignment r at js e) = code_expression e ++ ((base r at, 0) ∷ code_subscripts js ++ (Store, 0) ∷ [])
    code_expression (invocation f p es) = (Mark, 0) ∷ code_arguments es ++ (LoadConstant (pos (slice_index starts f)), 0) ∷ (Call (pos (arity es)), p) ∷ []
    code_expression (negation p e) = code_expression e ++ (Negate, p) ∷ []
    code_expression (inversion p e) = code_expression e ++ (Not, p) ∷ []
    code_expression (operation o p l r) = code_expression l ++ (code_expression r ++ (Operate o, p) ∷ [])

    -- from the address of an array to that of an element
    pub code_subscripts : Subscripts → List Line
    code_subscripts whole_of = []
    code_subscripts (subscript p n each e js) = code_expression e ++ (Check (pos n), p) ∷ (LoadConstant (pos each), 0) ∷ (Operate Multiply, 0) ∷ (Operate Add, 0) ∷ code_subscripts js

    pub code_arguments : Arguments → List Line
    code_arguments none = []
    code_arguments (also e es) = code_expression e ++ code_arguments es

  -- A statement's code at an address.
  abbrev mutual
    pub code_statement : ℕ → Statement → List Line
    code_statement at (perform e) = code_expression e ++ (Pop, 0) ∷ []
    code_statement at (sequence ss) = code_statements at ss
    code_statement at (give e) = code_expression e ++ (LoadRelative (negsuc 2), 0) ∷ (Store, 0) ∷ (Return, 0) ∷ []
    code_statement at (when p e s) =
        let test = code_expression e in
        let body = code_statement (at + length test + 1) s in
        test ++ (JumpZero (pos (at + length test + 1 + length body)), p) ∷ body
    code_statement at (either p e s t) =
        let test = code_expression e in
        let body = code_statement (at + length test + 1) s in
        let past = at + length test + 1 + length body + 1 in
        let other = code_statement past t in
        test ++ ((JumpZero (pos past), p) ∷ body ++ (Jump (pos (past + length other)), 0) ∷ other)
    code_statement at (repeat p e s) =
        let test = code_expression e in
        let body = code_statement (at + length test + 1) s in
        test ++ ((JumpZero (pos (at + length test + 1 + length body + 1)), p) ∷ body ++ (Jump (pos at), p) ∷ [])

    pub code_statements : ℕ → Statements → List Line
    code_statements at finish = []
    code_statements at (first s ss) =
        let one = code_statement at s in
        one ++ code_statements (at + length one) ss

-- The most cells that the code of an expression holds above those that it finds.
abbrev mutual
  pub need_expression : Expression → ℕ
  need_expression (constant n) = 1
  need_expression (value r at js) = need_subscripts js
  need_expression (assignment r at js e) = max (need_expression e) (1 + need_subscripts js)
  need_expression (invocation f p es) = 4 + need_arguments es
  need_expression (negation p e) = need_expression e
  need_expression (inversion p e) = need_expression e
  need_expression (operation o p l r) = max (need_expression l) (1 + need_expression r)

  -- with the address among them, which the cells of an index and of an element's size lie above
  pub need_subscripts : Subscripts → ℕ
  need_subscripts whole_of = 1
  need_subscripts (subscript p n each e js) = max (max (1 + need_expression e) 3) (need_subscripts js)

  -- with the address of the function behind the arguments
  pub need_arguments : Arguments → ℕ
  need_arguments none = 1
  need_arguments (also e es) = max (need_expression e) (1 + need_arguments es)

abbrev mutual
  pub need_statement : Statement → ℕ
  need_statement (perform e) = need_expression e
  need_statement (sequence ss) = need_statements ss
  need_statement (give e) = max (need_expression e) 2
  need_statement (when p e s) = max (need_expression e) (need_statement s)
  need_statement (either p e s t) = max (need_expression e) (max (need_statement s) (need_statement t))
  need_statement (repeat p e s) = max (need_expression e) (need_statement s)

  pub need_statements : Statements → ℕ
  need_statements finish = 0
  need_statements (first s ss) = max (need_statement s) (need_statements ss)

-- A function's need: the cells of its variables, and the most that its body holds above them.
abbrev pub need : Routine → ℕ
need r = r.locals + need_statements r.body

abbrev pub code_routine : List ℕ → ℕ → Routine → List Line
code_routine starts at r = (Enter (pos (need r)), 0) ∷ (Allocate (pos r.locals), 0) ∷ code_statements starts (at + 2) r.body ++ (Return, 0) ∷ []

-- How many words a function's code has: no address changes that.
abbrev pub size : Routine → ℕ
size r = length (code_routine [] 0 r)

-- Functions follow one another in text order.
abbrev pub starts_from : ℕ → List Routine → List ℕ
starts_from at [] = []
starts_from at (r ∷ rs) = at ∷ starts_from (at + size r) rs

abbrev pub code_routines : List ℕ → ℕ → List Routine → List Line
code_routines starts at [] = []
code_routines starts at (r ∷ rs) = code_routine starts at r ++ code_routines starts (at + size r) rs

abbrev pub starts : Program → List ℕ
starts p = starts_from 1 p.routines

-- Address 0 holds halt.
abbrev pub code : Program → List Line
code p = (Halt, 0) ∷ code_routines (starts p) 1 p.routines
