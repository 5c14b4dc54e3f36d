-- What the names of a sheet stand for. Assumes nothing.
use Rattle.std.specs.Prelude.{ℕ, suc, ◌+◌, ◌*◌, Bool, true, false, cond, ◌&&◌, List, [], ◌∷◌, ◌++◌, length, Some, None, Option, ◌==◌, nat_le}
use Rattle.reckoning.specs.Meaning.{largest}
use Rattle.language.specs.Tree.{Name, Sign, minus, bang, Expr, number, variable, call, unary, binary, assign, brackets, Indices, plain, index, Args, no_args, argument, Stmt, expr, block, return, if_then, if_else, while, for, Stmts, end, then, Variable, Function, Sheet}
use Rattle.language.specs.Resolved.{Region, on_sheet, in_frame, Expression, constant, value, assignment, invocation, negation, inversion, operation, Subscripts, whole_of, subscript, Arguments, none, also, Statement, perform, sequence, give, when, either, repeat, Statements, finish, first, Routine, Program}

infixl 1 ◌>>=◌
abbrev pub ◌>>=◌ : {X Y : Type 0} → Option X → (X → Option Y) → Option Y
◌>>=◌ (Some x) k = k x
◌>>=◌ None k = None

-- Two names are equal when their bytes are.
abbrev pub same : Name → Name → Bool
same [] [] = true
same [] (b ∷ y) = false
same (a ∷ x) [] = false
same (a ∷ x) (b ∷ y) = a == b && same x y

-- The cells of a variable: the product of its sizes.
abbrev pub cells_of : List ℕ → ℕ
cells_of [] = 1
cells_of (n ∷ ns) = n * cells_of ns

-- Variables lie one behind the other.
abbrev pub total : List Variable → ℕ
total [] = 0
total (v ∷ vs) = cells_of v.sizes + total vs

-- A variable's offset in its region, and its sizes.
pub record Slot : Type 0 where
  pub region : Region
  pub offset : ℕ
  pub sizes : List ℕ

-- the first variable of a name, where the first of them lies at an offset
abbrev pub find : Region → ℕ → List Variable → Name → Option Slot
find r at [] x = None
find r at (v ∷ vs) x = cond (same x v.name) (Some (record { region = r; offset = at; sizes = v.sizes })) (find r (at + cells_of v.sizes) vs x)

-- the first function of a name, counted from n, and how many parameters it has
abbrev pub find_function : ℕ → List Function → Name → Option (ℕ × ℕ)
find_function n [] x = None
find_function n (f ∷ fs) x = cond (same x f.name) (Some (n, length f.parameters)) (find_function (suc n) fs x)

-- What a name stands for.
pub data Thing : Type 0 where
  variable_at : Slot → Thing
  -- a function's number, and how many parameters it has
  function_at : ℕ → ℕ → Thing

-- The variables of a function: its parameters, then its own.
abbrev pub own : Function → List Variable
own f = f.parameters ++ f.locals

abbrev pub as_variable : Option Slot → Option Thing → Option Thing
as_variable (Some s) o = Some (variable_at s)
as_variable None o = o

abbrev pub as_function : Option (ℕ × ℕ) → Option Thing
as_function (Some p) = Some (function_at p.0 p.1)
as_function None = None

-- A name is looked for among the variables of its function first, then on the whole sheet, variables before functions; the first of equals counts.
abbrev pub looked_up : Sheet → List Variable → Name → Option Thing
looked_up s vs x = as_variable (find in_frame 0 vs x) (as_variable (find on_sheet 0 s.variables x) (as_function (find_function 0 s.functions x)))

-- the variable of a name, if the name stands for one
abbrev pub slot_of : Option Thing → Option Slot
slot_of (Some (variable_at s)) = Some s
slot_of (Some (function_at f n)) = None
slot_of None = None

abbrev pub count : Args → ℕ
count no_args = 0
count (argument e es) = suc (count es)

-- the function of a name, if the name stands for one with so many parameters
abbrev pub function_of : ℕ → Option Thing → Option ℕ
function_of n (Some (variable_at s)) = None
function_of n (Some (function_at f k)) = cond (n == k) (Some f) None
function_of n None = None

-- the sign of an operator before its operand
abbrev pub signed : Sign → ℕ → Expression → Expression
signed minus p e = negation p e
signed bang p e = inversion p e

module _ (s : Sheet) (vs : List Variable) where
  abbrev mutual
    -- An expression, if its names stand for what they are used as, the left side of each "=" is a variable without brackets round it, and each number has a cell.
    pub expression : Expr → Option Expression
    expression (number n) = cond (nat_le n largest) (Some (constant n)) None
    expression (variable p x is) = slot_of (looked_up s vs x) >>= λ v. subscripts is v.sizes >>= λ js. Some (value v.region v.offset js)
    expression (call p x q es) = function_of (count es) (looked_up s vs x) >>= λ f. arguments es >>= λ xs. Some (invocation f q xs)
    expression (unary g p e) = expression e >>= λ a. Some (signed g p a)
    expression (binary o p l r) = expression l >>= λ a. expression r >>= λ b. Some (operation o p a b)
    expression (assign p l r) = target l >>= λ t. expression r >>= λ b. Some (assignment t.0 t.1 t.2 b)
    expression (brackets e) = expression e

    -- what stands left of "="
    pub target : Expr → Option (Region × ℕ × Subscripts)
    target (number n) = None
    target (variable p x is) = slot_of (looked_up s vs x) >>= λ v. subscripts is v.sizes >>= λ js. Some (v.region, v.offset, js)
    target (call p x q es) = None
    target (unary g p e) = None
    target (binary o p l r) = None
    target (assign p l r) = None
    target (brackets e) = None

    -- an index for each size
    pub subscripts : Indices → List ℕ → Option Subscripts
    subscripts plain [] = Some whole_of
    subscripts plain (n ∷ ns) = None
    subscripts (index p e is) [] = None
    subscripts (index p e is) (n ∷ ns) = expression e >>= λ a. subscripts is ns >>= λ js. Some (subscript p n (cells_of ns) a js)

    pub arguments : Args → Option Arguments
    arguments no_args = Some none
    arguments (argument e es) = expression e >>= λ a. arguments es >>= λ xs. Some (also a xs)

  -- for (a; b; c) s is a; while (b) { s c; }
  abbrev pub loop : ℕ → Expression → Expression → Expression → Statement → Statement
  loop p a b c s = sequence (first (perform a) (first (repeat p b (sequence (first s (first (perform c) finish)))) finish))

  abbrev mutual
    pub statement : Stmt → Option Statement
    statement (expr e) = expression e >>= λ a. Some (perform a)
    statement (block ss) = statements ss >>= λ xs. Some (sequence xs)
    statement (return e) = expression e >>= λ a. Some (give a)
    statement (if_then p e t) = expression e >>= λ a. statement t >>= λ b. Some (when p a b)
    statement (if_else p e t u) = expression e >>= λ a. statement t >>= λ b. statement u >>= λ c. Some (either p a b c)
    statement (while p e t) = expression e >>= λ a. statement t >>= λ b. Some (repeat p a b)
    statement (for p e f g t) = expression e >>= λ a. expression f >>= λ b. expression g >>= λ c. statement t >>= λ d. Some (loop p a b c d)

    pub statements : Stmts → Option Statements
    statements end = Some finish
    statements (then t ts) = statement t >>= λ a. statements ts >>= λ xs. Some (first a xs)

abbrev pub routine : Sheet → Function → Option Routine
routine s f = statements s (own f) f.body >>= λ b. Some (record { parameters = length f.parameters; locals = total f.locals; body = b })

abbrev pub routines : Sheet → List Function → Option (List Routine)
routines s [] = Some []
routines s (f ∷ fs) = routine s f >>= λ r. routines s fs >>= λ rs. Some (r ∷ rs)

-- The sheet with its names resolved, if they resolve.
abbrev pub resolved : Sheet → Option Program
resolved s = routines s s.functions >>= λ rs. Some (record { cells = total s.variables; routines = rs })
