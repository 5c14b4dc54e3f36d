-- Worked examples of the questions: each line has what the definitions give, and what that should be. Assumes nothing.
use Rattle.std.specs.Prelude.{◌≡◌, ℕ, zero, suc, List, [], ◌∷◌, map}
use Rattle.language.specs.Tree.{Expr, number, variable, call, assign, brackets, plain, index, no_args, argument, expr, Stmts, end, then, Variable, Function, Sheet}
use Rattle.language.specs.Resolved.{on_sheet, in_frame, Expression, constant, value, assignment, invocation, whole_of, subscript, none, also, perform, finish, first}
use Rattle.names.specs.Questions.{names, codes, Verdict, accepted, refused, no_verdict, asked}

-- a name of one letter
abbrev variable_of : ℕ → ℕ → List ℕ → Variable
variable_of p x ns = record { place = p; name = x ∷ []; sizes = ns }

abbrev read : ℕ → ℕ → Expr
read p x = variable p (x ∷ []) plain

abbrev function_of : ℕ → ℕ → List Variable → List Variable → Expr → Function
function_of p x ps vs e = record { place = p; name = x ∷ []; parameters = ps; locals = vs; body = then (expr e) end }

-- f, g, x and y are 102, 103, 120 and 121
abbrev sheet : List Variable → List Function → Sheet
sheet vs fs = record { variables = vs; functions = fs }

-- int f(){ .. ;}, which begins at 8
abbrev only : Expr → Sheet
only e = sheet [] (function_of 4 102 [] [] e ∷ [])

-- n declarations at the places from p on, named by their places
abbrev many : ℕ → ℕ → List Variable
many zero p = []
many (suc n) p = variable_of p p [] ∷ many n (suc p)

abbrev many_functions : ℕ → ℕ → List Function
many_functions zero p = []
many_functions (suc n) p = function_of p p [] [] (number 0) ∷ many_functions n (suc p)

-- f(f(..f(0)..)), n calls deep
abbrev calls : ℕ → Expr
calls zero = number 0
calls (suc n) = call 8 (102 ∷ []) 9 (argument (calls n) no_args)

abbrev invocations : ℕ → Expression
invocations zero = constant 0
invocations (suc n) = invocation 0 9 (also (invocations n) none)

-- int f(int x){int y[n];f(f(..));}, with 74 calls, which need 298 cells
abbrev nested : ℕ → Sheet
nested n = sheet [] (function_of 4 102 (variable_of 10 120 [] ∷ []) (variable_of 17 121 (n ∷ []) ∷ []) (calls 74) ∷ [])

-- int f(){0;0;..}, with n statements
abbrev zeros : ℕ → Stmts
zeros zero = end
zeros (suc n) = then (expr (number 0)) (zeros n)

abbrev verdict : Sheet → Verdict
verdict s = asked s 99

abbrev pub examples : List (Verdict × Verdict)
examples =
    (verdict (sheet [] []), accepted (record { cells = 0; routines = [] }))
    -- int x;int x;
    ∷ (verdict (sheet (variable_of 4 120 [] ∷ variable_of 10 120 [] ∷ []) []), refused 9 names 10)
    -- int x;int x(){0;}
    ∷ (verdict (sheet (variable_of 4 120 [] ∷ []) (function_of 10 120 [] [] (number 0) ∷ [])), refused 9 names 10)
    -- int f(int x){int x;0;}
    ∷ (verdict (sheet [] (function_of 4 102 (variable_of 10 120 [] ∷ []) (variable_of 17 120 [] ∷ []) (number 0) ∷ [])), refused 9 names 17)
    -- int x;int f(int x){0;}
    ∷ (verdict (sheet (variable_of 4 120 [] ∷ []) (function_of 10 102 (variable_of 16 120 [] ∷ []) [] (number 0) ∷ [])), accepted (record { cells = 1; routines = record { parameters = 1; locals = 0; body = first (perform (constant 0)) finish } ∷ [] }))
    -- int f(){1=2;} and int x;int f(){(x)=2;}
    ∷ (verdict (only (assign 9 (number 1) (number 2))), refused 8 names 9)
    ∷ (verdict (sheet (variable_of 4 120 [] ∷ []) (function_of 10 102 [] [] (assign 17 (brackets (read 15 120)) (number 2)) ∷ [])), refused 8 names 17)
    -- int f(){y;} and int f(){f;}
    ∷ (verdict (only (read 8 121)), refused 10 names 8)
    ∷ (verdict (only (read 8 102)), refused 10 names 8)
    -- int f(){int f;f();}
    ∷ (verdict (sheet [] (function_of 4 102 [] (variable_of 12 102 [] ∷ []) (call 14 (102 ∷ []) 15 no_args) ∷ [])), refused 10 names 14)
    -- int f(int x){x[0];} and int f(){int x[2];x;}
    ∷ (verdict (sheet [] (function_of 4 102 (variable_of 10 120 [] ∷ []) [] (variable 13 (120 ∷ []) (index 14 (number 0) plain)) ∷ [])), refused 10 names 13)
    ∷ (verdict (sheet [] (function_of 4 102 [] (variable_of 12 120 (2 ∷ []) ∷ []) (read 17 120) ∷ [])), refused 10 names 17)
    -- int f(){f(0);}
    ∷ (verdict (only (call 8 (102 ∷ []) 9 (argument (number 0) no_args))), refused 11 names 9)
    -- int f(){1=f(0);}: the earlier place wins
    ∷ (verdict (only (assign 9 (number 1) (call 10 (102 ∷ []) 11 (argument (number 0) no_args)))), refused 8 names 9)
    -- int x[1];int x[0]; has 9 and 12 at one place
    ∷ (verdict (sheet (variable_of 4 120 (1 ∷ []) ∷ variable_of 13 120 (0 ∷ []) ∷ []) []), refused 9 names 13)
    -- int x[0];
    ∷ (verdict (sheet (variable_of 4 120 (0 ∷ []) ∷ []) []), refused 12 names 4)
    -- int x[512]; and then int y;
    ∷ (verdict (sheet (variable_of 4 120 (512 ∷ []) ∷ []) []), accepted (record { cells = 512; routines = [] }))
    ∷ (verdict (sheet (variable_of 4 120 (512 ∷ []) ∷ variable_of 15 121 [] ∷ []) []), refused 12 names 15)
    ∷ (verdict (sheet (variable_of 4 120 (513 ∷ []) ∷ []) []), refused 12 names 4)
    -- eight and nine parameters
    ∷ (verdict (sheet [] (function_of 4 102 (many 8 20) [] (number 0) ∷ [])), accepted (record { cells = 0; routines = record { parameters = 8; locals = 0; body = first (perform (constant 0)) finish } ∷ [] }))
    ∷ (verdict (sheet [] (function_of 4 102 (many 9 20) [] (number 0) ∷ [])), refused 12 names 28)
    -- 129 cells of local variables
    ∷ (verdict (sheet [] (function_of 4 102 [] (variable_of 12 120 (128 ∷ []) ∷ variable_of 23 121 [] ∷ []) (number 0) ∷ [])), refused 12 names 23)
    -- 65 functions
    ∷ (verdict (sheet [] (many_functions 65 20)), refused 12 names 84)
    -- int x[2];int f(int n){x[n]=f(n);}
    ∷ (verdict (sheet (variable_of 4 120 (2 ∷ []) ∷ []) (function_of 13 102 (variable_of 19 110 [] ∷ []) [] (assign 26 (variable 22 (120 ∷ []) (index 23 (read 24 110) plain)) (call 27 (102 ∷ []) 28 (argument (read 29 110) no_args))) ∷ [])), accepted (record { cells = 2; routines = record { parameters = 1; locals = 0; body = first (perform (assignment on_sheet 0 (subscript 23 2 1 (value in_frame 0 whole_of) whole_of) (invocation 0 28 (also (value in_frame 0 whole_of) none)))) finish } ∷ [] }))
    -- 300 and 301 cells
    ∷ (verdict (nested 2), accepted (record { cells = 0; routines = record { parameters = 1; locals = 2; body = first (perform (invocations 74)) finish } ∷ [] }))
    ∷ (verdict (nested 3), refused 13 codes 4)
    -- 16,386 words
    ∷ (verdict (sheet [] (record { place = 4; name = 102 ∷ []; parameters = []; locals = []; body = zeros 8191 } ∷ [])), refused 14 codes 99)
    ∷ (verdict (only (number 16384)), no_verdict)
    ∷ []

-- each gives what it should
abbrev pub Agree : Type 0
Agree = map (λ e. e.0) examples ≡ map (λ e. e.1) examples
