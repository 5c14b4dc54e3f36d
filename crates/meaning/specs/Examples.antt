-- Worked examples on trees: each line has what the definitions give, and what that should be. Assumes nothing.
use Rattle.std.specs.Prelude.{◌≡◌, ℕ, ◌-◌, List, [], ◌∷◌, map, ℤ, pos, negsuc, Some, None, Option}
use Rattle.reckoning.specs.declared.Operator.{Operator}
use Rattle.reckoning.specs.declared.Operator.TheVariants.{Add, Subtract, Multiply, Divide, Remainder, Compare}
use Rattle.reckoning.specs.declared.Comparison.TheVariants.{AtMost}
use Rattle.reckoning.specs.Meaning.{Meaning}
use Rattle.reckoning.specs.declared.in_weights.Weight.{Weight}
use Rattle.reckoning.specs.Counts.{counts_meaning}
use Rattle.reckoning.specs.Weights.{weights_meaning, weight}
use Rattle.instructions.specs.declared.Instruction.{Instruction}
use Rattle.instructions.specs.declared.Instruction.TheVariants.{Halt, LoadConstant, LoadRelative, Load, Store, Operate, Enter, Allocate, Return}
use Rattle.instructions.specs.Stops.{stop_number}
use Rattle.language.specs.Tree.{Name, Expr, number, variable, call, unary, minus, binary, assign, plain, no_args, argument, expr, return, if_then, while, Stmts, end, then, Variable, Function, Sheet}
use Rattle.language.specs.Resolved.{Program}
use Rattle.language.specs.Scope.{resolved}
use Rattle.language.specs.Reading.{Outcome, gives, stops, reading}
use Rattle.translation.specs.Translation.{code}

-- the names f, n, x, w, h and fac
abbrev f : Name
f = 102 ∷ []

abbrev n : Name
n = 110 ∷ []

abbrev x : Name
x = 120 ∷ []

abbrev w : Name
w = 119 ∷ []

abbrev h : Name
h = 104 ∷ []

abbrev fac : Name
fac = 102 ∷ 97 ∷ 99 ∷ []

-- a variable that is no array, and a function that has none of its own
abbrev simple : ℕ → Name → Variable
simple at name = record { place = at; name = name; sizes = [] }

abbrev function : ℕ → Name → List Variable → Stmts → Function
function at name ps body = record { place = at; name = name; parameters = ps; locals = []; body = body }

-- int f(int n){return n+1;}
abbrev S : Sheet
S = record { variables = []; functions = function 4 f (simple 10 n ∷ []) (then (return (binary Add 21 (variable 20 n plain) (number 1))) end) ∷ [] }

-- int fac(int x){if(x<=0)return 1;return x*fac(x-1);}
abbrev T : Sheet
T = record { variables = []; functions = function 4 fac (simple 12 x ∷ []) (then (if_then 15 (binary (Compare AtMost) 19 (variable 18 x plain) (number 0)) (return (number 1))) (then (return (binary Multiply 40 (variable 39 x plain) (call 41 fac 44 (argument (binary Subtract 46 (variable 45 x plain) (number 1)) no_args)))) end)) ∷ [] }

-- int x;int f(){x=5;return 1;}int h(){return x+f();}
abbrev U : Sheet
U = record { variables = simple 4 x ∷ []; functions = function 10 f [] (then (expr (assign 15 (variable 14 x plain) (number 5))) (then (return (number 1)) end)) ∷ function 32 h [] (then (return (binary Add 44 (variable 43 x plain) (call 45 f 46 no_args))) end) ∷ [] }

-- int w(int n){while(n)n=n-1;return 7;}
abbrev W : Sheet
W = record { variables = []; functions = function 4 w (simple 10 n ∷ []) (then (while 13 (variable 19 n plain) (expr (assign 22 (variable 21 n plain) (binary Subtract 24 (variable 23 n plain) (number 1))))) (then (return (number 7)) end)) ∷ [] }

-- int f(){return -7/2;}, with another operator or other operands too
abbrev minus_seven : Expr
minus_seven = unary minus 15 (number 7)

abbrev result : Operator → Expr → Expr → Sheet
result o l r = record { variables = []; functions = function 4 f [] (then (return (binary o 17 l r)) end) ∷ [] }

-- A value and the units that it cost; a stop's number, its place, and the units until then; the instructions of a sheet's code; their places.
pub data Answer : Type 0 where
  is : ℤ → ℕ → Answer
  stopped : ℕ → ℕ → ℕ → Answer
  listed : List Instruction → Answer
  placed : List ℕ → Answer
  unresolved : Answer

abbrev answered : {Cell : Type 0} → (Cell → ℤ) → ℕ → Outcome Cell Cell → Answer
answered in-units budget (gives v left) = is (in-units v) (budget - left.budget)
answered in-units budget (stops e p cells left) = stopped (stop_number e) p (budget - left)

-- the sheet's cells after a reading
abbrev cells_after : {Cell : Type 0} → Outcome Cell Cell → List Cell
cells_after (gives v left) = left.sheet
cells_after (stops e p cells left) = cells

-- the function of a number, with arguments, from the sheet's cells, with a budget
abbrev read : {Cell : Type 0} → Meaning Cell → (Cell → ℤ) → Option Program → ℕ → List Cell → List Cell → ℕ → Answer
read m in-units (Some p) at xs cells budget = answered in-units budget (reading m p.routines 1 at xs cells budget)
read m in-units None at xs cells budget = unresolved

-- the same once more, from the cells that the first reading left
abbrev read_again : {Cell : Type 0} → Meaning Cell → (Cell → ℤ) → Option Program → ℕ → List Cell → List Cell → ℕ → Answer
read_again m in-units (Some p) at xs cells budget = answered in-units budget (reading m p.routines 1 at xs (cells_after (reading m p.routines 1 at xs cells budget)) budget)
read_again m in-units None at xs cells budget = unresolved

abbrev counting : Sheet → ℕ → List ℤ → List ℤ → ℕ → Answer
counting s at xs cells budget = read counts_meaning (λ z. z) (resolved s) at xs cells budget

abbrev counting_again : Sheet → ℕ → List ℤ → List ℤ → ℕ → Answer
counting_again s at xs cells budget = read_again counts_meaning (λ z. z) (resolved s) at xs cells budget

-- in thousandths
abbrev weighing : Sheet → ℕ → List Weight → List Weight → ℕ → Answer
weighing s at xs cells budget = read weights_meaning (λ w. w.thousandths) (resolved s) at xs cells budget

abbrev listing : Option Program → Answer
listing (Some p) = listed (map (λ l. l.0) (code p))
listing None = unresolved

abbrev places_of : Option Program → Answer
places_of (Some p) = placed (map (λ l. l.1) (code p))
places_of None = unresolved

abbrev pub examples : List (Answer × Answer)
examples =
    (listing (resolved S), listed (Halt ∷ Enter (pos 2) ∷ Allocate (pos 0) ∷ LoadRelative (pos 1) ∷ Load ∷ LoadConstant (pos 1) ∷ Operate Add ∷ LoadRelative (negsuc 2) ∷ Store ∷ Return ∷ Return ∷ []))
    ∷ (places_of (resolved S), placed (0 ∷ 0 ∷ 0 ∷ 0 ∷ 0 ∷ 0 ∷ 21 ∷ 0 ∷ 0 ∷ 0 ∷ 0 ∷ []))
    ∷ (counting S 0 (pos 4 ∷ []) [] 0, is (pos 5) 0)
    ∷ (counting S 0 (pos 2147483647 ∷ []) [] 0, stopped 45 21 0)
    ∷ (weighing S 0 (weight (pos 2500) ∷ []) [] 0, is (pos 3500) 0)
    ∷ (counting T 0 (pos 3 ∷ []) [] 3, is (pos 6) 3)
    ∷ (counting T 0 (pos 3 ∷ []) [] 2, stopped 42 44 2)
    ∷ (counting T 0 (pos 24 ∷ []) [] 100, stopped 43 44 23)
    ∷ (counting U 1 [] (pos 0 ∷ []) 1, is (pos 1) 1)
    ∷ (counting_again U 1 [] (pos 0 ∷ []) 1, is (pos 6) 1)
    ∷ (counting W 0 (pos 0 ∷ []) [] 0, is (pos 7) 0)
    ∷ (counting W 0 (pos 3 ∷ []) [] 3, is (pos 7) 3)
    ∷ (counting W 0 (pos 3 ∷ []) [] 2, stopped 42 13 2)
    ∷ (counting (result Divide minus_seven (number 2)) 0 [] [] 0, is (negsuc 2) 0)
    ∷ (counting (result Remainder minus_seven (number 2)) 0 [] [] 0, is (negsuc 0) 0)
    ∷ (weighing (result Divide (number 2) (number 3)) 0 [] [] 0, is (pos 666) 0)
    ∷ []

abbrev pub Agree : Type 0
Agree = map (λ e. e.0) examples ≡ map (λ e. e.1) examples
