-- The questions that a sheet's tree must answer before it is translated. Each that is answered no is a fault: a place and a number. Assumes nothing.
use Rattle.std.specs.Prelude.{ℕ, ◌+◌, Bool, true, false, cond, ◌&&◌, ◌||◌, List, [], ◌∷◌, ◌++◌, map, length, Some, None, Option, ◌==◌, nat_le, nat_lt}
use Rattle.std.specs.List.{slice_get}
use Rattle.language.specs.Tree.{Name, Expr, number, variable, call, unary, binary, assign, brackets, Indices, plain, index, Args, no_args, argument, Stmt, expr, block, return, if_then, if_else, while, for, Stmts, end, then, Variable, Function, Sheet}
use Rattle.language.specs.Resolved.{Routine, Program}
use Rattle.language.specs.Scope.{same, cells_of, Thing, variable_at, function_at, own, looked_up, count, resolved}
use Rattle.translation.specs.Translation.{code, need}

-- a place and a number
abbrev pub Fault : Type 0
Fault = ℕ × ℕ

-- A rule: its number, and the places where it is broken.
abbrev pub Rule : Type 0
Rule = ℕ × List ℕ

abbrev pub gathered : {X Y : Type 0} → (X → List Y) → List X → List Y
gathered f [] = []
gathered f (x ∷ xs) = f x ++ gathered f xs

abbrev pub numbered : Rule → List Fault
numbered r = map (λ p. (p, r.0)) r.1

abbrev pub faults : List Rule → List Fault
faults rs = gathered numbered rs

-- the place, if the answer is no
abbrev pub unless : Bool → ℕ → List ℕ
unless b p = cond b [] (p ∷ [])

-- The expressions that stand in an expression, itself first.
abbrev mutual
  pub parts : Expr → List Expr
  parts (number n) = number n ∷ []
  parts (variable p x is) = variable p x is ∷ parts_indices is
  parts (call p x q es) = call p x q es ∷ parts_args es
  parts (unary g p e) = unary g p e ∷ parts e
  parts (binary o p l r) = binary o p l r ∷ parts l ++ parts r
  parts (assign p l r) = assign p l r ∷ parts l ++ parts r
  parts (brackets e) = brackets e ∷ parts e

  pub parts_indices : Indices → List Expr
  parts_indices plain = []
  parts_indices (index p e is) = parts e ++ parts_indices is

  pub parts_args : Args → List Expr
  parts_args no_args = []
  parts_args (argument e es) = parts e ++ parts_args es

abbrev mutual
  pub parts_statement : Stmt → List Expr
  parts_statement (expr e) = parts e
  parts_statement (block ss) = parts_statements ss
  parts_statement (return e) = parts e
  parts_statement (if_then p e t) = parts e ++ parts_statement t
  parts_statement (if_else p e t u) = parts e ++ (parts_statement t ++ parts_statement u)
  parts_statement (while p e t) = parts e ++ parts_statement t
  parts_statement (for p e f g t) = parts e ++ (parts f ++ (parts g ++ parts_statement t))

  pub parts_statements : Stmts → List Expr
  parts_statements end = []
  parts_statements (then t ts) = parts_statement t ++ parts_statements ts

-- What is found at the expressions of all functions, each with its function's variables.
abbrev pub in_bodies : Sheet → (List Variable → Expr → List ℕ) → List ℕ
in_bodies s at = gathered (λ f. gathered (at (own f)) (parts_statements f.body)) s.functions

-- 8, at "=": is its left side a name or an element, without brackets round it?
abbrev pub is_variable : Expr → Bool
is_variable (number n) = false
is_variable (variable p x is) = true
is_variable (call p x q es) = false
is_variable (unary g p e) = false
is_variable (binary o p l r) = false
is_variable (assign p l r) = false
is_variable (brackets e) = false

abbrev pub left_at : Expr → List ℕ
left_at (number n) = []
left_at (variable p x is) = []
left_at (call p x q es) = []
left_at (unary g p e) = []
left_at (binary o p l r) = []
left_at (assign p l r) = unless (is_variable l) p
left_at (brackets e) = []

-- 9, at a declaration: has none before it the name?
abbrev pub Declaration : Type 0
Declaration = ℕ × Name

abbrev pub of_variable : Variable → Declaration
of_variable v = (v.place, v.name)

abbrev pub of_function : Function → Declaration
of_function f = (f.place, f.name)

-- Variables stand before functions, parameters before the variables of their function: this is the text's order.
abbrev pub on_the_sheet : Sheet → List Declaration
on_the_sheet s = map of_variable s.variables ++ map of_function s.functions

abbrev pub in_function : Function → List Declaration
in_function f = map of_variable (own f)

abbrev pub new : Name → List Declaration → Bool
new x [] = true
new x (d ∷ ds) = cond (same x d.1) false (new x ds)

-- the second declarations, behind those before
abbrev pub again : List Declaration → List Declaration → List ℕ
again before [] = []
again before (d ∷ ds) = unless (new d.1 before) d.0 ++ again (d ∷ before) ds

-- 10, at a name: does it stand for a variable with as many sizes as there are indices behind it, or before "(" for a function?
abbrev pub depth : Indices → ℕ
depth plain = 0
depth (index p e is) = 1 + depth is

abbrev pub indexed : ℕ → Option Thing → Bool
indexed n (Some (variable_at v)) = n == length v.sizes
indexed n (Some (function_at f k)) = false
indexed n None = false

abbrev pub callable : Option Thing → Bool
callable (Some (variable_at v)) = false
callable (Some (function_at f k)) = true
callable None = false

abbrev pub used_at : Sheet → List Variable → Expr → List ℕ
used_at s vs (number n) = []
used_at s vs (variable p x is) = unless (indexed (depth is) (looked_up s vs x)) p
used_at s vs (call p x q es) = unless (callable (looked_up s vs x)) p
used_at s vs (unary g p e) = []
used_at s vs (binary o p l r) = []
used_at s vs (assign p l r) = []
used_at s vs (brackets e) = []

-- 11, at "(": has the function, if the name stands for one, as many parameters as there are arguments?
abbrev pub agrees : ℕ → Option Thing → Bool
agrees n (Some (variable_at v)) = true
agrees n (Some (function_at f k)) = n == k
agrees n None = true

abbrev pub counted_at : Sheet → List Variable → Expr → List ℕ
counted_at s vs (number n) = []
counted_at s vs (variable p x is) = []
counted_at s vs (call p x q es) = unless (agrees (count es) (looked_up s vs x)) q
counted_at s vs (unary g p e) = []
counted_at s vs (binary o p l r) = []
counted_at s vs (assign p l r) = []
counted_at s vs (brackets e) = []

-- 12, at the name that breaks it: is there no n-th declaration, counted from 0,
abbrev pub place_of : Option Declaration → List ℕ
place_of (Some d) = d.0 ∷ []
place_of None = []

abbrev pub at_most : ℕ → List Declaration → List ℕ
at_most n ds = place_of (slice_get ds n)

-- no variable whose cells, with those before it, pass a limit,
abbrev pub passing : ℕ → ℕ → List Variable → List ℕ
passing limit at [] = []
passing limit at (v ∷ vs) = cond (nat_le (at + cells_of v.sizes) limit) (passing limit (at + cells_of v.sizes) vs) (v.place ∷ [])

-- and no array of 0?
abbrev pub sized : List ℕ → Bool
sized [] = true
sized (n ∷ ns) = nat_le 1 n && sized ns

abbrev pub empties : List Variable → List ℕ
empties vs = gathered (λ v. unless (sized v.sizes) v.place) vs

abbrev pub excesses_in : Function → List ℕ
excesses_in f = at_most 8 (map of_variable f.parameters) ++ (passing 128 0 f.locals ++ empties f.locals)

abbrev pub lefts : Sheet → List ℕ
lefts s = in_bodies s (λ vs e. left_at e)

abbrev pub repeats : Sheet → List ℕ
repeats s = again [] (on_the_sheet s) ++ gathered (λ f. again [] (in_function f)) s.functions

abbrev pub misused : Sheet → List ℕ
misused s = in_bodies s (used_at s)

abbrev pub miscounted : Sheet → List ℕ
miscounted s = in_bodies s (counted_at s)

abbrev pub excesses : Sheet → List ℕ
excesses s = (at_most 64 (map of_function s.functions) ++ (passing 512 0 s.variables ++ empties s.variables)) ++ gathered excesses_in s.functions

abbrev pub name_rules : Sheet → List Rule
name_rules s = (8, lefts s) ∷ (9, repeats s) ∷ (10, misused s) ∷ (11, miscounted s) ∷ (12, excesses s) ∷ []

abbrev pub name_faults : Sheet → List Fault
name_faults s = faults (name_rules s)

-- 13, at a function's name: does it need at most 300 cells?
abbrev pub needy : List Function → List Routine → List ℕ
needy [] rs = []
needy (f ∷ fs) [] = []
needy (f ∷ fs) (r ∷ rs) = unless (nat_le (need r) 300) f.place ++ needy fs rs

-- 14, at the end of the text, whose length is n: has the code at most 16,384 words?
abbrev pub code_rules : Sheet → ℕ → Program → List Rule
code_rules s n p = (13, needy s.functions p.routines) ∷ (14, unless (nat_le (length (code p)) 16384) n) ∷ []

abbrev pub code_faults : Sheet → ℕ → Program → List Fault
code_faults s n p = faults (code_rules s n p)

-- The earliest place comes first, and at one place the lowest number.
abbrev pub no_later : Fault → Fault → Bool
no_later f g = nat_lt f.0 g.0 || (f.0 == g.0 && nat_le f.1 g.1)

abbrev pub sooner : Fault → Option Fault → Fault
sooner f (Some g) = cond (no_later f g) f g
sooner f None = f

abbrev pub least : List Fault → Option Fault
least [] = None
least (f ∷ fs) = Some (sooner f (least fs))

-- The layers of questions: those on code are asked only when those on names are all answered yes.
pub data Layer : Type 0 where
  names : Layer
  codes : Layer

-- A refusal has a number, a layer and a place.
-- No verdict is for a tree with a number that no cell can hold, which no text has.
pub data Verdict : Type 0 where
  accepted : Program → Verdict
  refused : ℕ → Layer → ℕ → Verdict
  no_verdict : Verdict

abbrev pub on_code : Program → Option Fault → Verdict
on_code p (Some f) = refused f.1 codes f.0
on_code p None = accepted p

abbrev pub on_program : Sheet → ℕ → Option Program → Verdict
on_program s n (Some p) = on_code p (least (code_faults s n p))
on_program s n None = no_verdict

abbrev pub on_names : Sheet → ℕ → Option Fault → Verdict
on_names s n (Some f) = refused f.1 names f.0
on_names s n None = on_program s n (resolved s)

-- the verdict on a sheet whose text has a length
abbrev pub asked : Sheet → ℕ → Verdict
asked s n = on_names s n (least (name_faults s))
