-- Whatever resolves keeps inside its regions and calls what is there. Assumes nothing.
use Rattle.std.proofs.Common.{◌≡◌, ℕ, suc, ◌+◌, ◌*◌, ◌<◌, ◌≤◌, Bool, true, false, cond, eqb, leb, List, [], ◌∷◌, ◌++◌, length, Some, None, Option, sym, refl, ap, subst, mul-le-mul_right, suc-mul, mul-le-mul_left, mul-pos, mul-one, arith}
use Rattle.std.specs.List.{AllByRecursion}
use Rattle.std.proofs.ByRecursion.{All-append, All-weaker}
use Rattle.std.proofs.lemmas.Bool.{leb-true, eqb-true}
use Rattle.reckoning.specs.Meaning.{largest}
use Rattle.language.specs.Tree.{Name, minus, bang, Expr, number, variable, call, unary, binary, assign, brackets, Indices, plain, index, Args, no_args, argument, Stmt, expr, block, return, if_then, if_else, while, for, Stmts, end, then, Variable, Function, Sheet}
use Rattle.language.specs.Resolved.{Region, on_sheet, in_frame, Expression, Subscripts, arity, Statements, Routine, Program}
use Rattle.language.specs.Scope.{same, cells_of, total, Slot, find, find_function, Thing, variable_at, function_at, own, ◌>>=◌, as_variable, as_function, looked_up, slot_of, count, function_of, expression, target, subscripts, arguments, statement, statements, routine, routines, resolved}
use Rattle.language.specs.Limits.{Sized, Positive, Plain, Within, Limited}
use Rattle.language.specs.Scoping.{Goes, Element, Reads, Assigns, Calls}
use Rattle.language.proofs.Fitting.{Callable, room, Fits, Inside, FitArgs, FitStatement, FitStatements, FitRoutines}

-- P of what resolves, if it does
abbrev Holds : {X : Type 0} → (X → Type 0) → Option X → Type 0
Holds P (Some x) = P x
Holds P None = Unit {0}

record Each {X : Type 0} (P : X → Type 0) (o : Option X) : Type 0 where
  each : Holds P o

all_of : {X Y : Type 0} {Q : X → Type 0} {P : Y → Type 0} (o : Option X) (k : X → Option Y) → Each Q o → ((a : X) → Q a → Each P (k a)) → Each P (o >>= k)
all_of (Some a) k q h = h a q.each
all_of None k q h = record { each = tt }

-- the same, with the equation in reach
all_by : {X Y : Type 0} {P : Y → Type 0} (o : Option X) (k : X → Option Y) → ((a : X) → o ≡ Some a → Each P (k a)) → Each P (o >>= k)
all_by (Some a) k h = h a refl
all_by None k h = record { each = tt }

weaker : {X : Type 0} {Q P : X → Type 0} (o : Option X) → Each Q o → ((a : X) → Q a → P a) → Each P o
weaker (Some a) q h = record { each = h a q.each }
weaker None q h = record { each = tt }

both : {X : Type 0} {P Q : X → Type 0} (o : Option X) → Each P o → Each Q o → Each (λ a. P a × Q a) o
both (Some a) p q = record { each = (p.each, q.each) }
both None p q = record { each = tt }

at_some : {X : Type 0} (P : X → Type 0) (o : Option X) (a : X) → o ≡ Some a → Each P o → P a
at_some P o a is h = subst (Holds P) is h.each

all_if : {X : Type 0} {P : X → Type 0} (b : Bool) (o p : Option X) → (b ≡ true → Each P o) → (b ≡ false → Each P p) → Each P (cond b o p)
all_if true o p h k = h refl
all_if false o p h k = k refl

-- Where a variable lies: all of its cells in its region.
abbrev Lies : (Region → ℕ) → Slot → Type 0
Lies cells v = (v.offset + cells_of v.sizes ≤ cells v.region) × Sized v.sizes

cells_some : (ns : List ℕ) → Sized ns → 1 ≤ cells_of ns
cells_some [] h = omega arith
cells_some (n ∷ ns) h = mul-pos h.0 (cells_some ns h.1)

module _ (cells : Region → ℕ) (r : Region) where
  find_lies : (at : ℕ) (vs : List Variable) (x : Name) → at + total vs ≤ cells r → Positive vs → Each (Lies cells) (find r at vs x)
  find_lies at [] x few some = record { each = tt }
  find_lies at (v ∷ vs) x few some =
      all_if (same x v.name) _ _
      (λ _. record { each = (omega arith, some.0) })
      (λ _. find_lies (at + cells_of v.sizes) vs x (omega arith) some.1)

-- The i-th element of an array lies inside of it.
pub element : (at i n each limit : ℕ) → i < n → at + n * each ≤ limit → at + i * each + each ≤ limit
element at i n each limit less few = omega (arith, mul-le-mul_right each less, suc-mul i each)

-- what a name stood for that resolved
slot_is : (o : Option Thing) (v : Slot) → slot_of o ≡ Some v → o ≡ Some (variable_at v)
slot_is (Some (variable_at w)) v is = cc
slot_is (Some (function_at f k)) v is = cc
slot_is None v is = cc

function_is : (n : ℕ) (o : Option Thing) (f : ℕ) → function_of n o ≡ Some f → o ≡ Some (function_at f n)
function_is n (Some (variable_at w)) f is = cc
function_is n (Some (function_at g k)) f is = go (eqb n k) refl is
  where
    go : (b : Bool) → eqb n k ≡ b → cond b (Some g) None ≡ Some f → Some (function_at g k) ≡ Some (function_at f n)
    go true test same = let equal = eqb-true n k test in cc
    go false test same = cc
function_is n None f is = cc

module _ (s : Sheet) (vs : List Variable) where
  subscripts_go : (is : Indices) (ns : List ℕ) → Each (λ js. Goes js ns) (subscripts s vs is ns)
  subscripts_go plain [] = record { each = tt }
  subscripts_go plain (n ∷ ns) = record { each = tt }
  subscripts_go (index p e is) [] = record { each = tt }
  subscripts_go (index p e is) (n ∷ ns) = all_by (expression s vs e) _ (λ a _. all_of _ _ (subscripts_go is ns) (λ js go. record { each = (refl, refl, go) }))

  arguments_many : (es : Args) → Each (λ xs. arity xs ≡ count es) (arguments s vs es)
  arguments_many no_args = record { each = refl }
  arguments_many (argument e es) = all_by (expression s vs e) _ (λ a _. all_of _ _ (arguments_many es) (λ xs many. record { each = ap suc many }))

  element_of : (x : Name) (v : Slot) (js : Subscripts) → slot_of (looked_up s vs x) ≡ Some v → Goes js v.sizes → Element s vs x v.region v.offset js
  element_of x v js known go = record { sizes = v.sizes; known = slot_is (looked_up s vs x) v known; goes = go }

  pub variable_read : (p : ℕ) (x : Name) (is : Indices) (e : Expression) → expression s vs (variable p x is) ≡ Some e → Reads s vs x e
  variable_read p x is e are =
      at_some (Reads s vs x) (expression s vs (variable p x is)) e are (
      all_by (slot_of (looked_up s vs x)) _ (λ v known.
      all_of _ _ (subscripts_go is v.sizes) (λ js go.
      record { each = (v.region, v.offset, js, refl, element_of x v js known go) })))

  target_element : (q : ℕ) (x : Name) (is : Indices) → Each (λ t. Element s vs x t.0 t.1 t.2) (target s vs (variable q x is))
  target_element q x is =
      all_by (slot_of (looked_up s vs x)) _ (λ v known.
      all_of _ _ (subscripts_go is v.sizes) (λ js go.
      record { each = element_of x v js known go }))

  pub variable_assigned : (p q : ℕ) (x : Name) (is : Indices) (r : Expr) (e : Expression) → expression s vs (assign p (variable q x is) r) ≡ Some e → Assigns s vs x (expression s vs r) e
  variable_assigned p q x is r e are =
      at_some (Assigns s vs x (expression s vs r)) (expression s vs (assign p (variable q x is) r)) e are (
      all_of (target s vs (variable q x is)) _ (target_element q x is) (λ t h.
      all_by (expression s vs r) _ (λ b right.
      record { each = (t.0, t.1, t.2, b, refl, h, right) })))

  pub function_called : (p : ℕ) (x : Name) (q : ℕ) (es : Args) (e : Expression) → expression s vs (call p x q es) ≡ Some e → Calls s vs x q (count es) e
  function_called p x q es e are =
      at_some (Calls s vs x q (count es)) (expression s vs (call p x q es)) e are (
      all_by (function_of (count es) (looked_up s vs x)) _ (λ f known.
      all_of _ _ (arguments_many es) (λ xs many.
      record { each = (f, xs, refl, function_is (count es) (looked_up s vs x) f known, many) })))

-- What a name may stand for: a variable that lies in its region, a function that is there.
abbrev Known : List Routine → (Region → ℕ) → Thing → Type 0
Known rs cells (variable_at v) = Lies cells v
Known rs cells (function_at f k) = Callable rs f k

module _ (rs : List Routine) (cells : Region → ℕ) where
  slot_lies : (o : Option Thing) → Each (Known rs cells) o → Each (Lies cells) (slot_of o)
  slot_lies (Some (variable_at v)) h = record { each = h.each }
  slot_lies (Some (function_at f k)) h = record { each = tt }
  slot_lies None h = record { each = tt }

  function_there : (n : ℕ) (o : Option Thing) → Each (Known rs cells) o → Each (λ f. Callable rs f n) (function_of n o)
  function_there n (Some (variable_at v)) h = record { each = tt }
  function_there n (Some (function_at f k)) h = all_if (eqb n k) _ _ (λ e. record { each = rw (eqb-true n k e) h.each }) (λ _. record { each = tt })
  function_there n None h = record { each = tt }

module _ (s : Sheet) (vs : List Variable) (rs : List Routine) (g n : ℕ) (known : (x : Name) → Each (Known rs (room g n)) (looked_up s vs x)) (few : (r : Region) → room g n r ≤ largest) where
  mutual
    expression_fits : (e : Expr) → Each (Fits rs g n) (expression s vs e)
    expression_fits (number k) = all_if (leb k largest) _ _ (λ e. record { each = leb-true k largest e }) (λ _. record { each = tt })
    expression_fits (variable p x is) =
        all_of _ _ (slot_lies rs (room g n) (looked_up s vs x) (known x)) (λ v lies.
        all_of _ _ (subscripts_fit is v.sizes v.region lies.1) (λ js inside.
        record { each = inside v.offset lies.0 }))
    expression_fits (call p x q es) =
        all_of _ _ (function_there rs (room g n) (count es) (looked_up s vs x) (known x)) (λ f there.
        all_of _ _ (both _ (arguments_many s vs es) (arguments_fit es)) (λ xs fit.
        record { each = (rw fit.0 there, fit.1) }))
    expression_fits (unary minus p e) = all_of _ _ (expression_fits e) (λ a h. record { each = h })
    expression_fits (unary bang p e) = all_of _ _ (expression_fits e) (λ a h. record { each = h })
    expression_fits (binary o p l r) = all_of _ _ (expression_fits l) (λ a h. all_of _ _ (expression_fits r) (λ b k. record { each = (h, k) }))
    expression_fits (assign p l r) = all_of _ _ (target_fits l) (λ t h. all_of _ _ (expression_fits r) (λ b k. record { each = (h, k) }))
    expression_fits (brackets e) = expression_fits e

    target_fits : (e : Expr) → Each (λ t. Inside rs g n (room g n t.0) t.2 t.1) (target s vs e)
    target_fits (number k) = record { each = tt }
    target_fits (variable p x is) =
        all_of _ _ (slot_lies rs (room g n) (looked_up s vs x) (known x)) (λ v lies.
        all_of _ _ (subscripts_fit is v.sizes v.region lies.1) (λ js inside.
        record { each = inside v.offset lies.0 }))
    target_fits (call p x q es) = record { each = tt }
    target_fits (unary g' p e) = record { each = tt }
    target_fits (binary o p l r) = record { each = tt }
    target_fits (assign p l r) = record { each = tt }
    target_fits (brackets e) = record { each = tt }

    subscripts_fit : (is : Indices) (ns : List ℕ) (r : Region) → Sized ns → Each (λ js. (at : ℕ) → at + cells_of ns ≤ room g n r → Inside rs g n (room g n r) js at) (subscripts s vs is ns)
    subscripts_fit plain [] r some = record { each = λ at low. omega arith }
    subscripts_fit plain (k ∷ ns) r some = record { each = tt }
    subscripts_fit (index p e is) [] r some = record { each = tt }
    subscripts_fit (index p e is) (k ∷ ns) r some =
        all_of _ _ (expression_fits e) (λ a h.
        all_of _ _ (subscripts_fit is ns r some.1) (λ js inside.
        record { each = λ at low. (h, omega (arith, element at 0 k (cells_of ns) (room g n r) some.0 low, cells_some ns some.1), omega (arith, element at 0 k (cells_of ns) (room g n r) some.0 low, few r), λ i less. (omega (arith, element at i k (cells_of ns) (room g n r) less low, cells_some ns some.1), inside (at + i * cells_of ns) (element at i k (cells_of ns) (room g n r) less low)), some.0, omega (arith, mul-le-mul_left k (cells_some ns some.1), mul-one k, few r)) }))

    arguments_fit : (es : Args) → Each (FitArgs rs g n) (arguments s vs es)
    arguments_fit no_args = record { each = tt }
    arguments_fit (argument e es) = all_of _ _ (expression_fits e) (λ a h. all_of _ _ (arguments_fit es) (λ xs fit. record { each = (h, fit) }))

  mutual
    statement_fits : (t : Stmt) → Each (FitStatement rs g n) (statement s vs t)
    statement_fits (expr e) = all_of _ _ (expression_fits e) (λ a h. record { each = h })
    statement_fits (block ts) = all_of _ _ (statements_fit ts) (λ a h. record { each = h })
    statement_fits (return e) = all_of _ _ (expression_fits e) (λ a h. record { each = h })
    statement_fits (if_then p e t) = all_of _ _ (expression_fits e) (λ a h. all_of _ _ (statement_fits t) (λ b i. record { each = (h, i) }))
    statement_fits (if_else p e t u) = all_of _ _ (expression_fits e) (λ a h. all_of _ _ (statement_fits t) (λ b i. all_of _ _ (statement_fits u) (λ c j. record { each = (h, i, j) })))
    statement_fits (while p e t) = all_of _ _ (expression_fits e) (λ a h. all_of _ _ (statement_fits t) (λ b i. record { each = (h, i) }))
    statement_fits (for p e f d t) = all_of _ _ (expression_fits e) (λ a h. all_of _ _ (expression_fits f) (λ b i. all_of _ _ (expression_fits d) (λ c j. all_of _ _ (statement_fits t) (λ b k. record { each = (h, ((i, (k, (j, tt))), tt)) }))))

    statements_fit : (ts : Stmts) → Each (FitStatements rs g n) (statements s vs ts)
    statements_fit end = record { each = tt }
    statements_fit (then t ts) = all_of _ _ (statement_fits t) (λ a h. all_of _ _ (statements_fit ts) (λ b i. record { each = (h, i) }))

module _ (rs : List Routine) (cells : Region → ℕ) where
  variable_known : (o : Option Slot) (p : Option Thing) → Each (Lies cells) o → Each (Known rs cells) p → Each (Known rs cells) (as_variable o p)
  variable_known (Some v) p h k = record { each = h.each }
  variable_known None p h k = k

  function_known : (o : Option (ℕ × ℕ)) → Each (λ p. Callable rs p.0 p.1) o → Each (Known rs cells) (as_function o)
  function_known (Some p) h = record { each = h.each }
  function_known None h = record { each = tt }

-- the routine of each function, counted from wherever the functions are
called : (s : Sheet) (fs : List Function) → Each (λ rs. (at : ℕ) (x : Name) → Each (λ p. (i : ℕ) × (at + i ≡ p.0) × Callable rs i p.1) (find_function at fs x)) (routines s fs)
called s [] = record { each = λ at x. record { each = tt } }
called s (f ∷ fs) =
    all_of (routine s f) _ (headed (statements s (own f) f.body)) (λ r is.
    all_of (routines s fs) _ (called s fs) (λ rs there.
    record {
      each = λ at x. all_if (same x f.name) _ _
          (λ _. record { each = (0, omega arith, (r, refl, is)) })
          (λ _. weaker _ (there (suc at) x) (λ p h. (suc h.0, omega arith, h.2)));
    }))
  where
    headed : (o : Option Statements) → Each (λ (r : Routine). r.parameters ≡ length f.parameters) (o >>= λ b. Some (record { parameters = length f.parameters; locals = total f.locals; body = b }))
    headed (Some b) = record { each = refl }
    headed None = record { each = tt }

-- a parameter takes one cell
plain_total : (ps vs : List Variable) → Plain ps → total (ps ++ vs) ≡ length ps + total vs
plain_total [] vs h = omega arith
plain_total (p ∷ ps) vs h = omega (arith, ap cells_of h.0, plain_total ps vs h.1)

plain_positive : (ps : List Variable) → Plain ps → Positive ps
plain_positive ps h = All-weaker _ _ (λ v is. subst Sized (sym is) tt) ps h

module _ (s : Sheet) (limited : Limited s) (rs : List Routine) (there : (x : Name) → Each (λ p. Callable rs p.0 p.1) (find_function 0 s.functions x)) where
  routine_fits : (f : Function) → Within f → Each (λ r. FitStatements rs (total s.variables) (r.parameters + r.locals) r.body) (routine s f)
  routine_fits f h = all_of _ _ (statements_fit s (own f) rs (total s.variables) (length f.parameters + total f.locals) known few f.body) (λ b fits. record { each = fits })
    where
      cells : Region → ℕ
      cells = room (total s.variables) (length f.parameters + total f.locals)

      known : (x : Name) → Each (Known rs cells) (looked_up s (own f) x)
      known x =
          variable_known rs cells _ _ (find_lies cells in_frame 0 (own f) x (omega (arith, plain_total f.parameters f.locals h.plain)) (All-append _ f.parameters f.locals (plain_positive f.parameters h.plain) h.positive))
          (variable_known rs cells _ _ (find_lies cells on_sheet 0 s.variables x (omega arith) limited.positive) (function_known rs cells _ (there x)))

      few : (r : Region) → cells r ≤ largest
      few on_sheet = omega (arith, limited.cells)
      few in_frame = omega (arith, h.parameters, h.locals, plain_total f.parameters f.locals h.plain)

  routines_fit : (fs : List Function) → AllByRecursion Within fs → Each (FitRoutines rs (total s.variables)) (routines s fs)
  routines_fit [] h = record { each = tt }
  routines_fit (f ∷ fs) h =
      all_of (routine s f) _ (routine_fits f h.0) (λ r fits.
      all_of (routines s fs) _ (routines_fit fs h.1) (λ more fit.
      record { each = (fits, fit) }))

routines_count : (s : Sheet) (fs : List Function) → Each (λ rs. length rs ≡ length fs) (routines s fs)
routines_count s [] = record { each = refl }
routines_count s (f ∷ fs) = all_by (routine s f) _ (λ r _. all_of (routines s fs) _ (routines_count s fs) (λ rs is. record { each = ap suc is }))

pub fit : (s : Sheet) (p : Program) → Limited s → resolved s ≡ Some p → FitRoutines p.routines p.cells p.routines
fit s p limited is = at_some (λ q. FitRoutines q.routines q.cells q.routines) (resolved s) p is (all_by (routines s s.functions) _ (λ rs are.
    let there : (x : Name) → Each (λ p. Callable rs p.0 p.1) (find_function 0 s.functions x) = λ x.
    weaker _ (at_some _ _ rs are (called s s.functions) 0 x) (λ p h. subst (λ i. Callable rs i p.1) (let e : h.0 ≡ p.0 = omega arith in e) h.2) in
    record { each = at_some _ _ rs are (routines_fit s limited rs there s.functions limited.functions) }))

pub cells_kept : (s : Sheet) (p : Program) → resolved s ≡ Some p → p.cells ≡ total s.variables
cells_kept s p is = at_some (λ q. q.cells ≡ total s.variables) (resolved s) p is (all_by (routines s s.functions) _ (λ rs _. record { each = refl }))

pub functions_kept : (s : Sheet) (p : Program) → resolved s ≡ Some p → length p.routines ≡ length s.functions
functions_kept s p is = at_some (λ q. length q.routines ≡ length s.functions) (resolved s) p is (all_of (routines s s.functions) _ (routines_count s s.functions) (λ rs same-many. record { each = same-many }))

routines_few : (s : Sheet) (fs : List Function) → AllByRecursion Within fs → Each (λ rs. AllByRecursion (λ r. r.parameters ≤ 8) rs) (routines s fs)
routines_few s [] h = record { each = tt }
routines_few s (f ∷ fs) h =
    all_by (routine s f) _ (λ r is.
    all_of (routines s fs) _ (routines_few s fs h.1) (λ rs few.
    record { each = (at_some (λ r. r.parameters ≤ 8) (routine s f) r is (all_by (statements s (own f) f.body) _ (λ b _. record { each = h.0.parameters })), few) }))

pub parameters_few : (s : Sheet) (p : Program) → Limited s → resolved s ≡ Some p → AllByRecursion (λ r. r.parameters ≤ 8) p.routines
parameters_few s p limited is = at_some (λ q. AllByRecursion (λ r. r.parameters ≤ 8) q.routines) (resolved s) p is (all_of (routines s s.functions) _ (routines_few s s.functions limited.functions) (λ rs few. record { each = few }))
