-- An expression resolves exactly when nothing in it has a fault. Assumes nothing.
use Rattle.std.proofs.Common.{◌≡◌, ℕ, ◌≤◌, Bool, true, false, cond, eqb, leb, ◌↔◌, List, [], ◌∷◌, ◌++◌, length, Some, None, Option, refl, subst, arith}
use Rattle.std.specs.List.{AllByRecursion}
use Rattle.std.proofs.ByRecursion.{All-append}
use Rattle.std.proofs.lemmas.Bool.{leb-true, le-leb, eqb-true, eq-eqb, cond-true}
use Rattle.reckoning.specs.Meaning.{largest}
use Rattle.language.specs.Tree.{Expr, number, variable, call, unary, binary, assign, brackets, Indices, plain, index, Args, no_args, argument, Stmt, expr, block, return, if_then, if_else, while, for, Stmts, end, then, Variable, Function, Sheet}
use Rattle.language.specs.Resolved.{constant}
use Rattle.language.specs.Scope.{Slot, Thing, variable_at, function_at, own, ◌>>=◌, looked_up, slot_of, count, function_of, expression, target, subscripts, arguments, statement, statements, routine, routines, resolved}
use Rattle.names.specs.Questions.{parts, parts_indices, parts_args, parts_statement, parts_statements, is_variable, left_at, depth, indexed, callable, agrees, used_at, counted_at}
use Rattle.names.specs.Laws.{Small}
use Rattle.names.proofs.Members.{torn, all_split, unless_none, none_unless}

pub clash : {X Y : Type 0} (x : X) → None ≡ Some x → Y
clash x is = let z : ◌≡◌ {A = ℕ} 0 1 = cc in absurd (omega arith)

pub record There {X : Type 0} (o : Option X) : Type 0 where
  pub found : X
  pub is : o ≡ Some found

there_by : {X Y : Type 0} (o : Option X) (k : X → Option Y) → There o → ((a : X) → o ≡ Some a → There (k a)) → There (o >>= k)
there_by (Some a) k h g = g a refl
there_by None k h g = clash h.found h.is

there_of : {X Y : Type 0} (o : Option X) (k : X → Option Y) → There o → ((a : X) → There (k a)) → There (o >>= k)
there_of o k h g = there_by o k h (λ a _. g a)

here : {X : Type 0} (a : X) → There (Some a)
here a = record { found = a; is = refl }

-- what was there before
before : {X Y : Type 0} (o : Option X) (k : X → Option Y) → There (o >>= k) → There o
before (Some a) k h = here a
before None k h = clash h.found h.is

after : {X Y : Type 0} (o : Option X) (k : X → Option Y) (h : There (o >>= k)) → (a : X) × (o ≡ Some a) × There (k a)
after (Some a) k h = (a, refl, h)
after None k h = clash h.found h.is

slot_there : (n : ℕ) (o : Option Thing) → indexed n o ≡ true → There (slot_of o)
slot_there n (Some (variable_at v)) is = here v
slot_there n (Some (function_at f k)) is = torn false refl is
slot_there n None is = torn false refl is

slot_depth : (n : ℕ) (o : Option Thing) (v : Slot) → slot_of o ≡ Some v → (indexed n o ≡ true) ↔ (n ≡ length v.sizes)
slot_depth n (Some (variable_at w)) v known =
    let same : w ≡ v = cc in
    subst (λ u. (eqb n (length w.sizes) ≡ true) ↔ (n ≡ length u.sizes)) same (eqb-true n (length w.sizes), eq-eqb n (length w.sizes))
slot_depth n (Some (function_at f k)) v known = clash v known
slot_depth n None v known = clash v known

function_there : (n : ℕ) (o : Option Thing) → callable o ≡ true → agrees n o ≡ true → There (function_of n o)
function_there n (Some (variable_at v)) is agree = torn false refl is
function_there n (Some (function_at f k)) is agree = record { found = f; is = cond-true _ _ _ agree }
function_there n None is agree = torn false refl is

there_function : (n : ℕ) (o : Option Thing) → There (function_of n o) → (callable o ≡ true) × (agrees n o ≡ true)
there_function n (Some (variable_at v)) h = clash h.found h.is
there_function n (Some (function_at f k)) h = (refl, go (eqb n k) refl h.is)
  where
    go : (b : Bool) → eqb n k ≡ b → cond b (Some f) None ≡ Some h.found → eqb n k ≡ true
    go true test is = test
    go false test is = clash h.found is
there_function n None h = clash h.found h.is

number_small : (n : ℕ) → There (cond (leb n largest) (Some (constant n)) None) → n ≤ largest
number_small n h = go (leb n largest) refl h.is
  where
    go : (b : Bool) → leb n largest ≡ b → cond b (Some (constant n)) None ≡ Some h.found → n ≤ largest
    go true test is = leb-true n largest test
    go false test is = clash h.found is

module _ (s : Sheet) (vs : List Variable) where
  -- what an expression is asked itself, but for what stands in it
  abbrev pub Clean : Expr → Type 0
  Clean e = (left_at e ≡ []) × (used_at s vs e ≡ []) × (counted_at s vs e ≡ []) × Small e

  mutual
    expression_there : (e : Expr) → AllByRecursion Clean (parts e) → There (expression s vs e)
    expression_there (number n) h = record { found = constant n; is = cond-true _ _ _ (le-leb n largest h.0.3) }
    expression_there (variable p x is) h =
        let fits = unless_none (indexed (depth is) (looked_up s vs x)) p h.0.1 in
        there_by (slot_of (looked_up s vs x)) _ (slot_there (depth is) (looked_up s vs x) fits) (λ v known.
        there_of (subscripts s vs is v.sizes) _ (subscripts_there is v.sizes ((slot_depth (depth is) (looked_up s vs x) v known).0 fits) h.1) (λ js. here _))
    expression_there (call p x q es) h =
        there_of (function_of (count es) (looked_up s vs x)) _ (function_there (count es) (looked_up s vs x) (unless_none _ p h.0.1) (unless_none _ q h.0.2)) (λ f.
        there_of (arguments s vs es) _ (arguments_there es h.1) (λ xs. here _))
    expression_there (unary g p e) h = there_of (expression s vs e) _ (expression_there e h.1) (λ a. here _)
    expression_there (binary o p l r) h =
        let two = all_split Clean (parts l) (parts r) h.1 in
        there_of (expression s vs l) _ (expression_there l two.0) (λ a. there_of (expression s vs r) _ (expression_there r two.1) (λ b. here _))
    expression_there (assign p l r) h =
        let two = all_split Clean (parts l) (parts r) h.1 in
        there_of (target s vs l) _ (target_there l (unless_none (is_variable l) p h.0.0) two.0) (λ t. there_of (expression s vs r) _ (expression_there r two.1) (λ b. here _))
    expression_there (brackets e) h = expression_there e h.1

    target_there : (e : Expr) → is_variable e ≡ true → AllByRecursion Clean (parts e) → There (target s vs e)
    target_there (number n) is h = torn false refl is
    target_there (variable p x js) is h =
        let fits = unless_none (indexed (depth js) (looked_up s vs x)) p h.0.1 in
        there_by (slot_of (looked_up s vs x)) _ (slot_there (depth js) (looked_up s vs x) fits) (λ v known.
        there_of (subscripts s vs js v.sizes) _ (subscripts_there js v.sizes ((slot_depth (depth js) (looked_up s vs x) v known).0 fits) h.1) (λ ks. here _))
    target_there (call p x q es) is h = torn false refl is
    target_there (unary g p e) is h = torn false refl is
    target_there (binary o p l r) is h = torn false refl is
    target_there (assign p l r) is h = torn false refl is
    target_there (brackets e) is h = torn false refl is

    subscripts_there : (is : Indices) (ns : List ℕ) → depth is ≡ length ns → AllByRecursion Clean (parts_indices is) → There (subscripts s vs is ns)
    subscripts_there plain [] many h = here _
    subscripts_there plain (n ∷ ns) many h = absurd (omega arith)
    subscripts_there (index p e is) [] many h = absurd (omega arith)
    subscripts_there (index p e is) (n ∷ ns) many h =
        let two = all_split Clean (parts e) (parts_indices is) h in
        there_of (expression s vs e) _ (expression_there e two.0) (λ a. there_of (subscripts s vs is ns) _ (subscripts_there is ns (omega arith) two.1) (λ js. here _))

    arguments_there : (es : Args) → AllByRecursion Clean (parts_args es) → There (arguments s vs es)
    arguments_there no_args h = here _
    arguments_there (argument e es) h =
        let two = all_split Clean (parts e) (parts_args es) h in
        there_of (expression s vs e) _ (expression_there e two.0) (λ a. there_of (arguments s vs es) _ (arguments_there es two.1) (λ xs. here _))

  mutual
    statement_there : (t : Stmt) → AllByRecursion Clean (parts_statement t) → There (statement s vs t)
    statement_there (expr e) h = there_of (expression s vs e) _ (expression_there e h) (λ a. here _)
    statement_there (block ts) h = there_of (statements s vs ts) _ (statements_there ts h) (λ a. here _)
    statement_there (return e) h = there_of (expression s vs e) _ (expression_there e h) (λ a. here _)
    statement_there (if_then p e t) h =
        let two = all_split Clean (parts e) (parts_statement t) h in
        there_of (expression s vs e) _ (expression_there e two.0) (λ a. there_of (statement s vs t) _ (statement_there t two.1) (λ b. here _))
    statement_there (if_else p e t u) h =
        let two = all_split Clean (parts e) (parts_statement t ++ parts_statement u) h in
        let more = all_split Clean (parts_statement t) (parts_statement u) two.1 in
        there_of (expression s vs e) _ (expression_there e two.0) (λ a. there_of (statement s vs t) _ (statement_there t more.0) (λ b. there_of (statement s vs u) _ (statement_there u more.1) (λ c. here _)))
    statement_there (while p e t) h =
        let two = all_split Clean (parts e) (parts_statement t) h in
        there_of (expression s vs e) _ (expression_there e two.0) (λ a. there_of (statement s vs t) _ (statement_there t two.1) (λ b. here _))
    statement_there (for p e f g t) h =
        let two = all_split Clean (parts e) (parts f ++ (parts g ++ parts_statement t)) h in
        let more = all_split Clean (parts f) (parts g ++ parts_statement t) two.1 in
        let last = all_split Clean (parts g) (parts_statement t) more.1 in
        there_of (expression s vs e) _ (expression_there e two.0) (λ a. there_of (expression s vs f) _ (expression_there f more.0) (λ b. there_of (expression s vs g) _ (expression_there g last.0) (λ c. there_of (statement s vs t) _ (statement_there t last.1) (λ d. here _))))

    statements_there : (ts : Stmts) → AllByRecursion Clean (parts_statements ts) → There (statements s vs ts)
    statements_there end h = here _
    statements_there (then t ts) h =
        let two = all_split Clean (parts_statement t) (parts_statements ts) h in
        there_of (statement s vs t) _ (statement_there t two.0) (λ a. there_of (statements s vs ts) _ (statements_there ts two.1) (λ b. here _))

  mutual
    expression_clean : (e : Expr) → There (expression s vs e) → AllByRecursion Clean (parts e)
    expression_clean (number n) h = ((refl, refl, refl, number_small n h), tt)
    expression_clean (variable p x is) h =
        let a = after (slot_of (looked_up s vs x)) _ h in
        let r = subscripts_clean is a.0.sizes (before (subscripts s vs is a.0.sizes) _ a.2) in
        ((refl, none_unless (indexed (depth is) (looked_up s vs x)) p ((slot_depth (depth is) (looked_up s vs x) a.0 a.1).1 r.0), refl, tt), r.1)
    expression_clean (call p x q es) h =
        let a = after (function_of (count es) (looked_up s vs x)) _ h in
        let f = there_function (count es) (looked_up s vs x) (before (function_of (count es) (looked_up s vs x)) _ h) in
        ((refl, none_unless (callable (looked_up s vs x)) p f.0, none_unless (agrees (count es) (looked_up s vs x)) q f.1, tt), arguments_clean es (before (arguments s vs es) _ a.2))
    expression_clean (unary g p e) h = ((refl, refl, refl, tt), expression_clean e (before (expression s vs e) _ h))
    expression_clean (binary o p l r) h =
        let a = after (expression s vs l) _ h in
        ((refl, refl, refl, tt), All-append _ (parts l) (parts r) (expression_clean l (before (expression s vs l) _ h)) (expression_clean r (before (expression s vs r) _ a.2)))
    expression_clean (assign p l r) h =
        let a = after (target s vs l) _ h in
        let t = target_clean l (before (target s vs l) _ h) in
        ((none_unless (is_variable l) p t.0, refl, refl, tt), All-append _ (parts l) (parts r) t.1 (expression_clean r (before (expression s vs r) _ a.2)))
    expression_clean (brackets e) h = ((refl, refl, refl, tt), expression_clean e h)

    target_clean : (e : Expr) → There (target s vs e) → (is_variable e ≡ true) × AllByRecursion Clean (parts e)
    target_clean (number n) h = clash h.found h.is
    target_clean (variable p x is) h =
        let a = after (slot_of (looked_up s vs x)) _ h in
        let r = subscripts_clean is a.0.sizes (before (subscripts s vs is a.0.sizes) _ a.2) in
        (refl, ((refl, none_unless (indexed (depth is) (looked_up s vs x)) p ((slot_depth (depth is) (looked_up s vs x) a.0 a.1).1 r.0), refl, tt), r.1))
    target_clean (call p x q es) h = clash h.found h.is
    target_clean (unary g p e) h = clash h.found h.is
    target_clean (binary o p l r) h = clash h.found h.is
    target_clean (assign p l r) h = clash h.found h.is
    target_clean (brackets e) h = clash h.found h.is

    subscripts_clean : (is : Indices) (ns : List ℕ) → There (subscripts s vs is ns) → (depth is ≡ length ns) × AllByRecursion Clean (parts_indices is)
    subscripts_clean plain [] h = (refl, tt)
    subscripts_clean plain (n ∷ ns) h = clash h.found h.is
    subscripts_clean (index p e is) [] h = clash h.found h.is
    subscripts_clean (index p e is) (n ∷ ns) h =
        let a = after (expression s vs e) _ h in
        let r = subscripts_clean is ns (before (subscripts s vs is ns) _ a.2) in
        (omega (arith, r.0), All-append _ (parts e) (parts_indices is) (expression_clean e (before (expression s vs e) _ h)) r.1)

    arguments_clean : (es : Args) → There (arguments s vs es) → AllByRecursion Clean (parts_args es)
    arguments_clean no_args h = tt
    arguments_clean (argument e es) h =
        let a = after (expression s vs e) _ h in
        All-append _ (parts e) (parts_args es) (expression_clean e (before (expression s vs e) _ h)) (arguments_clean es (before (arguments s vs es) _ a.2))

  mutual
    statement_clean : (t : Stmt) → There (statement s vs t) → AllByRecursion Clean (parts_statement t)
    statement_clean (expr e) h = expression_clean e (before (expression s vs e) _ h)
    statement_clean (block ts) h = statements_clean ts (before (statements s vs ts) _ h)
    statement_clean (return e) h = expression_clean e (before (expression s vs e) _ h)
    statement_clean (if_then p e t) h =
        let a = after (expression s vs e) _ h in
        All-append _ (parts e) (parts_statement t) (expression_clean e (before (expression s vs e) _ h)) (statement_clean t (before (statement s vs t) _ a.2))
    statement_clean (if_else p e t u) h =
        let a = after (expression s vs e) _ h in
        let b = after (statement s vs t) _ a.2 in
        All-append _ (parts e) (parts_statement t ++ parts_statement u) (expression_clean e (before (expression s vs e) _ h))
        (All-append _ (parts_statement t) (parts_statement u) (statement_clean t (before (statement s vs t) _ a.2)) (statement_clean u (before (statement s vs u) _ b.2)))
    statement_clean (while p e t) h =
        let a = after (expression s vs e) _ h in
        All-append _ (parts e) (parts_statement t) (expression_clean e (before (expression s vs e) _ h)) (statement_clean t (before (statement s vs t) _ a.2))
    statement_clean (for p e f g t) h =
        let a = after (expression s vs e) _ h in
        let b = after (expression s vs f) _ a.2 in
        let c = after (expression s vs g) _ b.2 in
        All-append _ (parts e) (parts f ++ (parts g ++ parts_statement t)) (expression_clean e (before (expression s vs e) _ h))
        (All-append _ (parts f) (parts g ++ parts_statement t) (expression_clean f (before (expression s vs f) _ a.2))
        (All-append _ (parts g) (parts_statement t) (expression_clean g (before (expression s vs g) _ b.2)) (statement_clean t (before (statement s vs t) _ c.2))))

    statements_clean : (ts : Stmts) → There (statements s vs ts) → AllByRecursion Clean (parts_statements ts)
    statements_clean end h = tt
    statements_clean (then t ts) h =
        let a = after (statement s vs t) _ h in
        All-append _ (parts_statement t) (parts_statements ts) (statement_clean t (before (statement s vs t) _ h)) (statements_clean ts (before (statements s vs ts) _ a.2))

-- nothing in a function's body has a fault
abbrev pub CleanBody : Sheet → Function → Type 0
CleanBody s f = AllByRecursion (Clean s (own f)) (parts_statements f.body)

routines_there : (s : Sheet) (fs : List Function) → AllByRecursion (CleanBody s) fs → There (routines s fs)
routines_there s [] h = here _
routines_there s (f ∷ fs) h =
    there_of (routine s f) _ (there_of (statements s (own f) f.body) _ (statements_there s (own f) f.body h.0) (λ b. here _)) (λ r.
    there_of (routines s fs) _ (routines_there s fs h.1) (λ rs. here _))

routines_clean : (s : Sheet) (fs : List Function) → There (routines s fs) → AllByRecursion (CleanBody s) fs
routines_clean s [] h = tt
routines_clean s (f ∷ fs) h =
    let a = after (routine s f) _ h in
    (statements_clean s (own f) f.body (before (statements s (own f) f.body) _ (before (routine s f) _ h)), routines_clean s fs (before (routines s fs) _ a.2))

pub resolved_there : (s : Sheet) → AllByRecursion (CleanBody s) s.functions → There (resolved s)
resolved_there s h = there_of (routines s s.functions) _ (routines_there s s.functions h) (λ rs. here _)

pub resolved_clean : (s : Sheet) → There (resolved s) → AllByRecursion (CleanBody s) s.functions
resolved_clean s h = routines_clean s s.functions (before (routines s s.functions) _ h)
