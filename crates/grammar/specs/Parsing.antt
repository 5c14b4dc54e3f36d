-- Parsing, one token at a time over what is pending. Assumes nothing.
use Rattle.std.specs.Prelude.{ℕ, suc, cond, List, [], ◌∷◌, Some, None, Option, nat_le}
use Rattle.reckoning.specs.declared.Operator.{Operator}
use Rattle.reckoning.specs.declared.Operator.TheVariants.{Add, Subtract, Multiply, Divide, Remainder, Compare}
use Rattle.language.specs.Tree.{Name, Sign, minus, bang, Expr, number, variable, call, unary, binary, assign, brackets, Indices, plain, index, Args, no_args, argument, Stmt, expr, block, return, if_then, if_else, while, for, Stmts, end, then, Variable, Function, Sheet}
use Rattle.grammar.specs.Lexemes.{Mark, round, end_round, square, end_square, brace, end_brace, comma, semicolon, int_word, return_word, if_word, else_word, while_word, for_word, Lexeme, numeral, identifier, operator, exclamation, equals, mark, Token, is}
use Rattle.grammar.specs.Words.{level}

-- What an expression that is being read goes into, innermost first.
pub data Stack : Type 0 where
  base : Stack
  sign : Sign → ℕ → Stack → Stack
  left : Operator → ℕ → Expr → Stack → Stack
  target : ℕ → Expr → Stack → Stack
  bracket : Stack → Stack
  -- the name's place, the name, the place of "["
  element : ℕ → Name → ℕ → Stack → Stack
  -- the name's place, the name, the place of "(", the arguments so far, latest first
  called : ℕ → Name → ℕ → List Expr → Stack → Stack

-- An operand is wanted, or there is one.
pub data Operand : Type 0 where
  need : Stack → Operand
  have : Expr → Stack → Operand

-- A token is refused, or taken, or it is a mark behind the whole expression.
pub data Answer : Type 0 where
  no : Answer
  on : Operand → Answer
  out : Mark → Expr → Answer

-- the first of two answers, if the lexeme is the mark
abbrev pub option : {X : Type 0} → Mark → Lexeme → X → X → X
option m l x y = cond (is m l) x y

-- Before a sign that binds at a level, whatever binds at least as tightly is put together.
abbrev pub settle : ℕ → Stack → Expr → Stack × Expr
settle n base e = (base, e)
settle n (sign s p k) e = settle n k (unary s p e)
settle n (left o p l k) e = cond (nat_le n (level o)) (settle n k (binary o p l e)) (left o p l k, e)
settle n (target p l k) e = cond (nat_le n 0) (settle n k (assign p l e)) (target p l k, e)
settle n (bracket k) e = (bracket k, e)
settle n (element p x q k) e = (element p x q k, e)
settle n (called p x q ds k) e = (called p x q ds k, e)

-- arguments in their order: those before, latest first, one, and those behind it
abbrev pub arguments : List Expr → Expr → Args → Args
arguments [] e es = argument e es
arguments (d ∷ ds) e es = arguments ds d (argument e es)

-- a mark behind an operand that everything up to an open bracket has gone into
abbrev pub closes : Mark → Stack → Expr → Answer
closes m base e = out m e
closes m (sign s p k) e = no
closes m (left o p l k) e = no
closes m (target p l k) e = no
closes m (bracket k) e = option end_round (mark m) (on (have (brackets e) k)) no
closes m (element p x q k) e = option end_square (mark m) (on (have (variable p x (index q e plain)) k)) no
closes m (called p x q ds k) e = option end_round (mark m) (on (have (call p x q (arguments ds e no_args)) k)) (option comma (mark m) (on (need (called p x q (e ∷ ds) k))) no)

-- "(" and "[" behind an operand: a name is called, or has an index
abbrev pub indices : Answer → Indices → Answer
indices a plain = a
indices a (index p e is) = no

abbrev pub applied : Expr → (ℕ → Name → Answer) → Answer
applied (number n) a = no
applied (variable p x is) a = indices (a p x) is
applied (call p x q es) a = no
applied (unary s p e) a = no
applied (binary o p l r) a = no
applied (assign p l r) a = no
applied (brackets e) a = no

-- a sign before an operand
abbrev pub signed : Operator → ℕ → Stack → Answer
signed Add p k = no
signed Subtract p k = on (need (sign minus p k))
signed Multiply p k = no
signed Divide p k = no
signed Remainder p k = no
signed (Compare c) p k = no

-- ")" right behind the "(" of a call
abbrev pub empty : Stack → Answer
empty base = no
empty (sign s p k) = no
empty (left o p l k) = no
empty (target p l k) = no
empty (bracket k) = no
empty (element p x q k) = no
empty (called p x q [] k) = on (have (call p x q no_args) k)
empty (called p x q (d ∷ ds) k) = no

abbrev pub feed_operand : Operand → Lexeme → ℕ → Answer
feed_operand (need k) (numeral n) at = on (have (number n) k)
feed_operand (need k) (identifier x) at = on (have (variable at x plain) k)
feed_operand (need k) (operator o) at = signed o at k
feed_operand (need k) exclamation at = on (need (sign bang at k))
feed_operand (need k) equals at = no
feed_operand (need k) (mark m) at = option round (mark m) (on (need (bracket k))) (option end_round (mark m) (empty k) no)
feed_operand (have e k) (numeral n) at = no
feed_operand (have e k) (identifier x) at = no
feed_operand (have e k) (operator o) at = let h = settle (level o) k e in on (need (left o at h.1 h.0))
feed_operand (have e k) exclamation at = no
feed_operand (have e k) equals at = let h = settle 1 k e in on (need (target at h.1 h.0))
feed_operand (have e k) (mark m) at = option round (mark m) (applied e (λ p x. on (need (called p x at [] k)))) (option square (mark m) (applied e (λ p x. on (need (element p x at k)))) (let h = settle 0 k e in closes m h.0 h.1))

-- What a statement goes into, innermost first; statements so far are latest first.
pub data Pending : Type 0 where
  body : List Stmt → Pending
  in_block : List Stmt → Pending → Pending
  in_then : ℕ → Expr → Pending → Pending
  in_else : ℕ → Expr → Stmt → Pending → Pending
  in_while : ℕ → Expr → Pending → Pending
  in_for : ℕ → Expr → Expr → Expr → Pending → Pending

-- what part of a statement an expression is
pub data Part : Type 0 where
  performed : Part
  returned : Part
  if_test : ℕ → Part
  while_test : ℕ → Part
  for_first : ℕ → Part
  for_test : ℕ → Expr → Part
  for_step : ℕ → Expr → Expr → Part

-- In a function's braces: a statement is wanted, or one is whole, or the "(" of a part is wanted, or a part is being read.
pub data Inside : Type 0 where
  statement : Pending → Inside
  after : Stmt → Pending → Inside
  head : Part → Pending → Inside
  reading : Part → Pending → Operand → Inside

-- A token is refused, or taken, or it is the function's last.
pub data Turn : Type 0 where
  stuck : Turn
  goes : Inside → Turn
  finished : Stmts → Turn

abbrev pub statements : List Stmt → Stmts → Stmts
statements [] ss = ss
statements (s ∷ before) ss = statements before (then s ss)

-- a whole statement, put where it goes, up to the nearest braces
abbrev pub settled : Stmt → Pending → Pending
settled s (body ss) = body (s ∷ ss)
settled s (in_block ss k) = in_block (s ∷ ss) k
settled s (in_then p c k) = settled (if_then p c s) k
settled s (in_else p c t k) = settled (if_else p c t s) k
settled s (in_while p c k) = settled (while p c s) k
settled s (in_for p a b c k) = settled (for p a b c s) k

-- an else behind a whole statement goes to the nearest if
abbrev pub otherwise : Stmt → Pending → Turn
otherwise s (body ss) = stuck
otherwise s (in_block ss k) = stuck
otherwise s (in_then p c k) = goes (statement (in_else p c s k))
otherwise s (in_else p c t k) = otherwise (if_else p c t s) k
otherwise s (in_while p c k) = otherwise (while p c s) k
otherwise s (in_for p a b c k) = otherwise (for p a b c s) k

-- "}"
abbrev pub ends : Pending → Turn
ends (body ss) = finished (statements ss end)
ends (in_block ss k) = goes (after (block (statements ss end)) k)
ends (in_then p c k) = stuck
ends (in_else p c t k) = stuck
ends (in_while p c k) = stuck
ends (in_for p a b c k) = stuck

-- a mark behind a part
abbrev pub completes : Part → Pending → Mark → Expr → Turn
completes performed k m e = option semicolon (mark m) (goes (after (expr e) k)) stuck
completes returned k m e = option semicolon (mark m) (goes (after (return e) k)) stuck
completes (if_test p) k m e = option end_round (mark m) (goes (statement (in_then p e k))) stuck
completes (while_test p) k m e = option end_round (mark m) (goes (statement (in_while p e k))) stuck
completes (for_first p) k m e = option semicolon (mark m) (goes (reading (for_test p e) k (need base))) stuck
completes (for_test p a) k m e = option semicolon (mark m) (goes (reading (for_step p a e) k (need base))) stuck
completes (for_step p a b) k m e = option end_round (mark m) (goes (statement (in_for p a b e k))) stuck

abbrev pub resumes : Part → Pending → Answer → Turn
resumes h k no = stuck
resumes h k (on o) = goes (reading h k o)
resumes h k (out m e) = completes h k m e

abbrev pub begins : Pending → Lexeme → ℕ → Turn
begins k l at =
    option brace l (goes (statement (in_block [] k)))
    (option end_brace l (ends k)
    (option return_word l (goes (reading returned k (need base)))
    (option if_word l (goes (head (if_test at) k))
    (option while_word l (goes (head (while_test at) k))
    (option for_word l (goes (head (for_first at) k))
    (resumes performed k (feed_operand (need base) l at)))))))

abbrev pub feed_inside : Inside → Lexeme → ℕ → Turn
feed_inside (statement k) l at = begins k l at
feed_inside (after s k) l at = option else_word l (otherwise s k) (begins (settled s k) l at)
feed_inside (head h k) l at = option round l (goes (reading h k (need base))) stuck
feed_inside (reading h k o) l at = resumes h k (feed_operand o l at)

-- A declaration behind its "int": its name, "[", its size and "]" are there.
pub data Declaring : Type 0 where
  typed : Declaring
  named : ℕ → Name → Declaring
  opened : ℕ → Name → Declaring
  sized : ℕ → Name → ℕ → Declaring
  closed : ℕ → Name → ℕ → Declaring

-- A token is refused, or taken, or it is the declaration's last.
pub data Declared : Type 0 where
  never : Declared
  still : Declaring → Declared
  done : Variable → Declared

abbrev pub simple : ℕ → Name → Variable
simple p x = record { place = p; name = x; sizes = [] }

abbrev pub array : ℕ → Name → ℕ → Variable
array p x n = record { place = p; name = x; sizes = n ∷ [] }

abbrev pub if_name : {X : Type 0} → Lexeme → (Name → X) → X → X
if_name (numeral n) f y = y
if_name (identifier x) f y = f x
if_name (operator o) f y = y
if_name exclamation f y = y
if_name equals f y = y
if_name (mark m) f y = y

abbrev pub if_number : {X : Type 0} → Lexeme → (ℕ → X) → X → X
if_number (numeral n) f y = f n
if_number (identifier x) f y = y
if_number (operator o) f y = y
if_number exclamation f y = y
if_number equals f y = y
if_number (mark m) f y = y

abbrev pub declare : Declaring → Lexeme → ℕ → Declared
declare typed l at = if_name l (λ x. still (named at x)) never
declare (named p x) l at = option semicolon l (done (simple p x)) (option square l (still (opened p x)) never)
declare (opened p x) l at = if_number l (λ n. still (sized p x n)) never
declare (sized p x n) l at = option end_square l (still (closed p x n)) never
declare (closed p x n) l at = option semicolon l (done (array p x n)) never

-- The sheet up to a function's "(": what was declared before it, latest first, and its name.
pub record Heading : Type 0 where
  pub variables : List Variable
  pub functions : List Function
  pub place : ℕ
  pub name : Name

-- Parameters and local variables are latest first.
pub data State : Type 0 where
  sheet : List Variable → List Function → State
  declaring : List Variable → List Function → Declaring → State
  -- behind "(", behind ",", behind "int", behind a parameter, behind ")"
  parameters : Heading → State
  another : Heading → List Variable → State
  parameter : Heading → List Variable → State
  parameter_end : Heading → List Variable → State
  signature : Heading → List Variable → State
  locals : Heading → List Variable → List Variable → State
  local : Heading → List Variable → List Variable → Declaring → State
  inside : Heading → List Variable → List Variable → Inside → State

-- xs, latest first, before ys
abbrev pub onto : {X : Type 0} → List X → List X → List X
onto [] ys = ys
onto (x ∷ xs) ys = onto xs (x ∷ ys)

abbrev pub made : Heading → List Variable → List Variable → Stmts → Function
made h ps ls ss = record { place = h.place; name = h.name; parameters = onto ps []; locals = onto ls []; body = ss }

abbrev pub declares : List Variable → List Function → Declared → Option State
declares vs fs never = None
declares vs fs (still d) = Some (declaring vs fs d)
declares vs fs (done v) = Some (sheet (v ∷ vs) fs)

-- behind a function there is no variable
abbrev pub if_first : {X : Type 0} → List Function → Option X → Option X
if_first [] x = x
if_first (f ∷ fs) x = None

-- a name on the sheet is a function's before "("
abbrev pub feed_declaring : List Variable → List Function → Declaring → Lexeme → ℕ → Option State
feed_declaring vs fs typed l at = declares vs fs (declare typed l at)
feed_declaring vs fs (named p x) l at = option round l (Some (parameters (record { variables = vs; functions = fs; place = p; name = x }))) (if_first fs (declares vs fs (declare (named p x) l at)))
feed_declaring vs fs (opened p x) l at = declares vs fs (declare (opened p x) l at)
feed_declaring vs fs (sized p x n) l at = declares vs fs (declare (sized p x n) l at)
feed_declaring vs fs (closed p x n) l at = declares vs fs (declare (closed p x n) l at)

abbrev pub declares_local : Heading → List Variable → List Variable → Declared → Option State
declares_local h ps ls never = None
declares_local h ps ls (still d) = Some (local h ps ls d)
declares_local h ps ls (done v) = Some (locals h ps (v ∷ ls))

abbrev pub turns : Heading → List Variable → List Variable → Turn → Option State
turns h ps ls stuck = None
turns h ps ls (goes i) = Some (inside h ps ls i)
turns h ps ls (finished ss) = Some (sheet h.variables (made h ps ls ss ∷ h.functions))

abbrev pub feed : State → Token → Option State
feed (sheet vs fs) t = option int_word t.0 (Some (declaring vs fs typed)) None
feed (declaring vs fs d) t = feed_declaring vs fs d t.0 t.1
feed (parameters h) t = option end_round t.0 (Some (signature h [])) (option int_word t.0 (Some (parameter h [])) None)
feed (another h ps) t = option int_word t.0 (Some (parameter h ps)) None
feed (parameter h ps) t = if_name t.0 (λ x. Some (parameter_end h (simple t.1 x ∷ ps))) None
feed (parameter_end h ps) t = option comma t.0 (Some (another h ps)) (option end_round t.0 (Some (signature h ps)) None)
feed (signature h ps) t = option brace t.0 (Some (locals h ps [])) None
feed (locals h ps ls) t = option int_word t.0 (Some (local h ps ls typed)) (turns h ps ls (begins (body []) t.0 t.1))
feed (local h ps ls d) t = declares_local h ps ls (declare d t.0 t.1)
feed (inside h ps ls i) t = turns h ps ls (feed_inside i t.0 t.1)

-- Accepted, or refused at a token, counted from 0. The count of all tokens is the end.
pub data Verdict : Type 0 where
  accepted : Sheet → Verdict
  refused : ℕ → Verdict

abbrev pub later : Verdict → Verdict
later (accepted s) = accepted s
later (refused i) = refused (suc i)

abbrev pub if_taken : Option State → (State → Verdict) → Verdict
if_taken None f = refused 0
if_taken (Some s) f = later (f s)

-- at the end of the tokens
abbrev pub ending : State → Verdict
ending (sheet vs fs) = accepted (record { variables = onto vs []; functions = onto fs [] })
ending (declaring vs fs d) = refused 0
ending (parameters h) = refused 0
ending (another h ps) = refused 0
ending (parameter h ps) = refused 0
ending (parameter_end h ps) = refused 0
ending (signature h ps) = refused 0
ending (locals h ps ls) = refused 0
ending (local h ps ls d) = refused 0
ending (inside h ps ls i) = refused 0

abbrev pub parse : State → List Token → Verdict
parse s [] = ending s
parse s (t ∷ ts) = if_taken (feed s t) (λ u. parse u ts)

abbrev pub start : State
start = sheet [] []

-- the verdict of the grammar on a list of tokens
abbrev pub verdict : List Token → Verdict
verdict ts = parse start ts
