-- What the grammar says of a table's tokens, from one on. Assumes nothing.
use Rattle.std.specs.Prelude.{◌≡◌, ℕ, suc, ◌+◌, ◌<◌, ◌≤◌, true, false, cond, ltb, List, length, drop, Some, None, Ok, Err, Option, Result, nat_lt}
use Rattle.language.specs.Tree.{Name, Expr, variable, call, plain, Args, Variable}
use Rattle.grammar.specs.Words.{level}
use Rattle.grammar.specs.Parsing.{Stack, base, sign, left, target, bracket, element, called, Operand, need, have, no, empty, arguments, Pending, Part, reading, Heading, State, inside}
use Rattle.grammar.specs.Limits.{opens, depth, Judgement, right, wrong, judge}
use Rattle.sheet.specs.declared.nodes.Mark.{Mark}
use Rattle.sheet.specs.declared.nodes.Mark.TheVariants.{EndRound}
use Rattle.sheet.specs.declared.nodes.Kind.{Kind}
use Rattle.sheet.specs.declared.nodes.Kind.TheVariants.{Number as ANumber, Name as AName, Operator as AnOperator, Exclamation as AnExclamation, Equals as AnEquals, Mark as AMark}
use Rattle.sheet.specs.Nodes.{Node}
use Rattle.sheet.specs.declared.refusal.Reason.{Reason}
use Rattle.sheet.specs.declared.refusal.Reason.TheVariants.{Grammar, Depth}
use Rattle.sheet.specs.declared.refusal.Refusal.{Refusal}
use Rattle.sheet.specs.Nodes.{tokens_of}
use Rattle.sheet.specs.Looks.{kind_at, is_at, opening}

abbrev pub reason_number : Reason → ℕ
reason_number Grammar = 6
reason_number Depth = 7

abbrev pub refusal : Refusal → Judgement
refusal f = wrong (reason_number f.reason) f.index

abbrev pub refused_at : ℕ → Refusal
refused_at i = record { reason = Grammar; index = i }

abbrev pub deep_at : ℕ → Refusal
deep_at i = record { reason = Depth; index = i }

-- Behind a whole operand no bracket opens.
abbrev pub complete_at : List Node → ℕ → Result ℕ Refusal
complete_at ns i = cond (opening (kind_at ns i)) (Err (refused_at i)) (Ok i)

-- The mark that closes an operand.
abbrev pub close_at : List Node → ℕ → Mark → Result ℕ Refusal
close_at ns i m = cond (is_at ns i m) (complete_at ns (i + 1)) (Err (refused_at i))

-- one more bracket, which a token opens
abbrev pub enter_at : ℕ → ℕ → Result ℕ Refusal
enter_at i held = cond (nat_lt held 8) (Ok (held + 1)) (Err (deep_at i))

-- tokens counted from another
abbrev pub shifted : ℕ → Judgement → Judgement
shifted i (right s) = right s
shifted i (wrong n j) = wrong n (i + j)

-- The verdict on the tokens from the i-th on, which are counted from the table's first.
unfoldable pub judged : List ℕ → List Node → State → ℕ → Judgement
judged text ns s i = shifted i (judge s (tokens_of text (drop i ns)))

-- What an expression is in: a part of a statement, within the limit of depth.
pub record Context : Type 0 where
  pub heading : Heading
  pub parameters : List Variable
  pub locals : List Variable
  pub part : Part
  pub pending : Pending
  pub shallow : ltb 32 (depth pending) ≡ false

abbrev pub here : Context → Operand → State
here c o = inside c.heading c.parameters c.locals (reading c.part c.pending o)

-- the least level of an operand that goes there
abbrev pub floor : Stack → ℕ
floor base = 0
floor (sign s p k) = 5
floor (left o p l k) = suc (level o)
floor (target p l k) = 0
floor (bracket k) = 0
floor (element p x q k) = 0
floor (called p x q ds k) = 0

-- what may stand behind an operand whose operators all bind at least so tightly: nothing that it goes on with
abbrev pub Stops : ℕ → Option Kind → Type 0
Stops n None = Unit {0}
Stops n (Some (ANumber v)) = Unit {0}
Stops n (Some AName) = Unit {0}
Stops n (Some (AnOperator o)) = level o < n
Stops n (Some AnExclamation) = Unit {0}
Stops n (Some AnEquals) = 1 ≤ n
Stops n (Some (AMark m)) = opening (Some (AMark m)) ≡ false

-- A ")" stands for no argument only right behind the "(" of a call, where no expression is read.
abbrev pub Apt : List Node → ℕ → Stack → Type 0
Apt ns i k = is_at ns i EndRound ≡ true → empty k ≡ no

-- Where an operand is wanted, on top of whatever it may stand under, the tokens from i up to p are read as one tree.
pub record ReadsTo (least held : ℕ) (ns : List Node) (i p : ℕ) : Type 0 where
  pub later : i < p
  pub within : p ≤ length ns
  pub stops : Stops least (kind_at ns p)
  pub tree : List ℕ → Expr
  pub by : (text : List ℕ) (c : Context) (k : Stack) → floor k ≤ least → opens k ≡ held → Apt ns i k → judged text ns (here c (need k)) i ≡ judged text ns (here c (have (tree text) k)) p

pub record ReadsNot (least held : ℕ) (ns : List Node) (i : ℕ) (f : Refusal) : Type 0 where
  pub by : (text : List ℕ) (c : Context) (k : Stack) → floor k ≤ least → opens k ≡ held → Apt ns i k → judged text ns (here c (need k)) i ≡ refusal f

abbrev pub Reads : ℕ → ℕ → List Node → ℕ → Result ℕ Refusal → Type 0
Reads least held ns i (Ok p) = ReadsTo least held ns i p
Reads least held ns i (Err f) = ReadsNot least held ns i f

-- Where there is an operand, it goes on with the tokens from i up to p.
pub record ExtendsTo (least held : ℕ) (ns : List Node) (i p : ℕ) : Type 0 where
  pub later : i ≤ p
  pub within : p ≤ length ns
  pub stops : Stops least (kind_at ns p)
  pub tree : List ℕ → Expr → Expr
  pub by : (text : List ℕ) (c : Context) (e : Expr) (k : Stack) → floor k ≤ least → opens k ≡ held → judged text ns (here c (have e k)) i ≡ judged text ns (here c (have (tree text e) k)) p

pub record ExtendsNot (least held : ℕ) (ns : List Node) (i : ℕ) (f : Refusal) : Type 0 where
  pub by : (text : List ℕ) (c : Context) (e : Expr) (k : Stack) → floor k ≤ least → opens k ≡ held → judged text ns (here c (have e k)) i ≡ refusal f

abbrev pub Extends : ℕ → ℕ → List Node → ℕ → Result ℕ Refusal → Type 0
Extends least held ns i (Ok p) = ExtendsTo least held ns i p
Extends least held ns i (Err f) = ExtendsNot least held ns i f

-- Behind a name, whatever the name is: its index, its arguments, or nothing.
pub record AppliesTo (held : ℕ) (ns : List Node) (i p : ℕ) : Type 0 where
  pub later : i ≤ p
  pub within : p ≤ length ns
  pub stops : Stops 5 (kind_at ns p)
  pub tree : List ℕ → ℕ → Name → Expr
  pub by : (text : List ℕ) (c : Context) (at : ℕ) (x : Name) (k : Stack) → opens k ≡ held → judged text ns (here c (have (variable at x plain) k)) i ≡ judged text ns (here c (have (tree text at x) k)) p

pub record AppliesNot (held : ℕ) (ns : List Node) (i : ℕ) (f : Refusal) : Type 0 where
  pub by : (text : List ℕ) (c : Context) (at : ℕ) (x : Name) (k : Stack) → opens k ≡ held → judged text ns (here c (have (variable at x plain) k)) i ≡ refusal f

abbrev pub Applies : ℕ → List Node → ℕ → Result ℕ Refusal → Type 0
Applies held ns i (Ok p) = AppliesTo held ns i p
Applies held ns i (Err f) = AppliesNot held ns i f

-- Behind the "(" or a "," of a call: an argument and those behind it, up to the place behind ")".
pub record PassesTo (held : ℕ) (ns : List Node) (i p : ℕ) : Type 0 where
  pub later : i < p
  pub within : p ≤ length ns
  pub first : List ℕ → Expr
  pub others : List ℕ → Args
  pub by : (text : List ℕ) (c : Context) (at : ℕ) (x : Name) (q : ℕ) (ds : List Expr) (k : Stack) → suc (opens k) ≡ held → Apt ns i (called at x q ds k) → judged text ns (here c (need (called at x q ds k))) i ≡ judged text ns (here c (have (call at x q (arguments ds (first text) (others text))) k)) p

pub record PassesNot (held : ℕ) (ns : List Node) (i : ℕ) (f : Refusal) : Type 0 where
  pub by : (text : List ℕ) (c : Context) (at : ℕ) (x : Name) (q : ℕ) (ds : List Expr) (k : Stack) → suc (opens k) ≡ held → Apt ns i (called at x q ds k) → judged text ns (here c (need (called at x q ds k))) i ≡ refusal f

abbrev pub Passes : ℕ → List Node → ℕ → Result ℕ Refusal → Type 0
Passes held ns i (Ok p) = PassesTo held ns i p
Passes held ns i (Err f) = PassesNot held ns i f
