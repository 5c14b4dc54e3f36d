-- What a state has read, and which states parsing comes to. Assumes nothing.
use Rattle.std.proofs.Common.{◌≡◌, ℕ, suc, ◌≤◌, List, [], ◌∷◌, None, arith}
use Rattle.std.specs.List.{AllByRecursion}
use Rattle.reckoning.specs.declared.Operator.{Operator}
use Rattle.reckoning.specs.declared.Operator.TheVariants.{Add, Subtract, Multiply, Divide, Remainder, Compare}
use Rattle.reckoning.specs.declared.Comparison.TheVariants.{Equal, NotEqual, Less, AtMost, Greater, AtLeast}
use Rattle.language.specs.Tree.{Expr, Variable, Function}
use Rattle.grammar.specs.Lexemes.{round, end_round, square, end_square, brace, comma, semicolon, int_word, return_word, if_word, else_word, while_word, for_word, numeral, identifier, operator, equals, mark}
use Rattle.grammar.specs.Words.{Word, free, placed, sign_lexeme, level, level_of, Ok, OkStatement, Shut, OkVariable, OkParameter, OkFunction}
use Rattle.grammar.specs.Parsing.{Stack, base, sign, left, target, bracket, element, called, Operand, need, have, Pending, body, in_block, in_then, in_else, in_while, in_for, Part, performed, returned, if_test, while_test, for_first, for_test, for_step, Inside, statement, after, head, reading, Declaring, typed, named, opened, sized, closed, Heading, State, sheet, declaring, parameters, another, parameter, parameter_end, signature, locals, local, inside}
use Rattle.grammar.proofs.Spelling.{spell, spell_statement, spell_typed, spell_variable, spell_function, before}

-- an argument and the "," behind it
abbrev pub spell_comma : Expr → List Word → List Word
spell_comma e w = spell e (free comma ∷ w)

-- the words that a stack has read, and then w
abbrev pub pre : Stack → List Word → List Word
pre base w = w
pre (sign s p k) w = pre k (placed (sign_lexeme s) p ∷ w)
pre (left o p l k) w = pre k (spell l (placed (operator o) p ∷ w))
pre (target p l k) w = pre k (spell l (placed equals p ∷ w))
pre (bracket k) w = pre k (free round ∷ w)
pre (element p x q k) w = pre k (placed (identifier x) p ∷ placed (mark square) q ∷ w)
pre (called p x q ds k) w = pre k (placed (identifier x) p ∷ placed (mark round) q ∷ before spell_comma ds w)

abbrev pub read_operand : Operand → List Word → List Word
read_operand (need k) w = pre k w
read_operand (have e k) w = pre k (spell e w)

abbrev pub pre_pending : Pending → List Word → List Word
pre_pending (body ss) w = before spell_statement ss w
pre_pending (in_block ss k) w = pre_pending k (free brace ∷ before spell_statement ss w)
pre_pending (in_then p c k) w = pre_pending k (placed (mark if_word) p ∷ free round ∷ spell c (free end_round ∷ w))
pre_pending (in_else p c s k) w = pre_pending k (placed (mark if_word) p ∷ free round ∷ spell c (free end_round ∷ spell_statement s (free else_word ∷ w)))
pre_pending (in_while p c k) w = pre_pending k (placed (mark while_word) p ∷ free round ∷ spell c (free end_round ∷ w))
pre_pending (in_for p a b c k) w = pre_pending k (placed (mark for_word) p ∷ free round ∷ spell a (free semicolon ∷ spell b (free semicolon ∷ spell c (free end_round ∷ w))))

abbrev pub pre_part : Part → List Word → List Word
pre_part performed w = w
pre_part returned w = free return_word ∷ w
pre_part (if_test p) w = placed (mark if_word) p ∷ free round ∷ w
pre_part (while_test p) w = placed (mark while_word) p ∷ free round ∷ w
pre_part (for_first p) w = placed (mark for_word) p ∷ free round ∷ w
pre_part (for_test p a) w = placed (mark for_word) p ∷ free round ∷ spell a (free semicolon ∷ w)
pre_part (for_step p a b) w = placed (mark for_word) p ∷ free round ∷ spell a (free semicolon ∷ spell b (free semicolon ∷ w))

-- the word before a part's "("
abbrev pub pre_head : Part → List Word → List Word
pre_head performed w = w
pre_head returned w = w
pre_head (if_test p) w = placed (mark if_word) p ∷ w
pre_head (while_test p) w = placed (mark while_word) p ∷ w
pre_head (for_first p) w = placed (mark for_word) p ∷ w
pre_head (for_test p a) w = w
pre_head (for_step p a b) w = w

abbrev pub read_inside : Inside → List Word → List Word
read_inside (statement k) w = pre_pending k w
read_inside (after s k) w = pre_pending k (spell_statement s w)
read_inside (head h k) w = pre_pending k (pre_head h w)
read_inside (reading h k o) w = pre_pending k (pre_part h (read_operand o w))

abbrev pub read_declaring : Declaring → List Word → List Word
read_declaring typed w = w
read_declaring (named p x) w = placed (identifier x) p ∷ w
read_declaring (opened p x) w = placed (identifier x) p ∷ free square ∷ w
read_declaring (sized p x n) w = placed (identifier x) p ∷ free square ∷ (numeral n, None) ∷ w
read_declaring (closed p x n) w = placed (identifier x) p ∷ free square ∷ (numeral n, None) ∷ free end_square ∷ w

abbrev pub read_sheet : List Variable → List Function → List Word → List Word
read_sheet vs fs w = before spell_variable vs (before spell_function fs w)

abbrev pub read_heading : Heading → List Word → List Word
read_heading h w = read_sheet h.variables h.functions (free int_word ∷ placed (identifier h.name) h.place ∷ free round ∷ w)

abbrev pub typed_comma : Variable → List Word → List Word
typed_comma v w = spell_typed v (free comma ∷ w)

-- parameters, latest first, with no "," behind the last
abbrev pub pre_parameters : List Variable → List Word → List Word
pre_parameters [] w = w
pre_parameters (v ∷ vs) w = before typed_comma vs (spell_typed v w)

abbrev pub read_locals : Heading → List Variable → List Variable → List Word → List Word
read_locals h ps ls w = read_heading h (pre_parameters ps (free end_round ∷ free brace ∷ before spell_variable ls w))

abbrev pub read : State → List Word → List Word
read (sheet vs fs) w = read_sheet vs fs w
read (declaring vs fs d) w = read_sheet vs fs (free int_word ∷ read_declaring d w)
read (parameters h) w = read_heading h w
read (another h ps) w = read_heading h (before typed_comma ps w)
read (parameter h ps) w = read_heading h (before typed_comma ps (free int_word ∷ w))
read (parameter_end h ps) w = read_heading h (pre_parameters ps w)
read (signature h ps) w = read_heading h (pre_parameters ps (free end_round ∷ w))
read (locals h ps ls) w = read_locals h ps ls w
read (local h ps ls d) w = read_locals h ps ls (free int_word ∷ read_declaring d w)
read (inside h ps ls i) w = read_locals h ps ls (read_inside i w)

-- the least level of an operand that goes there
abbrev pub floor : Stack → ℕ
floor base = 0
floor (sign s p k) = 5
floor (left o p l k) = suc (level o)
floor (target p l k) = 0
floor (bracket k) = 0
floor (element p x q k) = 0
floor (called p x q ds k) = 0

abbrev pub Good : Stack → Type 0
Good base = Unit {0}
Good (sign s p k) = Good k
Good (left o p l k) = Good k × Ok l × (level o ≤ level_of l) × (floor k ≤ level o)
Good (target p l k) = Good k × Ok l × (1 ≤ level_of l) × (floor k ≤ 0)
Good (bracket k) = Good k
Good (element p x q k) = Good k
Good (called p x q ds k) = Good k × AllByRecursion Ok ds

-- an operand that has just been read binds the tightest
abbrev pub GoodOperand : Operand → Type 0
GoodOperand (need k) = Good k
GoodOperand (have e k) = Good k × Ok e × (6 ≤ level_of e)

abbrev pub GoodPending : Pending → Type 0
GoodPending (body ss) = AllByRecursion OkStatement ss
GoodPending (in_block ss k) = GoodPending k × AllByRecursion OkStatement ss
GoodPending (in_then p c k) = GoodPending k × Ok c
GoodPending (in_else p c s k) = GoodPending k × Ok c × OkStatement s × Shut s
GoodPending (in_while p c k) = GoodPending k × Ok c
GoodPending (in_for p a b c k) = GoodPending k × Ok a × Ok b × Ok c

abbrev pub GoodPart : Part → Type 0
GoodPart performed = Unit {0}
GoodPart returned = Unit {0}
GoodPart (if_test p) = Unit {0}
GoodPart (while_test p) = Unit {0}
GoodPart (for_first p) = Unit {0}
GoodPart (for_test p a) = Ok a
GoodPart (for_step p a b) = Ok a × Ok b

-- the parts that a word and "(" begin
abbrev pub GoodHead : Part → Type 0
GoodHead performed = ⊥
GoodHead returned = ⊥
GoodHead (if_test p) = Unit {0}
GoodHead (while_test p) = Unit {0}
GoodHead (for_first p) = Unit {0}
GoodHead (for_test p a) = ⊥
GoodHead (for_step p a b) = ⊥

abbrev pub GoodInside : Inside → Type 0
GoodInside (statement k) = GoodPending k
GoodInside (after s k) = GoodPending k × OkStatement s × Shut s
GoodInside (head h k) = GoodPending k × GoodHead h
GoodInside (reading h k o) = GoodPending k × GoodPart h × GoodOperand o

-- behind a function only a name that may be another's
abbrev pub GoodDeclaring : List Function → Declaring → Type 0
GoodDeclaring fs typed = Unit {0}
GoodDeclaring fs (named p x) = Unit {0}
GoodDeclaring fs (opened p x) = fs ≡ []
GoodDeclaring fs (sized p x n) = fs ≡ []
GoodDeclaring fs (closed p x n) = fs ≡ []

pub record GoodSheet (vs : List Variable) (fs : List Function) : Type 0 where
  pub variables : AllByRecursion OkVariable vs
  pub functions : AllByRecursion OkFunction fs

abbrev pub GoodHeading : Heading → Type 0
GoodHeading h = GoodSheet h.variables h.functions

abbrev pub SomeOf : List Variable → Type 0
SomeOf [] = ⊥
SomeOf (v ∷ vs) = Unit {0}

abbrev pub GoodState : State → Type 0
GoodState (sheet vs fs) = GoodSheet vs fs
GoodState (declaring vs fs d) = GoodSheet vs fs × GoodDeclaring fs d
GoodState (parameters h) = GoodHeading h
GoodState (another h ps) = GoodHeading h × AllByRecursion OkParameter ps
GoodState (parameter h ps) = GoodHeading h × AllByRecursion OkParameter ps
GoodState (parameter_end h ps) = GoodHeading h × AllByRecursion OkParameter ps × SomeOf ps
GoodState (signature h ps) = GoodHeading h × AllByRecursion OkParameter ps
GoodState (locals h ps ls) = GoodHeading h × AllByRecursion OkParameter ps × AllByRecursion OkVariable ls
GoodState (local h ps ls d) = GoodHeading h × AllByRecursion OkParameter ps × AllByRecursion OkVariable ls
GoodState (inside h ps ls i) = GoodHeading h × AllByRecursion OkParameter ps × AllByRecursion OkVariable ls × GoodInside i

pub level_bounds : (o : Operator) → (1 ≤ level o) × (level o ≤ 4)
level_bounds Add = (omega arith, omega arith)
level_bounds Subtract = (omega arith, omega arith)
level_bounds Multiply = (omega arith, omega arith)
level_bounds Divide = (omega arith, omega arith)
level_bounds Remainder = (omega arith, omega arith)
level_bounds (Compare Equal) = (omega arith, omega arith)
level_bounds (Compare NotEqual) = (omega arith, omega arith)
level_bounds (Compare Less) = (omega arith, omega arith)
level_bounds (Compare AtMost) = (omega arith, omega arith)
level_bounds (Compare Greater) = (omega arith, omega arith)
level_bounds (Compare AtLeast) = (omega arith, omega arith)

pub floor_low : (k : Stack) → floor k ≤ 5
floor_low base = omega arith
floor_low (sign s p k) = omega arith
floor_low (left o p l k) = omega (arith, level_bounds o)
floor_low (target p l k) = omega arith
floor_low (bracket k) = omega arith
floor_low (element p x q k) = omega arith
floor_low (called p x q ds k) = omega arith
