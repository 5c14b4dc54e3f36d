-- What a table shows at an index. Assumes nothing.
use Rattle.std.specs.Prelude.{ℕ, Bool, true, false, ◌||◌, List, [], ◌∷◌, drop, Some, None, Option}
use Rattle.reckoning.specs.declared.Operator.{Operator}
use Rattle.reckoning.specs.declared.Operator.TheVariants.{Add, Subtract, Multiply, Divide, Remainder, Compare}
use Rattle.grammar.specs.Lexemes.{is}
use Rattle.grammar.specs.Words.{level}
use Rattle.sheet.specs.declared.nodes.Mark.{Mark}
use Rattle.sheet.specs.declared.nodes.Mark.TheVariants.{Round, EndRound, Square, EndSquare, Brace, EndBrace, Comma, Semicolon, Int, Return, If, Else, While, For}
use Rattle.sheet.specs.declared.nodes.Kind.{Kind}
use Rattle.sheet.specs.declared.nodes.Kind.TheVariants.{Number as ANumber, Name as AName, Operator as AnOperator, Exclamation as AnExclamation, Equals as AnEquals, Mark as AMark}
use Rattle.sheet.specs.Nodes.{Node}
use Rattle.sheet.specs.declared.looks.Start.{Start}
use Rattle.sheet.specs.declared.looks.Start.TheVariants.{Sign, Number, Name, Open, Other}
use Rattle.sheet.specs.Nodes.{says, mark_of}

abbrev pub first_kind : List Node → Option Kind
first_kind [] = None
first_kind (n ∷ ns) = Some n.item

abbrev pub kind_at : List Node → ℕ → Option Kind
kind_at ns i = first_kind (drop i ns)

abbrev pub start_of_operator : Operator → Start
start_of_operator Add = Other
start_of_operator Subtract = Sign
start_of_operator Multiply = Other
start_of_operator Divide = Other
start_of_operator Remainder = Other
start_of_operator (Compare c) = Other

abbrev pub start_of_mark : Mark → Start
start_of_mark Round = Open
start_of_mark EndRound = Other
start_of_mark Square = Other
start_of_mark EndSquare = Other
start_of_mark Brace = Other
start_of_mark EndBrace = Other
start_of_mark Comma = Other
start_of_mark Semicolon = Other
start_of_mark Int = Other
start_of_mark Return = Other
start_of_mark If = Other
start_of_mark Else = Other
start_of_mark While = Other
start_of_mark For = Other

-- what an operand begins with
abbrev pub start_of : Option Kind → Start
start_of None = Other
start_of (Some (ANumber n)) = Number
start_of (Some AName) = Name
start_of (Some (AnOperator o)) = start_of_operator o
start_of (Some AnExclamation) = Sign
start_of (Some AnEquals) = Other
start_of (Some (AMark m)) = start_of_mark m

-- how tightly an operator binds, and 0 for what is none
abbrev pub binding : Option Kind → ℕ
binding None = 0
binding (Some (ANumber n)) = 0
binding (Some AName) = 0
binding (Some (AnOperator o)) = level o
binding (Some AnExclamation) = 0
binding (Some AnEquals) = 0
binding (Some (AMark m)) = 0

abbrev pub is_kind : Mark → Option Kind → Bool
is_kind m None = false
is_kind m (Some k) = is (mark_of m) (says [] k)

abbrev pub is_at : List Node → ℕ → Mark → Bool
is_at ns i m = is_kind m (kind_at ns i)

abbrev pub equals_at : Option Kind → Bool
equals_at None = false
equals_at (Some (ANumber n)) = false
equals_at (Some AName) = false
equals_at (Some (AnOperator o)) = false
equals_at (Some AnExclamation) = false
equals_at (Some AnEquals) = true
equals_at (Some (AMark m)) = false

-- "(" or "["
abbrev pub opening : Option Kind → Bool
opening k = is_kind Round k || is_kind Square k

abbrev pub opening_at : List Node → ℕ → Bool
opening_at ns i = opening (kind_at ns i)
