-- The records of a text's tokens, and the tokens of the grammar that they show. Assumes nothing.
use Rattle.std.specs.Prelude.{ℕ, ◌-◌, List, [], map, take, drop, Ok, Err, Result}
use Rattle.tokens.specs.declared.fault.Fault.{Fault}
use Rattle.tokens.specs.declared.lexemes.Word.{Word}
use Rattle.tokens.specs.declared.lexemes.Word.TheVariants.{Int, If, Else, While, For, Return}
use Rattle.tokens.specs.declared.lexemes.Sign.{Sign}
use Rattle.tokens.specs.declared.lexemes.Sign.TheVariants.{OpenRound, CloseRound, OpenCurly, CloseCurly, OpenSquare, CloseSquare, Semicolon, Comma, Becomes, Plus, Minus, Star, Slash, Percent, Less, Greater, Bang, AtMost, AtLeast, Equal, NotEqual}
use Rattle.tokens.specs.Tokens.{Piece, Lexeme, word, sign, name, number}
use Rattle.reckoning.specs.declared.Operator.TheVariants.{Add, Subtract, Multiply, Divide, Remainder, Compare}
use Rattle.reckoning.specs.declared.Comparison.TheVariants.{Equal as equal, NotEqual as not_equal, Less as less, AtMost as at_most, Greater as greater, AtLeast as at_least}
use Rattle.grammar.specs.Lexemes.{round, end_round, square, end_square, brace, end_brace, comma, semicolon, int_word, return_word, if_word, else_word, while_word, for_word, numeral, identifier, operator, exclamation, equals, mark, Token}
use Rattle.grammar.specs.Lexemes.{Mark as GrammarMark, Lexeme as GrammarLexeme}
use Rattle.sheet.specs.declared.nodes.Mark.{Mark}
use Rattle.sheet.specs.declared.nodes.Mark.TheVariants.{Round, EndRound, Square, EndSquare, Brace, EndBrace, Comma as AComma, Semicolon as ASemicolon, Int as IntWord, Return as ReturnWord, If as IfWord, Else as ElseWord, While as WhileWord, For as ForWord}
use Rattle.sheet.specs.declared.nodes.Kind.{Kind}
use Rattle.sheet.specs.declared.nodes.Kind.TheVariants.{Number as ANumber, Name as AName, Operator as AnOperator, Exclamation as AnExclamation, Equals as AnEquals, Mark as AMark}
use Rattle.tokens.specs.declared.Spanned.{Spanned}

abbrev pub kind_of_word : Word → Kind
kind_of_word Int = AMark IntWord
kind_of_word If = AMark IfWord
kind_of_word Else = AMark ElseWord
kind_of_word While = AMark WhileWord
kind_of_word For = AMark ForWord
kind_of_word Return = AMark ReturnWord

abbrev pub kind_of_sign : Sign → Kind
kind_of_sign OpenRound = AMark Round
kind_of_sign CloseRound = AMark EndRound
kind_of_sign OpenCurly = AMark Brace
kind_of_sign CloseCurly = AMark EndBrace
kind_of_sign OpenSquare = AMark Square
kind_of_sign CloseSquare = AMark EndSquare
kind_of_sign Semicolon = AMark ASemicolon
kind_of_sign Comma = AMark AComma
kind_of_sign Becomes = AnEquals
kind_of_sign Plus = AnOperator Add
kind_of_sign Minus = AnOperator Subtract
kind_of_sign Star = AnOperator Multiply
kind_of_sign Slash = AnOperator Divide
kind_of_sign Percent = AnOperator Remainder
kind_of_sign Less = AnOperator (Compare less)
kind_of_sign Greater = AnOperator (Compare greater)
kind_of_sign Bang = AnExclamation
kind_of_sign AtMost = AnOperator (Compare at_most)
kind_of_sign AtLeast = AnOperator (Compare at_least)
kind_of_sign Equal = AnOperator (Compare equal)
kind_of_sign NotEqual = AnOperator (Compare not_equal)

abbrev pub kind_of : Lexeme → Kind
kind_of (word w) = kind_of_word w
kind_of (sign s) = kind_of_sign s
kind_of (name bs) = AName
kind_of (number ds n) = ANumber n

abbrev pub Node : Type 0
Node = Spanned Kind

-- the record of a token
abbrev pub record_of : Piece → Node
record_of x = record { item = kind_of x.lexeme; place = x.place; end = x.end }

-- the records of a text's tokens, or its earliest fault
abbrev pub filled : Result (List Piece) Fault → Result (List Node) Fault
filled (Ok xs) = Ok (map record_of xs)
filled (Err e) = Err e

-- the records that an answer tells of
abbrev pub shown : Result ℕ Fault → List Node → Result (List Node) Fault
shown (Ok n) ns = Ok (take n ns)
shown (Err e) ns = Err e

abbrev pub mark_of : Mark → GrammarMark
mark_of Round = round
mark_of EndRound = end_round
mark_of Square = square
mark_of EndSquare = end_square
mark_of Brace = brace
mark_of EndBrace = end_brace
mark_of AComma = comma
mark_of ASemicolon = semicolon
mark_of IntWord = int_word
mark_of ReturnWord = return_word
mark_of IfWord = if_word
mark_of ElseWord = else_word
mark_of WhileWord = while_word
mark_of ForWord = for_word

-- what a kind says to the grammar, of a token with these bytes
abbrev pub says : List ℕ → Kind → GrammarLexeme
says bs (ANumber n) = numeral n
says bs AName = identifier bs
says bs (AnOperator o) = operator o
says bs AnExclamation = exclamation
says bs AnEquals = equals
says bs (AMark m) = mark (mark_of m)

-- the bytes of a text from a place up to another
abbrev pub part : List ℕ → ℕ → ℕ → List ℕ
part text from to = take (to - from) (drop from text)

-- the grammar's token that a record shows
abbrev pub token_of : List ℕ → Node → Token
token_of text n = (says (part text n.place n.end) n.item, n.place)

abbrev pub tokens_of : List ℕ → List Node → List Token
tokens_of text ns = map (token_of text) ns

-- what a token of the reader says to the grammar
abbrev pub said : Lexeme → GrammarLexeme
said (word w) = says [] (kind_of_word w)
said (sign s) = says [] (kind_of_sign s)
said (name bs) = identifier bs
said (number ds n) = numeral n

abbrev pub token : Piece → Token
token x = (said x.lexeme, x.place)

-- the grammar's tokens of a text, by its records and by its reader
abbrev pub told : List ℕ → Result (List Node) Fault → Result (List Token) Fault
told text (Ok ns) = Ok (tokens_of text ns)
told text (Err e) = Err e

abbrev pub meant : Result (List Piece) Fault → Result (List Token) Fault
meant (Ok xs) = Ok (map token xs)
meant (Err e) = Err e
