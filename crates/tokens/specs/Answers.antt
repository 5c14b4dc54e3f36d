-- What the reader's answers say, without their references. Assumes nothing.
use Rattle.std.specs.Prelude.{ℕ, Some, None, Ok, Err, Option, Result}
use Rattle.tokens.specs.declared.fault.Cause.{Cause}
use Rattle.tokens.specs.declared.fault.Fault.{Fault}
use Rattle.tokens.specs.declared.lexemes.Spanned.{Spanned}
use Rattle.tokens.specs.declared.lexemes.Token.{Token}
use Rattle.tokens.specs.declared.lexemes.Token.TheVariants.{Word as a_word, Sign as a_sign, Name as a_name, Number as a_number}
use Rattle.tokens.specs.Tokens.{Lexeme, word, sign, name, number, Measured, Piece}

abbrev pub lexeme_of : Token → Lexeme
lexeme_of (a_word w) = word w
lexeme_of (a_sign s) = sign s
lexeme_of (a_name bs) = name bs.now
lexeme_of (a_number ds n) = number ds.now n

abbrev pub lexed : Result Token Cause → Result Lexeme Cause
lexed (Ok t) = Ok (lexeme_of t)
lexed (Err e) = Err e

abbrev pub measured : Result (Token × ℕ) Cause → Measured
measured (Ok t) = Ok (lexeme_of t.0, t.1)
measured (Err e) = Err e

abbrev pub Found : Type 0
Found = Spanned Token

abbrev pub piece_of : Found → Piece
piece_of f = record { lexeme = lexeme_of f.item; place = f.place; end = f.end }

abbrev pub answered : Result (Option Found) Fault → Result (Option Piece) Fault
answered (Ok None) = Ok None
answered (Ok (Some f)) = Ok (Some (piece_of f))
answered (Err e) = Err e
