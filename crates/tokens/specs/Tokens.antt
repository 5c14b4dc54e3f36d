-- The tokens of a text, a list of bytes. Assumes nothing.
use Rattle.std.specs.Prelude.{ℕ, zero, suc, ◌+◌, ◌-◌, ◌*◌, min, Bool, true, false, cond, not, ◌&&◌, ◌||◌, List, [], ◌∷◌, length, take, drop, Some, None, Ok, Err, codes, fold, Option, Result, ◌==◌, nat_le}
use Rattle.std.specs.Char.{is_ascii_digit, is_ascii_alphabetic}
use Rattle.std.specs.List.{prefix_len}
use Rattle.std.specs.Str.{bytes_eq}
use Rattle.tokens.specs.declared.fault.Cause.{Cause}
use Rattle.tokens.specs.declared.fault.Cause.TheVariants.{Stray, Limit, Count}
use Rattle.tokens.specs.declared.fault.Fault.{Fault}
use Rattle.tokens.specs.declared.lexemes.Word.{Word}
use Rattle.tokens.specs.declared.lexemes.Word.TheVariants.{Int, If, Else, While, For, Return}
use Rattle.tokens.specs.declared.lexemes.Sign.{Sign}
use Rattle.tokens.specs.declared.lexemes.Sign.TheVariants.{OpenRound, CloseRound, OpenCurly, CloseCurly, OpenSquare, CloseSquare, Semicolon, Comma, Becomes, Plus, Minus, Star, Slash, Percent, Less, Greater, Bang, AtMost, AtLeast, Equal, NotEqual}

abbrev pub cause_number : Cause → ℕ
cause_number Stray = 3
cause_number Limit = 4
cause_number Count = 5

-- the bytes between tokens
abbrev pub gap : ℕ → Bool
gap b = b == 9 || b == 10 || b == 13 || b == 32

abbrev pub digit : ℕ → Bool
digit b = is_ascii_digit b

-- what a name begins with
abbrev pub letter : ℕ → Bool
letter b = is_ascii_alphabetic b || b == 95

-- what a name goes on with
abbrev pub inner : ℕ → Bool
inner b = letter b || digit b

abbrev pub word_text : Word → List ℕ
word_text Int = codes "int"
word_text If = codes "if"
word_text Else = codes "else"
word_text While = codes "while"
word_text For = codes "for"
word_text Return = codes "return"

abbrev pub sign_text : Sign → List ℕ
sign_text OpenRound = codes "("
sign_text CloseRound = codes ")"
sign_text OpenCurly = codes "{"
sign_text CloseCurly = codes "}"
sign_text OpenSquare = codes "["
sign_text CloseSquare = codes "]"
sign_text Semicolon = codes ";"
sign_text Comma = codes ","
sign_text Becomes = codes "="
sign_text Plus = codes "+"
sign_text Minus = codes "-"
sign_text Star = codes "*"
sign_text Slash = codes "/"
sign_text Percent = codes "%"
sign_text Less = codes "<"
sign_text Greater = codes ">"
sign_text Bang = codes "!"
sign_text AtMost = codes "<="
sign_text AtLeast = codes ">="
sign_text Equal = codes "=="
sign_text NotEqual = codes "!="

abbrev pub words : List Word
words = Int ∷ If ∷ Else ∷ While ∷ For ∷ Return ∷ []

abbrev pub signs : List Sign
signs = OpenRound ∷ CloseRound ∷ OpenCurly ∷ CloseCurly ∷ OpenSquare ∷ CloseSquare ∷ Semicolon ∷ Comma ∷ Becomes ∷ Plus ∷ Minus ∷ Star ∷ Slash ∷ Percent ∷ Less ∷ Greater ∷ Bang ∷ AtMost ∷ AtLeast ∷ Equal ∷ NotEqual ∷ []

-- the one of a list that is spelled so
abbrev pub spelled : {X : Type 0} → (X → List ℕ) → List X → List ℕ → Option X
spelled text [] bs = None
spelled text (x ∷ xs) bs = cond (bytes_eq bs (text x)) (Some x) (spelled text xs bs)

abbrev pub kept : List ℕ → Option Word
kept bs = spelled word_text words bs

abbrev pub single : ℕ → Option Sign
single a = spelled sign_text signs (a ∷ [])

abbrev pub double : ℕ → ℕ → Option Sign
double a b = spelled sign_text signs (a ∷ b ∷ [])

-- what digits are worth
abbrev pub value : List ℕ → ℕ
value ds = fold (λ v d. 10 * v + (d - 48)) 0 ds

-- a 0 before other digits
abbrev pub needless : List ℕ → Bool
needless [] = false
needless (d ∷ []) = false
needless (d ∷ e ∷ ds) = d == 48

-- What a token says.
pub data Lexeme : Type 0 where
  word : Word → Lexeme
  sign : Sign → Lexeme
  -- a name, by its bytes
  name : List ℕ → Lexeme
  -- a number, by its digits and what they are worth
  number : List ℕ → ℕ → Lexeme

-- What a letter begins is a kept word, or else a name of at most 24 bytes.
abbrev pub named : List ℕ → Option Word → Result Lexeme Cause
named bs (Some w) = Ok (word w)
named bs None = cond (nat_le (length bs) 24) (Ok (name bs)) (Err Limit)

-- A number is at most 16,383, without a needless 0.
abbrev pub numbered : List ℕ → Result Lexeme Cause
numbered ds = cond (nat_le (value ds) 16383 && not (needless ds)) (Ok (number ds (value ds))) (Err Limit)

-- a token with its length
abbrev pub Measured : Type 0
Measured = Result (Lexeme × ℕ) Cause

abbrev pub sized : ℕ → Result Lexeme Cause → Measured
sized n (Ok x) = Ok (x, n)
sized n (Err e) = Err e

abbrev pub short : Option Sign → Measured
short (Some s) = Ok (sign s, 1)
short None = Err Stray

abbrev pub long : Option Sign → Measured → Measured
long (Some s) r = Ok (sign s, 2)
long None r = r

-- A sign of two bytes goes before a sign of one.
abbrev pub signed : ℕ → List ℕ → Measured
signed a [] = short (single a)
signed a (b ∷ bs) = long (double a b) (short (single a))

-- the longest front whose bytes all pass a test
abbrev pub run : (ℕ → Bool) → List ℕ → List ℕ
run test bs = take (prefix_len test bs) bs

-- What a byte and those behind it begin with, by whether it is a letter and whether it is a digit.
abbrev pub begun : Bool → Bool → ℕ → List ℕ → Measured
begun true d b bs = sized (prefix_len inner (b ∷ bs)) (named (run inner (b ∷ bs)) (kept (run inner (b ∷ bs))))
begun false true b bs = sized (prefix_len digit (b ∷ bs)) (numbered (run digit (b ∷ bs)))
begun false false b bs = signed b bs

-- The longest token at the front of some bytes.
abbrev pub front_of : List ℕ → Measured
front_of [] = Err Stray
front_of (b ∷ bs) = begun (letter b) (digit b) b bs

-- A token, the place of its first byte, and the place behind its last.
pub record Piece : Type 0 where
  pub lexeme : Lexeme
  pub place : ℕ
  pub end : ℕ

-- What the token at a place comes to.
abbrev pub placed : ℕ → Measured → Result Piece Fault
placed p (Ok x) = Ok (record { lexeme = x.0; place = p; end = p + x.1 })
placed p (Err e) = Err (record { cause = e; place = p })

abbrev pub some_piece : Result Piece Fault → Result (Option Piece) Fault
some_piece (Ok x) = Ok (Some x)
some_piece (Err e) = Err e

-- the token at a place, or none at the end
abbrev pub at_place : ℕ → List ℕ → Result (Option Piece) Fault
at_place p [] = Ok None
at_place p (b ∷ bs) = some_piece (placed p (front_of (b ∷ bs)))

-- the place behind the gaps from an offset on
abbrev pub past_gaps : List ℕ → ℕ → ℕ
past_gaps text from = from + prefix_len gap (drop from text)

-- the first token from an offset on, or none
abbrev pub next : List ℕ → ℕ → Result (Option Piece) Fault
next text from = at_place (past_gaps text from) (drop (past_gaps text from) text)

abbrev pub before : Piece → Result (List Piece) Fault → Result (List Piece) Fault
before x (Ok xs) = Ok (x ∷ xs)
before x (Err e) = Err e

-- The token at a place and those behind it, if so many more may come. A token that is itself refused goes before one too many.
abbrev pub counted : ℕ → Result Piece Fault → (ℕ → ℕ → Result (List Piece) Fault) → Result (List Piece) Fault
counted left (Err e) others = Err e
counted zero (Ok x) others = Err (record { cause = Count; place = x.place })
counted (suc left) (Ok x) others = before x (others left (x.end - x.place - 1))

-- The tokens of the bytes from a place on, if so many may come. The first bytes, as many as are inside, belong to the token before.
abbrev pub from_place : ℕ → ℕ → ℕ → List ℕ → Result (List Piece) Fault
from_place left p inside [] = Ok []
from_place left p (suc inside) (b ∷ bs) = from_place left (p + 1) inside bs
from_place left p zero (b ∷ bs) = elim (gap b) [ true ↦ from_place left (p + 1) zero bs | false ↦ counted left (placed p (front_of (b ∷ bs))) (λ l i. from_place l (p + 1) i bs) ]

-- The tokens of a text, or its earliest fault: at most 4,096, and at most as many as there are records.
abbrev pub tokens : List ℕ → ℕ → Result (List Piece) Fault
tokens text records = from_place (min records 4096) 0 0 text

-- how many there are
abbrev pub number_of : Result (List Piece) Fault → Result ℕ Fault
number_of (Ok xs) = Ok (length xs)
number_of (Err e) = Err e
