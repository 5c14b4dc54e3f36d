-- Texts and their tokens. Assumes nothing.
use Rattle.std.specs.Prelude.{◌≡◌, ℕ, List, [], ◌∷◌, Ok, Err, codes, Result}
use Rattle.std.specs.List.{AllByRecursion}
use Rattle.tokens.specs.declared.fault.Cause.{Cause}
use Rattle.tokens.specs.declared.fault.Cause.TheVariants.{Stray, Limit, Count}
use Rattle.tokens.specs.declared.fault.Fault.{Fault}
use Rattle.tokens.specs.declared.lexemes.Word.TheVariants.{Int, If}
use Rattle.tokens.specs.declared.lexemes.Sign.TheVariants.{Semicolon, Becomes, AtMost, Bang, NotEqual}
use Rattle.tokens.specs.Tokens.{Lexeme, word, sign, name, number, Piece, tokens}

abbrev at : Lexeme → ℕ → ℕ → Piece
at x p e = record { lexeme = x; place = p; end = e }

abbrev refused : Cause → ℕ → Result (List Piece) Fault
refused c p = Err (record { cause = c; place = p })

pub record Example : Type 0 where
  pub text : List ℕ
  pub records : ℕ
  pub gives : Result (List Piece) Fault

abbrev of : List ℕ → ℕ → Result (List Piece) Fault → Example
of t n r = record { text = t; records = n; gives = r }

abbrev pub examples : List Example
examples =
    of (codes "int a1;") 9 (Ok (at (word Int) 0 3 ∷ at (name (codes "a1")) 4 6 ∷ at (sign Semicolon) 6 7 ∷ [])) ∷
    -- a kept word with more behind it is a name
    of (codes "if iff") 9 (Ok (at (word If) 0 2 ∷ at (name (codes "iff")) 3 6 ∷ [])) ∷
    of (codes "<==!=! =") 9 (Ok (at (sign AtMost) 0 2 ∷ at (sign Becomes) 2 3 ∷ at (sign NotEqual) 3 5 ∷ at (sign Bang) 5 6 ∷ at (sign Becomes) 7 8 ∷ [])) ∷
    of (codes "12ab") 9 (Ok (at (number (codes "12") 12) 0 2 ∷ at (name (codes "ab")) 2 4 ∷ [])) ∷
    of (codes "0 16383") 9 (Ok (at (number (codes "0") 0) 0 1 ∷ at (number (codes "16383") 16383) 2 7 ∷ [])) ∷
    of (codes "1 16384") 9 (refused Limit 2) ∷
    of (codes "99999999999999999999999") 9 (refused Limit 0) ∷
    of (codes "007") 9 (refused Limit 0) ∷
    of (codes "abcdefghijklmnopqrstuvwxy") 9 (refused Limit 0) ∷
    of (codes "abcdefghijklmnopqrstuvwx") 9 (Ok (at (name (codes "abcdefghijklmnopqrstuvwx")) 0 24 ∷ [])) ∷
    of (codes "a $") 9 (refused Stray 2) ∷
    of (codes "a b c") 2 (refused Count 4) ∷
    -- at one place the lower number wins
    of (codes "a b $") 2 (refused Stray 4) ∷
    of (codes "  ") 0 (Ok []) ∷
    []

abbrev pub Agree : Type 0
Agree = AllByRecursion (λ e. tokens e.text e.records ≡ e.gives) examples
