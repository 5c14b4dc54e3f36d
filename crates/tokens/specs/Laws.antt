-- What the tokens of a text are, in the words of its reader. Assumes nothing.
use Rattle.std.specs.Prelude.{◌≡◌, ℕ, ◌+◌, ◌≤◌, true, false, ◌⊎◌, List, [], ◌∷◌, ◌++◌, length, Some, None, Ok, Err, Option, Result}
use Rattle.std.specs.List.{AllByRecursion}
use Rattle.tokens.specs.declared.fault.Fault.{Fault}
use Rattle.tokens.specs.declared.lexemes.Sign.{Sign}
use Rattle.tokens.specs.Tokens.{Lexeme, word, sign, name, number, Piece, gap, letter, inner, digit, word_text, sign_text, kept, value, needless}

abbrev pub Gaps : List ℕ → Type 0
Gaps bs = AllByRecursion (λ b. gap b ≡ true) bs

-- a letter or underscore, then letters, digits and underscores
abbrev pub NameLike : List ℕ → Type 0
NameLike [] = ⊥
NameLike (b ∷ bs) = (letter b ≡ true) × AllByRecursion (λ c. inner c ≡ true) bs

-- a run of digits
abbrev pub NumberLike : List ℕ → Type 0
NumberLike [] = ⊥
NumberLike (b ∷ bs) = (digit b ≡ true) × AllByRecursion (λ c. digit c ≡ true) bs

abbrev pub SignLike : List ℕ → Type 0
SignLike bs = (s : Sign) × (sign_text s ≡ bs)

-- the bytes of a token, whatever the limits of names and numbers
abbrev pub TokenLike : List ℕ → Type 0
TokenLike bs = NameLike bs ⊎ (NumberLike bs ⊎ SignLike bs)

-- how a token is written
abbrev pub Spells : Lexeme → List ℕ → Type 0
Spells (word w) bs = bs ≡ word_text w
Spells (sign s) bs = bs ≡ sign_text s
Spells (name x) bs = (x ≡ bs) × NameLike bs × (kept bs ≡ None) × (length bs ≤ 24)
Spells (number ds n) bs = (ds ≡ bs) × NumberLike bs × (n ≡ value bs) × (n ≤ 16383) × (needless bs ≡ false)

-- With a byte or more of the rest behind it, it is no token.
abbrev pub Longest : List ℕ → List ℕ → Type 0
Longest token rest = (x : ℕ) (xs ys : List ℕ) → rest ≡ (x ∷ xs) ++ ys → TokenLike (token ++ x ∷ xs) → ⊥

-- Bytes, the first at a place, that are gaps, then a token, then the rest.
pub record Cut (from : ℕ) (x : Piece) (bs rest : List ℕ) : Type 0 where
  pub gaps : List ℕ
  pub token : List ℕ
  pub whole : bs ≡ gaps ++ (token ++ rest)
  pub blank : Gaps gaps
  pub place : x.place ≡ from + length gaps
  pub end : x.end ≡ x.place + length token
  pub spells : Spells x.lexeme token
  pub longest : Longest token rest

-- Bytes, the first at a place, that are tokens with gaps before, between and behind them.
abbrev pub Covers : ℕ → List Piece → List ℕ → Type 0
Covers from [] bs = Gaps bs
Covers from (x ∷ xs) bs = (rest : List ℕ) × Cut from x bs rest × Covers x.end xs rest

-- The first token of some bytes, or only gaps.
abbrev pub First : ℕ → List ℕ → Result (Option Piece) Fault → Type 0
First from bs (Ok (Some x)) = (rest : List ℕ) × Cut from x bs rest
First from bs (Ok None) = Gaps bs
First from bs (Err e) = Unit {0}

-- So many tokens, which with the gaps are the text.
abbrev pub Whole : List ℕ → Result ℕ Fault → Type 0
Whole text (Ok n) = (xs : List Piece) × (length xs ≡ n) × Covers 0 xs text
Whole text (Err e) = Unit {0}
