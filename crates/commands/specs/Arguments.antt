-- The words after the first of a line, and the numbers among them. Assumes nothing.
use Rattle.std.specs.Prelude.{ℕ, Bool, false, List, [], ◌∷◌, ℤ, Ok, Err, Result, ◌==◌}
use Rattle.std.specs.Borrow.{Bor}
use Rattle.wording.specs.declared.Misread.{Misread}
use Rattle.wording.specs.declared.Misread.TheVariants.{NotANumber, OutOfRange}
use Rattle.wording.specs.Numerals.{integer, read_within, read_below}
use Rattle.wording.specs.Pieces.{words}
use Rattle.commands.specs.declared.cause.Cause.{Cause}
use Rattle.commands.specs.declared.cause.Cause.TheVariants.{MissingWord, ExtraWord, NotANumber as NoNumber}

infixl 1 ◌>>=◌
abbrev pub ◌>>=◌ : {X Y : Type 0} → Result X Cause → (X → Result Y Cause) → Result Y Cause
◌>>=◌ (Ok x) k = k x
◌>>=◌ (Err e) k = Err e

-- A word that begins with '#' makes a comment of its line.
abbrev pub comment : List ℕ → Bool
comment [] = false
comment (b ∷ bs) = b == 35

abbrev pub none : List (List ℕ) → Result (Unit {0}) Cause
none [] = Ok tt
none (w ∷ ws) = Err ExtraWord

-- A word, and those after it.
abbrev pub next : List (List ℕ) → Result (List ℕ × List (List ℕ)) Cause
next [] = Err MissingWord
next (w ∷ ws) = Ok (w, ws)

abbrev pub one : List (List ℕ) → Result (List ℕ) Cause
one ws = do
  p ← next ws
  _ ← none p.1
  Ok p.0

-- Two words, and those after them.
abbrev pub next_two : List (List ℕ) → Result (List ℕ × List ℕ × List (List ℕ)) Cause
next_two ws = do
  p ← next ws
  q ← next p.1
  Ok (p.0, q.0, q.1)

abbrev pub two : List (List ℕ) → Result (List ℕ × List ℕ) Cause
two ws = do
  p ← next_two ws
  _ ← none p.2
  Ok (p.0, p.1)

abbrev pub cause_of : Cause → Misread → Cause
cause_of outside NotANumber = NoNumber
cause_of outside OutOfRange = outside

abbrev pub caused : {X : Type 0} → Cause → Result X Misread → Result X Cause
caused outside (Ok x) = Ok x
caused outside (Err e) = Err (cause_of outside e)

-- A number from 0 to below count, or from low to high, where `outside` is what is wrong with any other.
abbrev pub below : ℕ → Cause → List ℕ → Result ℕ Cause
below count outside w = caused outside (read_below count (integer w))

abbrev pub between : ℤ → ℤ → Cause → List ℕ → Result ℤ Cause
between low high outside w = caused outside (read_within low high (integer w))

-- What code answers, with the bytes in place of slices.
abbrev pub word_of : Result (Bor (List ℕ)) Cause → Result (List ℕ) Cause
word_of (Ok x) = Ok x.now
word_of (Err e) = Err e

abbrev pub pair_of : Result (Bor (List ℕ) × Bor (List ℕ)) Cause → Result (List ℕ × List ℕ) Cause
pair_of (Ok p) = Ok (p.0.now, p.1.now)
pair_of (Err e) = Err e

abbrev pub next_of : Result (Bor (List ℕ) × Bor (List ℕ)) Cause → Result (List ℕ × List (List ℕ)) Cause
next_of (Ok p) = Ok (p.0.now, words p.1.now)
next_of (Err e) = Err e

abbrev pub rest_of : Result (Bor (List ℕ) × Bor (List ℕ) × Bor (List ℕ)) Cause → Result (List ℕ × List ℕ × List (List ℕ)) Cause
rest_of (Ok p) = Ok (p.0.now, p.1.now, words p.2.now)
rest_of (Err e) = Err e
