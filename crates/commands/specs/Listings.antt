-- A line of a listing: NAME [OPERAND] [@PLACE], or word N [@PLACE]. Assumes nothing.
use Rattle.std.specs.Prelude.{ℕ, ◌+◌, ◌*◌, cond, List, [], ◌∷◌, ℤ, pos, negsuc, Some, None, Ok, Err, codes, Option, Result, ◌==◌}
use Rattle.std.specs.Option.{ok_or}
use Rattle.std.specs.Str.{bytes_eq}
use Rattle.instructions.specs.Words.{low_bits}
use Rattle.wording.specs.Pieces.{place_of}
use Rattle.commands.specs.declared.cause.Cause.{Cause}
use Rattle.commands.specs.declared.cause.Cause.TheVariants.{MissingWord, ExtraWord, UnknownInstruction, OperandRange, WordRange, PlaceRange}
use Rattle.commands.specs.Arguments.{◌>>=◌, none, below, between}

-- What the instructions are called, in the order of their numbers.
abbrev pub names : List (List ℕ)
names = codes "halt" ∷ codes "loadc" ∷ codes "loadrc" ∷ codes "load" ∷ codes "store" ∷ codes "pop" ∷ codes "add" ∷ codes "sub" ∷ codes "mul" ∷ codes "div" ∷ codes "mod" ∷ codes "eq" ∷ codes "neq" ∷ codes "le" ∷ codes "leq" ∷ codes "gr" ∷ codes "geq" ∷ codes "neg" ∷ codes "not" ∷ codes "jump" ∷ codes "jumpz" ∷ codes "mark" ∷ codes "call" ∷ codes "enter" ∷ codes "alloc" ∷ codes "return" ∷ codes "chk" ∷ []

-- What stands after '@'.
abbrev pub after_at : List ℕ → Option (List ℕ)
after_at [] = None
after_at (b ∷ bs) = cond (b == 64) (Some bs) None

abbrev pub operand : Option (List ℕ) → Result ℤ Cause
operand (Some w) = between (negsuc 8388607) (pos 8388607) OperandRange w
operand None = Ok (pos 0)

-- The word of an instruction: its number, and the 24 bits of its operand.
abbrev pub instruction : List ℕ → Option (List ℕ) → Result ℕ Cause
instruction name o = do
  number ← ok_or (place_of name names) UnknownInstruction
  z ← operand o
  Ok (16777216 * number + low_bits z)

abbrev pub plain : Option (List ℕ) → Result ℕ Cause
plain (Some w) = below 4294967296 WordRange w
plain None = Err MissingWord

abbrev pub word : List ℕ → Option (List ℕ) → Result ℕ Cause
word name o = cond (bytes_eq name (codes "word")) (plain o) (instruction name o)

-- The place beside a word, or 0.
abbrev pub place : Option (List ℕ) → Result ℕ Cause
place (Some w) = below 4294967296 PlaceRange w
place None = Ok 0

-- A name, an operand and a place, the last two if they are there.
abbrev pub assembled : List ℕ → Option (List ℕ) → Option (List ℕ) → Result (ℕ × ℕ) Cause
assembled name o p = do
  w ← word name o
  at ← place p
  Ok (w, at)

abbrev pub lone : List ℕ → List ℕ → Option (List ℕ) → Result (ℕ × ℕ) Cause
lone name w (Some p) = assembled name None (Some p)
lone name w None = assembled name (Some w) None

abbrev pub placed : List ℕ → List ℕ → Option (List ℕ) → Result (ℕ × ℕ) Cause
placed name w (Some p) = assembled name (Some w) (Some p)
placed name w None = Err ExtraWord

-- A single word after the name is a place or an operand; of two the last is a place.
abbrev pub line : List ℕ → List (List ℕ) → Result (ℕ × ℕ) Cause
line name [] = assembled name None None
line name (v ∷ []) = lone name v (after_at v)
line name (v ∷ w ∷ ws) = none ws >>= λ _. placed name v (after_at w)
