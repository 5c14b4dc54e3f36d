-- What the iterator over a text's tokens gives. Assumes nothing.
use Rattle.std.specs.Prelude.{◌≡◌, ℕ, List, length, Some, None, Ok, Err, Option, Result}
use Rattle.tokens.specs.declared.fault.Fault.{Fault}
use Rattle.tokens.specs.declared.stream.Tokens.{Tokens}
use Rattle.tokens.specs.Tokens.{next}
use Rattle.tokens.specs.Answers.{Found, piece_of}

-- The token from an offset on, and behind it the others. Behind the end, or a fault, there is none.
abbrev pub Gives : Tokens → Option (Result Found Fault) → Tokens → Type 0
Gives s None t = (t.text.now ≡ s.text.now) × (next s.text.now s.from ≡ Ok None) × (t.from ≡ length s.text.now)
Gives s (Some (Ok f)) t = (t.text.now ≡ s.text.now) × (next s.text.now s.from ≡ Ok (Some (piece_of f))) × (t.from ≡ f.end)
Gives s (Some (Err e)) t = (t.text.now ≡ s.text.now) × (next s.text.now s.from ≡ Err e) × (t.from ≡ length s.text.now)

-- At the first token of a text.
abbrev pub Starts : List ℕ → Tokens → Type 0
Starts text t = (t.text.now ≡ text) × (t.from ≡ 0)
