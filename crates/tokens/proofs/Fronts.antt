-- What the front of some bytes is, by its first byte, and how long. Assumes nothing.
use Rattle.std.proofs.Common.{◌≡◌, ℕ, ◌+◌, ◌<◌, ◌≤◌, Bool, true, false, List, [], ◌∷◌, length, get_or, Some, None, Ok, Err, Option, Result, sym, refl, ap, arith}
use Rattle.std.specs.List.{prefix_len}
use Rattle.std.proofs.lemmas.List.Sums.{prefix_len-le-length}
use Rattle.std.proofs.lemmas.Bool.{cond-true, or_left}
use Rattle.tokens.specs.declared.fault.Cause.{Cause}
use Rattle.tokens.specs.declared.lexemes.Sign.{Sign}
use Rattle.tokens.specs.Tokens.{Lexeme, Measured, letter, digit, inner, sized, single, double, short, long, signed, begun, front_of}

-- A sign of one byte, where no second byte makes it one of two.
pub signed_none : (a : ℕ) (bs : List ℕ) → length bs < 1 → signed a bs ≡ short (single a)
signed_none a [] h = refl
signed_none a (b ∷ bs) h = absurd (omega arith)

pub signed_short : (a : ℕ) (bs : List ℕ) → 1 ≤ length bs → None ≡ double a (get_or bs 0 0) → signed a bs ≡ short (single a)
signed_short a [] h e = absurd (omega arith)
signed_short a (b ∷ bs) h e = ap (λ o. long o (short (single a))) (sym e)

-- A token is not empty and ends within the bytes.
abbrev pub Within : List ℕ → Measured → Type 0
Within bs (Ok x) = (0 < x.1) × (x.1 ≤ length bs)
Within bs (Err e) = Unit {0}

sized_within : (bs : List ℕ) (n : ℕ) (r : Result Lexeme Cause) → 0 < n → n ≤ length bs → Within bs (sized n r)
sized_within bs n (Ok x) h k = (h, k)
sized_within bs n (Err e) h k = tt

pub leading_some : (p : ℕ → Bool) (b : ℕ) (bs : List ℕ) → p b ≡ true → 0 < prefix_len p (b ∷ bs)
leading_some p b bs e = let more : prefix_len p (b ∷ bs) ≡ 1 + prefix_len p bs = cond-true (p b) _ _ e in omega arith

short_within : (b : ℕ) (bs : List ℕ) (o : Option Sign) → Within (b ∷ bs) (short o)
short_within b bs (Some s) = (omega arith, omega arith)
short_within b bs None = tt

long_within : (a b : ℕ) (bs : List ℕ) (o : Option Sign) (r : Measured) → Within (a ∷ b ∷ bs) r → Within (a ∷ b ∷ bs) (long o r)
long_within a b bs (Some s) r h = (omega arith, omega arith)
long_within a b bs None r h = h

signed_within : (b : ℕ) (bs : List ℕ) → Within (b ∷ bs) (signed b bs)
signed_within a [] = short_within a [] (single a)
signed_within a (b ∷ bs) = long_within a b bs (double a b) (short (single a)) (short_within a (b ∷ bs) (single a))

begun_within : (t d : Bool) (b : ℕ) (bs : List ℕ) → letter b ≡ t → digit b ≡ d → Within (b ∷ bs) (begun t d b bs)
begun_within true d b bs e g = sized_within (b ∷ bs) _ _ (leading_some inner b bs (or_left (letter b) (digit b) e)) (prefix_len-le-length inner (b ∷ bs))
begun_within false true b bs e g = sized_within (b ∷ bs) _ _ (leading_some digit b bs g) (prefix_len-le-length digit (b ∷ bs))
begun_within false false b bs e g = signed_within b bs

pub front_within : (bs : List ℕ) → Within bs (front_of bs)
front_within [] = tt
front_within (b ∷ bs) = begun_within (letter b) (digit b) b bs refl refl
