-- How many lines a text has. Assumes nothing.
use Rattle.std.proofs.Common.{◌≡◌, ℕ, ◌+◌, ◌≤◌, Bool, true, false, eqb, List, [], ◌∷◌, length, refl, arith}
use Rattle.wording.specs.Pieces.{begin, lines}

few_begun : (b : ℕ) (ls : List (List ℕ)) → length (begin b ls) ≤ length ls + 1
few_begun b [] = omega arith
few_begun b (l ∷ ls) = omega arith

-- there are no more lines than bytes
pub few_lines : (t : List ℕ) → length (lines t) ≤ length t
few_lines [] = omega arith
few_lines (b ∷ bs) = by (eqb b 10) refl (few_lines bs)
  where
    by : (v : Bool) → eqb b 10 ≡ v → length (lines bs) ≤ length bs → length (lines (b ∷ bs)) ≤ length (b ∷ bs)
    by true e h = rw e (omega arith)
    by false e h = rw e (omega (arith, few_begun b (lines bs)))
