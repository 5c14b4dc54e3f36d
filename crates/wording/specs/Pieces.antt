-- The lines of a text, and the words of a line. Assumes nothing.
use Rattle.std.specs.Prelude.{ℕ, suc, Bool, true, cond, ◌||◌, List, [], ◌∷◌, Some, None, Option, ◌==◌}
use Rattle.std.specs.Borrow.{Bor}
use Rattle.std.specs.Option.{option_map}
use Rattle.std.specs.Str.{bytes_eq}

-- What stands before the first byte of this number, and what stands after it.
abbrev pub cut : ℕ → List ℕ → Option (List ℕ × List ℕ)
cut c [] = None
cut c (b ∷ bs) = cond (b == c) (Some ([], bs)) (option_map (λ p. (b ∷ p.0, p.1)) (cut c bs))

-- A byte in front of the first piece.
abbrev pub begin : ℕ → List (List ℕ) → List (List ℕ)
begin b [] = (b ∷ []) ∷ []
begin b (p ∷ ps) = (b ∷ p) ∷ ps

-- A line feed ends a line, and the last line may do without one.
abbrev pub lines : List ℕ → List (List ℕ)
lines [] = []
lines (b ∷ bs) = cond (b == 10) ([] ∷ lines bs) (begin b (lines bs))

-- ASCII white space: tab, line feed, form feed, carriage return and space.
abbrev pub white : ℕ → Bool
white b = b == 9 || (b == 10 || (b == 12 || (b == 13 || b == 32)))

-- Whether a word that reaches up to here ends here.
abbrev pub ends : List ℕ → Bool
ends [] = true
ends (b ∷ bs) = white b

-- White space separates words.
abbrev pub words : List ℕ → List (List ℕ)
words [] = []
words (b ∷ bs) = cond (white b) (words bs) (cond (ends bs) ((b ∷ []) ∷ words bs) (begin b (words bs)))

-- Which of the names a word is, from 0.
abbrev pub place_of : List ℕ → List (List ℕ) → Option ℕ
place_of w [] = None
place_of w (n ∷ ns) = cond (bytes_eq w n) (Some 0) (option_map suc (place_of w ns))

-- What two slices hold, where there are two.
abbrev pub held : Option (Bor (List ℕ) × Bor (List ℕ)) → Option (List ℕ × List ℕ)
held o = option_map (λ p. (p.0.now, p.1.now)) o

-- A first piece, and the pieces of what follows it; or none.
abbrev pub with_rest : (List ℕ → List (List ℕ)) → Option (List ℕ × List ℕ) → List (List ℕ)
with_rest pieces None = []
with_rest pieces (Some p) = p.0 ∷ pieces p.1
