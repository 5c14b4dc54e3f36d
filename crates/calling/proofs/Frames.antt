-- The first frame as it is written: four cells, then the arguments. Assumes nothing.
use Rattle.std.proofs.Common.{◌≡◌, ℕ, ◌+◌, ◌≤◌, List, [], ◌∷◌, ◌++◌, length, take, drop, sym, ap, ◌∙◌, arith}
use borrow.Rule.Slice.PartMut.{put_mid}
use Rattle.std.proofs.lemmas.List.{append_assoc, length-append, length-take-le, take_at, drop_at, drop-drop}

module _ {Cell : Type 0} (e : Cell) (s : List Cell) (g : ℕ) where
  abbrev four : List Cell
  four = e ∷ e ∷ e ∷ e ∷ []

  abbrev below : List Cell
  below = take (g + 1) s ++ four

  abbrev emptied : ℕ → List Cell → List Cell
  emptied k ys = put_mid (g + 1) k s ys

  emptied_is : (k : ℕ) (ys : List Cell) → g + 5 ≤ length s → k ≡ 4 → ys ≡ four → emptied k ys ≡ below ++ drop (g + 5) s
  emptied_is k ys room many same =
      let end : g + 1 + 4 ≡ g + 5 = omega arith in
      rw (many, same, drop-drop 4 (g + 1) s, end) (sym (append_assoc (take (g + 1) s) four (drop (g + 5) s)))

  below_long : g + 5 ≤ length s → length below ≡ g + 5
  below_long room = omega (arith, length-append (take (g + 1) s) four, length-take-le (g + 1) s (omega arith))

  pub written : (four_of xs ys : List Cell) (j k : ℕ) → g + 5 + length xs ≤ length s → j ≡ 4 → four_of ≡ four → ys ≡ xs → k ≡ length xs
      → put_mid (g + 5) k (emptied j four_of) ys ≡ take (g + 1) s ++ (e ∷ e ∷ e ∷ e ∷ (xs ++ drop (g + 5 + length xs) s))
  written four_of xs ys j k room few fours same many =
      let all : emptied j four_of ≡ below ++ drop (g + 5) s = emptied_is j four_of (omega arith) few fours in
      let long : length below ≡ g + 5 = below_long (omega arith) in
      ap (λ t. take (g + 5) t ++ (ys ++ drop k (drop (g + 5) t))) all
      ∙ rw (take_at below (drop (g + 5) s) (g + 5) long, drop_at below (drop (g + 5) s) (g + 5) long, drop-drop k (g + 5) s, same, many) (append_assoc (take (g + 1) s) four (xs ++ drop (g + 5 + length xs) s))
