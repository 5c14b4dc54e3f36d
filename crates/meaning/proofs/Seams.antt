-- Reading and writing at the seam of two lists, past it and before it. Assumes nothing.
use Rattle.std.proofs.Common.{◌≡◌, ℕ, zero, suc, ◌+◌, ◌<◌, List, [], ◌∷◌, ◌++◌, length, set, refl, ap, ◌∙◌, suc-add, zero-add, arith}
use Rattle.std.specs.List.{slice_get}

module _ {X : Type 0} where
  pub nth_past_seam : (zs xs : List X) (k : ℕ) → slice_get (zs ++ xs) (length zs + k) ≡ slice_get xs k
  nth_past_seam [] xs k = ap (slice_get xs) (zero-add k)
  nth_past_seam (z ∷ zs) xs k = ap (slice_get (z ∷ zs ++ xs)) (suc-add (length zs) k) ∙ nth_past_seam zs xs k

  pub set_past_seam : (zs xs : List X) (k : ℕ) (c : X) → set (zs ++ xs) (length zs + k) c ≡ zs ++ set xs k c
  set_past_seam [] xs k c = ap (λ i. set xs i c) (zero-add k)
  set_past_seam (z ∷ zs) xs k c = ap (λ i. set (z ∷ zs ++ xs) i c) (suc-add (length zs) k) ∙ ap (λ t. z ∷ t) (set_past_seam zs xs k c)

  pub nth_before_seam : (zs xs : List X) (k : ℕ) → k < length zs → slice_get (zs ++ xs) k ≡ slice_get zs k
  nth_before_seam [] xs k low = absurd (omega arith)
  nth_before_seam (z ∷ zs) xs zero low = refl
  nth_before_seam (z ∷ zs) xs (suc k) low = nth_before_seam zs xs k (omega arith)

  pub set_before_seam : (zs xs : List X) (k : ℕ) (c : X) → k < length zs → set (zs ++ xs) k c ≡ set zs k c ++ xs
  set_before_seam [] xs k c low = absurd (omega arith)
  set_before_seam (z ∷ zs) xs zero c low = refl
  set_before_seam (z ∷ zs) xs (suc k) c low = ap (λ t. z ∷ t) (set_before_seam zs xs k c (omega arith))
