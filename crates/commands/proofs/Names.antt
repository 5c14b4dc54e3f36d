-- Words and names. Assumes nothing.
use Rattle.std.proofs.Common.{◌≡◌, ℕ, Bool, true, false, List, refl}
use Rattle.std.specs.Str.{bytes_eq}
use Rattle.std.proofs.lemmas.Slice.Eq.{bytes_eq-Decides}

pub no_word : (w n : List ℕ) → (w ≡ n → ⊥) → bytes_eq w n ≡ false
no_word w n h = by (bytes_eq w n) refl
  where
    by : (v : Bool) → bytes_eq w n ≡ v → v ≡ false
    by true e = absurd (h ((bytes_eq-Decides w n).0 e))
    by false e = refl
