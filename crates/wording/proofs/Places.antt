-- The place of a word among names. Assumes nothing.
use Rattle.std.proofs.Common.{◌≡◌, ℕ, suc, Bool, true, false, List, [], ◌∷◌, map, sym, refl, ap, ◌∙◌, Bor}
use Rattle.std.specs.List.{position, position_from}
use Rattle.std.proofs.lemmas.Iterator.Adapters.{position_from-zero}
use Rattle.std.specs.Option.{option_map}
use Rattle.std.specs.Str.{bytes_eq}
use Rattle.wording.specs.Pieces.{place_of}
use Rattle.wording.proofs.Cuts.{place_later}

abbrev pub is : List ℕ → Bor (List ℕ) → Bool
is w n = bytes_eq w n.now

place_from : (w : List ℕ) (ns : List (Bor (List ℕ))) → place_of w (map (λ x. x.now) ns) ≡ position_from (is w) 0 ns
place_from w [] = refl
place_from w (n ∷ ns) = by (is w n) refl (place_from w ns)
  where
    by : (v : Bool) → is w n ≡ v → place_of w (map (λ x. x.now) ns) ≡ position_from (is w) 0 ns → place_of w (map (λ x. x.now) (n ∷ ns)) ≡ position_from (is w) 0 (n ∷ ns)
    by true e h = rw e refl
    by false e h = rw e (ap (option_map suc) h ∙ sym (place_later (is w) ns 0))

pub place_is : (w : List ℕ) (ns : List (Bor (List ℕ))) → place_of w (map (λ x. x.now) ns) ≡ position (is w) ns
place_is w ns = place_from w ns ∙ sym (position_from-zero (is w) ns)
