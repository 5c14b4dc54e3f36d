-- A list of the results of calls that all gave one value. Assumes nothing.
use Rattle.std.proofs.Common.{◌≡◌, List, [], ◌∷◌, replicate, length, refl, ap, ◌∙◌}
use Rattle.std.specs.List.{FoldsTo}

pub all_one : {F X : Type 0} {step : F → X → F → Type 0} (x : X) (f : F) (ys : List X) (l : F) → FoldsTo step f ys l → ((p : F) (y : X) (q : F) → step p y q → y ≡ x) → ys ≡ replicate (length ys) x
all_one x f [] l e h = refl
all_one x f (y ∷ ys) l e h = ap (λ z. z ∷ ys) (h f y e.0 e.1) ∙ ap (λ zs. x ∷ zs) (all_one x e.0 ys l e.2 h)
