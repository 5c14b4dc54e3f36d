-- What more or less budget changes of a reading. Assumes nothing.
use Rattle.std.proofs.Common.{◌≡◌, ℕ, suc, ◌+◌, ◌≤◌, List, [], refl, ap, ◌∙◌, subst, inl, inr, le_refl, arith}
use Rattle.instructions.specs.declared.Stop.{Stop}
use Rattle.instructions.specs.declared.Stop.TheVariants.{Budget}
use Rattle.reckoning.specs.Meaning.{Meaning}
use Rattle.language.specs.Resolved.{Routine}
use Rattle.language.specs.Reading.{Memory, Outcome, gives, stops, level, reading}
use Rattle.language.specs.Readings.{left, lifted, raised, NeverMore, NoneLeft, Larger, Smaller}
use Rattle.language.proofs.Alongside.{Wants, Same, Alongside}
use Rattle.language.proofs.Levels.{levels}

module _ {Cell X : Type 0} where
  same_value : (d : ℕ) (x y : Outcome Cell X) (v : X) (h : Memory Cell) → Same d x y → x ≡ gives v h → y ≡ gives v (lifted d h)
  same_value d x y v h (inl is) at = is ∙ ap (raised d) at
  same_value d x y v h (inr o) at = absurd (subst Wants at o.0)

  same_stop : (d : ℕ) (x y : Outcome Cell X) (e : Stop) (p : ℕ) (c : List Cell) (n : ℕ) → Same d x y → ¬ (e ≡ Budget) → x ≡ stops e p c n → y ≡ stops e p c (n + d)
  same_stop d x y e p c n (inl is) other at = is ∙ ap (raised d) at
  same_stop d x y e p c n (inr o) other at = absurd (other (subst Wants at o.0))

  same_left : (d : ℕ) (x y : Outcome Cell X) → Same d x y → d ≤ left y → y ≡ raised d x
  same_left d x y (inl is) low = is
  same_left d x y (inr o) low = absurd (omega (arith, o.1))

  dry_stop : (x : Outcome Cell X) (p : ℕ) (c : List Cell) (n : ℕ) → (Wants x → left x ≡ 0) → x ≡ stops Budget p c n → n ≡ 0
  dry_stop x p c n none at = subst (λ z. Wants z → left z ≡ 0) at none refl

abbrev start : {Cell : Type 0} → List Cell → ℕ → Memory Cell
start cells b = record { sheet = cells; frame = []; budget = b }

module _ {Cell : Type 0} (m : Meaning Cell) (rs : List Routine) where
  -- a function with b units, and with d more
  along : (active f : ℕ) (xs : List Cell) (b d : ℕ) → Alongside (suc b) d ((level m rs (suc b)).callee active f xs) ((level m rs (suc (b + d))).callee active f xs)
  along active f xs b d = (levels m rs (suc b) d (suc b) (suc (b + d)) (le_refl (suc b)) (omega arith)).callee active f xs

  same_reading : (active f : ℕ) (xs cells : List Cell) (b d : ℕ) → Same d (reading m rs active f xs cells b) (reading m rs active f xs cells (b + d))
  same_reading active f xs cells b d = (along active f xs b d).same (start cells b) (le_refl (suc b))

  pub never_more : NeverMore m rs
  never_more active f xs cells b = (along active f xs b 0).frugal (start cells b) (le_refl (suc b))

  pub none_left : NoneLeft m rs
  none_left active f xs cells b p c n = dry_stop _ p c n ((along active f xs b 0).dry (start cells b) (le_refl (suc b)))

  pub larger : Larger m rs
  larger = record {
    value = λ active f xs cells b d v h. same_value d _ _ v h (same_reading active f xs cells b d);
    stopped = λ active f xs cells b d e p c n. same_stop d _ _ e p c n (same_reading active f xs cells b d);
  }

  pub smaller : Smaller m rs
  smaller active f xs cells b d = same_left d _ _ (same_reading active f xs cells b d)
