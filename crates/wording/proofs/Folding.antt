-- Digits read by a fold that breaks off. Assumes nothing.
use Rattle.std.proofs.Common.{◌≡◌, ℕ, ◌+◌, ◌-◌, ◌*◌, ◌<◌, true, false, List, [], ◌∷◌, length, Some, None, Option, MatchOption, sym, ap, ◌∙◌, subst, arith}
use Rattle.std.specs.Iterator.{AlwaysYields, Yields, YieldsThen}
use Rattle.std.specs.List.{FoldsTo}
use Rattle.std.proofs.lemmas.Iterator.{YieldsList}
use Rattle.wording.specs.Numerals.{digit, digits, digits_after}
use Rattle.wording.specs.Caps.{cap, capped}
use Rattle.wording.proofs.Counting.{same_cap}

module _ {S A F : Type 0} (steps : S → Option A → S → Type 0) (v : A → ℕ) (T : F × ℕ → A → F × ℕ → Type 0) (f : F)
    (turn : (a : ℕ) (x : A) (q : F × ℕ) → T (f, a) x q → (q.0 ≡ f) × (digit (v x) ≡ true) × (q.1 ≡ cap (10 * a + (v x - 48))))
    (r : Option ℕ) (u : S) where
  abbrev pub Ends : Option A → ℕ → Type 0
  Ends o a = MatchOption o (r ≡ Some a) (λ x. (digit (v x) ≡ false) × (r ≡ None))

  ends : (o : Option A) (a : ℕ) (all : List ℕ) (s : S) → a ≡ cap a → AlwaysYields steps v s all → steps s o u → Ends o a → r ≡ capped (digits_after a all)
  ends None a [] s c h p e = e ∙ ap Some c
  ends None a (y ∷ ys) s c h p e = absurd (h.0 u p)
  ends (Some x) a [] s c h p e = absurd (h x u p)
  ends (Some x) a (y ∷ ys) s c h p e = let d : digit y ≡ false = ap digit (sym (h.1 x u p).0) ∙ e.0 in rw d e.1

  goes : (xs : List A) (o : Option A) (a b : ℕ) (j : F) (all : List ℕ) (s t : S) → a ≡ cap a → AlwaysYields steps v s all → Yields steps s xs t → steps t o u → FoldsTo T (f, a) xs (j, b) → Ends o b → r ≡ capped (digits_after a all)
  goes [] o a b j all s t c h y p k e = ends o a all s c h (subst (λ z. steps z o u) (sym y) p) (subst (Ends o) (sym (ap (λ q. q.1) k)) e)
  goes (x ∷ xs) o a b j [] s t c h y p k e = absurd (h x y.0 y.1)
  goes (x ∷ xs) o a b j (z ∷ zs) s t c h y p k e =
      let q = k.0 in
      let m = turn a x q k.1 in
      let n = h.1 x y.0 y.1 in
      let d : digit z ≡ true = ap digit (sym n.0) ∙ m.1 in
      let w : q.1 ≡ cap (10 * a + (z - 48)) = m.2 ∙ ap (λ i. cap (10 * a + (i - 48))) n.0 in
      let k' = subst (λ i. FoldsTo T (i, q.1) xs (j, b)) m.0 k.2 in
      let more = goes xs o q.1 b j zs y.0 t (omega (arith, w)) n.1 y.2 p k' e in
      rw d (more ∙ same_cap zs q.1 (10 * a + (z - 48)) (omega (arith, w)))

  pub digits_folded : (xs : List A) (o : Option A) (b : ℕ) (j : F) (all : List ℕ) (s : S) (Broke : A → Type 0) → YieldsList steps v s all → YieldsThen steps s xs o u → FoldsTo T (f, 0) xs (j, b) → MatchOption o (r ≡ Some b) Broke → ((x : A) → Broke x → (digit (v x) ≡ false) × (r ≡ None)) → 0 < length all → r ≡ capped (digits all)
  digits_folded xs o b j [] s Broke h y k e broke l = absurd (omega arith)
  digits_folded xs o b j (z ∷ zs) s Broke h y k e broke l = goes xs o 0 b j (z ∷ zs) s y.0 (omega arith) h.runs y.1 y.2 k (last o e)
    where
      last : (o : Option A) → MatchOption o (r ≡ Some b) Broke → Ends o b
      last None e = e
      last (Some x) e = broke x e
