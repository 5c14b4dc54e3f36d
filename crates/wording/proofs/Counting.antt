-- Numbers read with a cap. Assumes nothing.
use Rattle.std.proofs.Common.{◌≡◌, ℕ, ◌+◌, ◌-◌, ◌*◌, ◌<◌, ◌≤◌, Bool, true, false, cond, ◌&&◌, List, [], ◌∷◌, ℤ, Some, None, Ok, Err, Option, Result, int_le, OkIff, refl, ap, ◌∙◌, ⊎_elim, arith, w64, SFits}
use lib.Signed.{le_z}
use mir.Syntax.{w128}
use Rattle.std.proofs.lemmas.Int.{ints}
use Rattle.std.proofs.lemmas.Bool.{cases_lt}
use Rattle.std.proofs.lemmas.Bool.Decides.{nat_tests}
use Rattle.std.specs.Option.{option_map}
use Rattle.wording.specs.declared.numerals.Misread.{Misread}
use Rattle.wording.specs.declared.numerals.Misread.TheVariants.{OutOfRange}
use Rattle.wording.specs.Numerals.{digit, digits_after, signed, read_within}
use Rattle.wording.specs.Caps.{cap, capped}
use Rattle.wording.specs.Conversions.{converted, IsConverted}

cap_more : (m n d : ℕ) → cap m ≡ cap n → cap (10 * m + d) ≡ cap (10 * n + d)
cap_more m n d e = omega arith

-- digits after numbers of one cap
pub same_cap : (bs : List ℕ) (m n : ℕ) → cap m ≡ cap n → capped (digits_after m bs) ≡ capped (digits_after n bs)
same_cap [] m n e = ap Some e
same_cap (b ∷ bs) m n e = by (digit b) refl (same_cap bs (10 * m + (b - 48)) (10 * n + (b - 48)) (cap_more m n (b - 48) e))
  where
    by : (v : Bool) → digit b ≡ v → capped (digits_after (10 * m + (b - 48)) bs) ≡ capped (digits_after (10 * n + (b - 48)) bs) → capped (digits_after m (b ∷ bs)) ≡ capped (digits_after n (b ∷ bs))
    by true f h = rw f h
    by false f h = rw f refl

-- a number that is cut off lies outside, cut off or not
outside : (negative : Bool) (m : ℕ) (low high : ℤ) → SFits w64 low → SFits w64 high → 18446744073709551615 ≤ m → (int_le low (signed negative m) && int_le (signed negative m) high) ≡ false
outside true m low high f g h = grind (arith, ints, nat_tests)
outside false m low high f g h = grind (arith, ints, nat_tests)

capped_within : (negative : Bool) (low high : ℤ) (o : Option ℕ) → SFits w64 low → SFits w64 high → read_within low high (option_map (signed negative) (capped o)) ≡ read_within low high (option_map (signed negative) o)
capped_within negative low high None f g = refl
capped_within negative low high (Some n) f g = ⊎_elim kept cut (cases_lt n 18446744073709551615)
  where
    kept : n < 18446744073709551615 → read_within low high (Some (signed negative (cap n))) ≡ read_within low high (Some (signed negative n))
    kept h = let e : cap n ≡ n = omega arith in rw e refl

    cut : 18446744073709551615 ≤ n → read_within low high (Some (signed negative (cap n))) ≡ read_within low high (Some (signed negative n))
    cut h = rw (outside negative (cap n) low high f g (omega arith), outside negative n low high f g h) refl

-- a number that is in range was not cut off
pub in_range : (negative : Bool) (m : ℕ) (low high : ℤ) (o : Option ℕ) → SFits w64 low → SFits w64 high → le_z low (signed negative m) ≡ true → le_z (signed negative m) high ≡ true → Some m ≡ capped o → Ok (signed negative m) ≡ read_within low high (option_map (signed negative) o)
in_range negative m low high o f g a b e =
    let inside : Ok (signed negative m) ≡ read_within low high (Some (signed negative m)) = rw (a, b) refl in
    inside ∙ ap (λ k. read_within low high (option_map (signed negative) k)) e ∙ capped_within negative low high o f g

pub widened : (z : ℤ) → SFits w64 z → SFits w128 z
widened z f = record { sfits = omega (arith, f.sfits) }

fits_between : (low z high : ℤ) → SFits w64 low → SFits w64 high → (int_le low z && int_le z high) ≡ true → SFits w64 z
fits_between low z high f g e = record { sfits = grind (arith, ints, nat_tests) }

-- what lies between numbers of 64 bits has 64
narrowed : (E : Type 0) (low high : ℤ) (o : Option ℤ) (r : Result ℤ Misread) → SFits w64 low → SFits w64 high → IsConverted {E = E} (λ z t. OkIff t (SFits w64 z) z) (read_within low high o) r → r ≡ read_within low high o
narrowed E low high None r f g h = h
narrowed E low high (Some z) r f g h = by (int_le low z && int_le z high) refl h
  where
    held : (t : Result ℤ E) → SFits w64 z → OkIff t (SFits w64 z) z → converted t ≡ Ok z
    held (Ok x) s h = ap Ok h.1
    held (Err e) s h = absurd (h s)

    by : (v : Bool) → (int_le low z && int_le z high) ≡ v → IsConverted {E = E} (λ z t. OkIff t (SFits w64 z) z) (cond v (Ok z) (Err OutOfRange)) r → r ≡ cond v (Ok z) (Err OutOfRange)
    by true e h = h.2 ∙ held h.0 (fits_between low z high f g e) h.1
    by false e h = h

-- a number that was cut off and then converted
pub converted_within : (E : Type 0) (negative : Bool) (low high : ℤ) (o : Option ℕ) (n : Option ℤ) (r : Result ℤ Misread) → SFits w64 low → SFits w64 high → n ≡ option_map (signed negative) (capped o) → IsConverted {E = E} (λ z t. OkIff t (SFits w64 z) z) (read_within low high n) r → r ≡ read_within low high (option_map (signed negative) o)
converted_within E negative low high o n r f g e h = narrowed E low high n r f g h ∙ ap (read_within low high) e ∙ capped_within negative low high o f g
