-- The product of two 32-bit numbers, and each quotient of it, fits 64 bits. Assumes nothing.
use Rattle.std.proofs.Common.{◌≡◌, ℕ, zero, suc, ◌*◌, ◌/◌, ◌^◌, ◌≤◌, ℤ, pos, negsuc, ◌*ℤ◌, neg_ℤ, nat_abs, refl, mul-le-mul, div-le_self, arith, to_z-of_z, w32, w64, SFits, to_z, of_z}
use lib.Signed.{quot_z, nat_abs-le}
use mir.Facts.{sfits_widen}

-- a 32-bit number is the same number in 64 bits
pub widened : {z : ℤ} → SFits w32 z → to_z w64 (of_z w64 z) ≡ z
widened f = to_z-of_z {w = w64} (sfits_widen {w = w32} tt f)

-- how far a number lies from zero
far_fits : (z : ℤ) → nat_abs z ≤ 2 ^ 62 → SFits w64 z
far_fits (pos n) h = record { sfits = omega arith }
far_fits (negsuc n) h = record { sfits = omega arith }

far_negated : (n : ℕ) → nat_abs (neg_ℤ (pos n)) ≡ n
far_negated zero = refl
far_negated (suc n) = refl

far_product : (a b : ℤ) → nat_abs (a *ℤ b) ≡ nat_abs a * nat_abs b
far_product (pos a) (pos b) = refl
far_product (pos a) (negsuc b) = far_negated (a * suc b)
far_product (negsuc a) (pos b) = far_negated (suc a * b)
far_product (negsuc a) (negsuc b) = refl

far_quotient : (a b : ℤ) → nat_abs (quot_z a b) ≤ nat_abs a
far_quotient (pos a) (pos b) = div-le_self a b
far_quotient (pos a) (negsuc b) = omega (arith, far_negated (a / suc b), div-le_self a (suc b))
far_quotient (negsuc a) (pos b) = omega (arith, far_negated (suc a / b), div-le_self (suc a) b)
far_quotient (negsuc a) (negsuc b) = div-le_self (suc a) (suc b)

bounded : (a b : ℤ) → SFits w32 a → SFits w32 b → nat_abs (a *ℤ b) ≤ 2 ^ 62
bounded a b f g =
    let m : nat_abs a * nat_abs b ≤ 2 ^ 31 * 2 ^ 31 = mul-le-mul (nat_abs-le a f.sfits) (nat_abs-le b g.sfits) in
    omega (arith, far_product a b)

pub product_fits : (a b : ℤ) → SFits w32 a → SFits w32 b → SFits w64 (a *ℤ b)
product_fits a b f g = far_fits (a *ℤ b) (bounded a b f g)

pub quotient_fits : (a b d : ℤ) → SFits w32 a → SFits w32 b → SFits w64 (quot_z (a *ℤ b) d)
quotient_fits a b d f g = far_fits (quot_z (a *ℤ b) d) (omega (arith, far_quotient (a *ℤ b) d, bounded a b f g))
