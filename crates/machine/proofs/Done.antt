-- What an instruction comes to once none of its parts stops. Assumes nothing.
use Rattle.std.proofs.Common.{◌≡◌, ℕ, zero, suc, ◌+◌, ◌-◌, ◌/◌, ◌%◌, ◌≤◌, List, [], ◌∷◌, length, set, ℤ, pos, ◌+ℤ◌, Some, None, Ok, Err, Option, Result, sym, refl, ap, ◌∙◌, arith, lt-ltb}
use borrow.Rule.Slice.PartMut.{put_mid}
use Rattle.reckoning.specs.Meaning.{Meaning}
use Rattle.instructions.specs.declared.Stop.{Stop}
use Rattle.instructions.specs.Words.{signed}
use Rattle.machine.specs.declared.state.Registers.{Registers}
use Rattle.machine.specs.Instructions.{State, ◌>>=◌, register, cell, natural, with_pc, three}
use Rattle.machine.specs.Seen.{after, flowed}
use Rattle.machine.specs.Steps.{perform, act}

next : {X Y : Type 0} (x : Result X Stop) (k : X → Result Y Stop) (v : X) (y : Result Y Stop) → Ok v ≡ x → k v ≡ y → (x >>= k) ≡ y
next x k v y is rest = ap (λ x. x >>= k) (sym is) ∙ rest

ends : {X : Type 0} (t u : X) (x : Result X Stop) → x ≡ Ok u → (Ok tt, u) ≡ after t x
ends t u x is = sym (ap (after t) is)

pub three_done : {Cell : Type 0} (s : List Cell) (below : ℤ) (a : ℕ) (x y z : Cell) → Ok a ≡ natural (below +ℤ pos 1) → 3 ≤ length s → a ≤ length s - 3 → (Ok tt, set (set (set s a x) (a + 1) y) (a + 2) z) ≡ after s (three s below x y z)
three_done s below a x y z at long inside =
    ends s _ (three s below x y z) (next (natural (below +ℤ pos 1)) _ a _ at (rw (lt-ltb (a + 2) (length s) (omega arith))))

-- three cells written at once are three writes
pub three_set : {Cell : Type 0} (s : List Cell) (a : ℕ) (x y z : Cell) → a + 3 ≤ length s → put_mid a 3 s (x ∷ y ∷ z ∷ []) ≡ set (set (set s a x) (a + 1) y) (a + 2) z
three_set (p ∷ q ∷ r ∷ s) zero x y z inside = refl
three_set (p ∷ s) (suc a) x y z inside =
    let one : suc a + 1 ≡ suc (a + 1) = omega arith in
    let two : suc a + 2 ≡ suc (a + 2) = omega arith in
    rw (one, two) (ap (λ t. p ∷ t) (three_set s a x y z (omega arith)))
three_set [] a x y z inside = absurd (omega arith)
three_set (p ∷ []) zero x y z inside = absurd (omega arith)
three_set (p ∷ q ∷ []) zero x y z inside = absurd (omega arith)

module _ {Cell : Type 0} (m : Meaning Cell) (r : Registers) (s : List Cell) where
  -- a cycle does what the instruction does that it fetches; where that ends the run, the program counter is put back
  module _ (code : List ℕ) (w : ℕ) (pc z : ℤ) (fetched : Ok w ≡ cell code r.pc) (raised : Ok pc ≡ register (r.pc +ℤ pos 1)) (operand : z ≡ signed (w % 16777216)) where
    acts : act m code r s ≡ perform m (w / 16777216) z (with_pc pc r) s
    acts = next (cell code r.pc) _ w (perform m (w / 16777216) z (with_pc pc r) s) fetched (next (register (r.pc +ℤ pos 1)) _ pc (perform m (w / 16777216) z (with_pc pc r) s) raised (ap (λ y. perform m (w / 16777216) y (with_pc pc r) s) (sym operand)))

    stops_from : (q : Registers) (t : List Cell) (e : Stop) (x : Result (Option (State Cell)) Stop) → (Err e, (q, t)) ≡ flowed (with_pc pc r, s) x → (Err e, (with_pc r.pc q, t)) ≡ flowed (r, s) x
    stops_from q t e (Ok (Some v)) is = let first = ap (λ p. p.0) is in cc
    stops_from q t e (Ok None) is = let first = ap (λ p. p.0) is in cc
    stops_from q t e (Err d) is = ap (λ p. (p.0, (with_pc r.pc p.1.0, p.1.1))) is

    pub acts_stops : (q : Registers) (t : List Cell) (e : Stop) → (Err e, (q, t)) ≡ flowed (with_pc pc r, s) (perform m (w / 16777216) z (with_pc pc r) s) → (Err e, (with_pc r.pc q, t)) ≡ flowed (r, s) (act m code r s)
    acts_stops q t e is = stops_from q t e (perform m (w / 16777216) z (with_pc pc r) s) is ∙ sym (ap (flowed (r, s)) acts)
