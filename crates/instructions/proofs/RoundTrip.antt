-- A word and its instruction come back from each other. Assumes nothing.
use Rattle.std.proofs.Common.{◌≡◌, ℕ, zero, suc, ◌+◌, ◌-◌, ◌*◌, ◌/◌, ◌%◌, ◌<◌, ◌≤◌, Bool, true, false, cond, ◌&&◌, List, [], ◌∷◌, ℤ, pos, negsuc, Some, None, Option, Ok, sym, refl, ap, ◌∙◌, subst, ⊎_elim, add-zero, add-suc, suc-add, zero-add, arith, le-ltb, lt-ltb, le-leb}
use lib.Signed.{le_z}
use Rattle.std.specs.Option.{option_map, ok_or}
use Rattle.std.specs.List.{slice_get}
use Rattle.std.proofs.lemmas.Int.{ints}
use Rattle.std.proofs.str.Laws.{order}
use Rattle.reckoning.specs.declared.Comparison.TheVariants.{Equal, NotEqual, Less, AtMost, Greater, AtLeast}
use Rattle.reckoning.specs.declared.Operator.TheVariants.{Add, Subtract, Multiply, Divide, Remainder, Compare}
use Rattle.instructions.specs.declared.set.Instruction.{Instruction}
use Rattle.instructions.specs.declared.set.Instruction.TheVariants.{Halt, LoadConstant, LoadRelative, Load, Store, Pop, Operate, Negate, Not, Jump, JumpZero, Mark, Call, Enter, Allocate, Return, Check}
use Rattle.instructions.specs.Words.{table, signed, decoded, number, operand, low_bits, encoded, takes, plain}

-- an operand of 24 bits
abbrev short : ℤ → Bool
short z = le_z (negsuc 8388607) z && le_z z (pos 8388607)

signed_low : (z : ℤ) → short z ≡ true → (signed (low_bits z) ≡ z) × (low_bits z < 16777216)
signed_low (pos n) h =
    let low : n < 8388608 = grind (arith, ints) in
    (rw (lt-ltb n 8388608 low), omega arith)
signed_low (negsuc n) h =
    let low : n < 8388608 = grind (arith, ints) in
    let high : 8388608 ≤ 16777215 - n = omega arith in
    let same : 16777215 - (16777215 - n) ≡ n = omega arith in
    (rw (le-ltb (16777215 - n) 8388608 high, same), omega arith)

-- the entry of an instruction in the table
entry : (i : Instruction) → (f : ℤ → Instruction) × (slice_get table (number i) ≡ Some f) × (f (operand i) ≡ i)
entry Halt = (_, refl, refl)
entry (LoadConstant n) = (_, refl, refl)
entry (LoadRelative j) = (_, refl, refl)
entry Load = (_, refl, refl)
entry Store = (_, refl, refl)
entry Pop = (_, refl, refl)
entry (Operate Add) = (_, refl, refl)
entry (Operate Subtract) = (_, refl, refl)
entry (Operate Multiply) = (_, refl, refl)
entry (Operate Divide) = (_, refl, refl)
entry (Operate Remainder) = (_, refl, refl)
entry (Operate (Compare Equal)) = (_, refl, refl)
entry (Operate (Compare NotEqual)) = (_, refl, refl)
entry (Operate (Compare Less)) = (_, refl, refl)
entry (Operate (Compare AtMost)) = (_, refl, refl)
entry (Operate (Compare Greater)) = (_, refl, refl)
entry (Operate (Compare AtLeast)) = (_, refl, refl)
entry Negate = (_, refl, refl)
entry Not = (_, refl, refl)
entry (Jump to) = (_, refl, refl)
entry (JumpZero to) = (_, refl, refl)
entry Mark = (_, refl, refl)
entry (Call n) = (_, refl, refl)
entry (Enter q) = (_, refl, refl)
entry (Allocate k) = (_, refl, refl)
entry Return = (_, refl, refl)
entry (Check n) = (_, refl, refl)

decoded_at : (i : Instruction) (n b : ℕ) → n ≡ number i → b < 16777216 → signed b ≡ operand i → decoded (16777216 * n + b) ≡ Some i
decoded_at i n b is small same =
    let e = entry i in
    let high : (16777216 * n + b) / 16777216 ≡ n = omega arith in
    let low : (16777216 * n + b) % 16777216 ≡ b = omega arith in
    ap (option_map (λ f. f (signed ((16777216 * n + b) % 16777216)))) (ap (slice_get table) (high ∙ is) ∙ e.1) ∙ ap (λ z. Some (e.0 z)) (ap signed low ∙ same) ∙ ap Some e.2

word_by : (i : Instruction) (b : Bool) (w : ℕ) → short (operand i) ≡ b → cond b (Some (16777216 * number i + low_bits (operand i))) None ≡ Some w → decoded w ≡ Some i
word_by i true w fits is =
    let back = signed_low (operand i) fits in
    let same : 16777216 * number i + low_bits (operand i) ≡ w = cc in
    subst (λ v. decoded v ≡ Some i) same (decoded_at i (number i) (low_bits (operand i)) refl back.1 back.0)
word_by i false w fits is = cc

pub ok_some : {X E : Type 0} (o : Option X) (e : E) (x : X) → ok_or o e ≡ Ok x → o ≡ Some x
ok_some (Some y) e x is = cc
ok_some None e x is = cc

pub encoded_is : (i : Instruction) (w : ℕ) → short (operand i) ≡ true → w ≡ 16777216 * number i + low_bits (operand i) → Some w ≡ encoded i
encoded_is i w fits is = rw fits (ap Some is)

pub instruction_back : (i : Instruction) (w : ℕ) → encoded i ≡ Some w → decoded w ≡ Some i
instruction_back i w is = word_by i (short (operand i)) w refl is

-- the n-th entry of the table makes instructions with number n, which keep an operand that they take
abbrev Entry : ℕ → (ℤ → Instruction) → Type 0
Entry n f = (z : ℤ) → (number (f z) ≡ n) × (operand (f z) ≡ cond (takes n) z (pos 0))

abbrev Entries : ℕ → List (ℤ → Instruction) → Type 0
Entries n [] = Unit {0}
Entries n (f ∷ fs) = Entry n f × Entries (suc n) fs

entries : Entries 0 table
entries = (λ z. (refl, refl), (λ z. (refl, refl), (λ z. (refl, refl), (λ z. (refl, refl), (λ z. (refl, refl), (λ z. (refl, refl), (λ z. (refl, refl), (λ z. (refl, refl), (λ z. (refl, refl), (λ z. (refl, refl), (λ z. (refl, refl), (λ z. (refl, refl), (λ z. (refl, refl), (λ z. (refl, refl), (λ z. (refl, refl), (λ z. (refl, refl), (λ z. (refl, refl), (λ z. (refl, refl), (λ z. (refl, refl), (λ z. (refl, refl), (λ z. (refl, refl), (λ z. (refl, refl), (λ z. (refl, refl), (λ z. (refl, refl), (λ z. (refl, refl), (λ z. (refl, refl), (λ z. (refl, refl), tt)))))))))))))))))))))))))))

nth_entry : (fs : List (ℤ → Instruction)) (k n : ℕ) (f : ℤ → Instruction) → Entries k fs → slice_get fs n ≡ Some f → Entry (k + n) f
nth_entry [] k n f all is = let clash : ◌≡◌ {A = ℕ} 0 1 = cc in absurd (omega arith)
nth_entry (g ∷ fs) k zero f all is =
    let same : g ≡ f = cc in
    rw add-zero (subst (Entry k) same all.0)
nth_entry (g ∷ fs) k (suc n) f all is = rw (add-suc, ← suc-add) (nth_entry fs (suc k) n f all.1 is)

table_entry : (n : ℕ) (f : ℤ → Instruction) → slice_get table n ≡ Some f → Entry n f
table_entry n f is = subst (λ k. Entry k f) (zero-add n) (nth_entry table 0 n f entries is)

low_signed : (n : ℕ) → n < 16777216 → (short (signed n) ≡ true) × (low_bits (signed n) ≡ n)
low_signed n small =
    ⊎_elim
    (λ low. rw (lt-ltb n 8388608 low) (le-leb n 8388607 (omega arith), refl))
    (λ high. rw (le-ltb n 8388608 high) (rw (le-leb (16777215 - n) 8388607 (omega arith)), omega arith))
    (order n 8388608)

kept : (b : Bool) (n : ℕ) → n < 16777216 → (short (cond b (signed n) (pos 0)) ≡ true) × (low_bits (cond b (signed n) (pos 0)) ≡ cond b n 0)
kept true n small = low_signed n small
kept false n small = (refl, refl)

encoded_at : (i : Instruction) (w : ℕ) (z : ℤ) → short z ≡ true → number i ≡ w / 16777216 → operand i ≡ z → low_bits z ≡ cond (takes (w / 16777216)) (w % 16777216) 0 → encoded i ≡ Some (plain w)
encoded_at i w z fits n same low = rw (same, fits, n, low)

word_from : (w : ℕ) (o : Option (ℤ → Instruction)) (i : Instruction) → slice_get table (w / 16777216) ≡ o → option_map (λ f. f (signed (w % 16777216))) o ≡ Some i → encoded i ≡ Some (plain w)
word_from w (Some f) i found is =
    let e = table_entry (w / 16777216) f found (signed (w % 16777216)) in
    let same : f (signed (w % 16777216)) ≡ i = cc in
    let k = kept (takes (w / 16777216)) (w % 16777216) (omega arith) in
    encoded_at i w (cond (takes (w / 16777216)) (signed (w % 16777216)) (pos 0)) k.0 (sym (ap number same) ∙ e.0) (sym (ap operand same) ∙ e.1) k.1
word_from w None i found is = cc

pub word_back : (w : ℕ) (i : Instruction) → decoded w ≡ Some i → encoded i ≡ Some (plain w)
word_back w i is = word_from w (slice_get table (w / 16777216)) i refl is
