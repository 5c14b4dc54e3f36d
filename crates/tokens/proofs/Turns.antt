-- One token after another gives the tokens of a text. Assumes nothing.
use Rattle.std.proofs.Common.{◌≡◌, ℕ, zero, suc, ◌+◌, ◌-◌, ◌<◌, ◌≤◌, Bool, true, false, List, [], ◌∷◌, length, drop, Some, None, Ok, Err, Option, Result, OnSome, sym, refl, ap, ap₂, ◌∙◌, subst, add-zero, arith, length-drop}
use Rattle.std.specs.List.{prefix_len}
use Rattle.std.proofs.lemmas.List.{drop-drop}
use Rattle.std.proofs.lemmas.Bool.{cond-true, cond-false}
use Rattle.tokens.specs.declared.fault.Cause.TheVariants.{Count}
use Rattle.tokens.specs.declared.fault.Fault.{Fault}
use Rattle.tokens.specs.Answers.{Found}
use Rattle.tokens.specs.declared.stream.Tokens.{Tokens}
use Rattle.tokens.specs.Stream.{Gives}
use Rattle.tokens.specs.Answers.{piece_of}
use Rattle.tokens.specs.Tokens.{Measured, Piece, gap, front_of, placed, some_piece, at_place, next, before, counted, from_place}
use Rattle.tokens.proofs.Fronts.{Within, front_within}

-- What stands inside a token is passed over.
pub skip_inside : (left p k : ℕ) (bs : List ℕ) → from_place left p k bs ≡ from_place left (p + k) 0 (drop k bs)
skip_inside left p zero bs = ap (λ q. from_place left q 0 bs) (sym (add-zero p))
skip_inside left p (suc k) [] = refl
skip_inside left p (suc k) (b ∷ bs) = let on : p + 1 + k ≡ p + suc k = omega arith in skip_inside left (p + 1) k bs ∙ ap (λ q. from_place left q 0 (drop k bs)) on

-- The tokens that come from the first one on.
abbrev pub follow : ℕ → Result (Option Piece) Fault → (ℕ → ℕ → Result (List Piece) Fault) → Result (List Piece) Fault
follow left (Err e) others = Err e
follow left (Ok None) others = Ok []
follow zero (Ok (Some x)) others = Err (record { cause = Count; place = x.place })
follow (suc left) (Ok (Some x)) others = before x (others left x.end)

module _ (text : List ℕ) where
  abbrev pub onward : ℕ → ℕ → Result (List Piece) Fault
  onward left from = from_place left from 0 (drop from text)

  shift : (p : ℕ) (b : ℕ) (bs : List ℕ) → drop p text ≡ b ∷ bs → drop (p + 1) text ≡ bs
  shift p b bs h = sym (drop-drop 1 p text) ∙ ap (drop 1) h

  behind : (left p n : ℕ) (b : ℕ) (bs : List ℕ) → drop p text ≡ b ∷ bs → 0 < n → from_place left (p + 1) (p + n - p - 1) bs ≡ onward left (p + n)
  behind left p n b bs h some =
      let k = p + n - p - 1 in
      let there : p + 1 + k ≡ p + n = omega arith in
      skip_inside left (p + 1) k bs ∙ ap (λ l. from_place left (p + 1 + k) 0 (drop k l)) (sym (shift p b bs h)) ∙ ap (from_place left (p + 1 + k) 0) (drop-drop k (p + 1) text) ∙ ap (onward left) there

  token_turn : (left p : ℕ) (b : ℕ) (bs : List ℕ) (m : Measured) → drop p text ≡ b ∷ bs → Within (b ∷ bs) m → counted left (placed p m) (λ l i. from_place l (p + 1) i bs) ≡ follow left (some_piece (placed p m)) onward
  token_turn left p b bs (Err e) h w = refl
  token_turn zero p b bs (Ok x) h w = refl
  token_turn (suc left) p b bs (Ok x) h w = ap (before _) (behind left p x.1 b bs h w.0)

  walk_on : (left p : ℕ) (b : ℕ) (bs : List ℕ) (t : Bool) → gap b ≡ t → drop p text ≡ b ∷ bs → from_place left (p + 1) 0 bs ≡ follow left (at_place (p + 1 + prefix_len gap bs) (drop (prefix_len gap bs) bs)) onward → from_place left p 0 (b ∷ bs) ≡ follow left (at_place (p + prefix_len gap (b ∷ bs)) (drop (prefix_len gap (b ∷ bs)) (b ∷ bs))) onward
  walk_on left p b bs true e h ih =
      let F : Bool → Result (List Piece) Fault = λ t. elim t [ true ↦ from_place left (p + 1) zero bs | false ↦ counted left (placed p (front_of (b ∷ bs))) (λ l i. from_place l (p + 1) i bs) ] in
      let n = prefix_len gap bs in
      let one : 1 + n ≡ suc n = omega arith in
      let long : prefix_len gap (b ∷ bs) ≡ suc n = cond-true (gap b) _ _ e ∙ one in
      let on : p + 1 + n ≡ p + suc n = omega arith in
      ap F e ∙ ih ∙ ap (λ q. follow left (at_place q (drop n bs)) onward) on ∙ ap (λ k. follow left (at_place (p + k) (drop k (b ∷ bs))) onward) (sym long)
  walk_on left p b bs false e h ih =
      let F : Bool → Result (List Piece) Fault = λ t. elim t [ true ↦ from_place left (p + 1) zero bs | false ↦ counted left (placed p (front_of (b ∷ bs))) (λ l i. from_place l (p + 1) i bs) ] in
      let none : prefix_len gap (b ∷ bs) ≡ 0 = cond-false (gap b) _ _ e in
      ap F e ∙ token_turn left p b bs (front_of (b ∷ bs)) h (front_within (b ∷ bs)) ∙ ap (λ q. follow left (at_place q (b ∷ bs)) onward) (sym (add-zero p)) ∙ ap (λ k. follow left (at_place (p + k) (drop k (b ∷ bs))) onward) (sym none)

  walk : (left p : ℕ) (bs : List ℕ) → drop p text ≡ bs → from_place left p 0 bs ≡ follow left (at_place (p + prefix_len gap bs) (drop (prefix_len gap bs) bs)) onward
  walk left p [] h = refl
  walk left p (b ∷ bs) h = walk_on left p b bs (gap b) refl h (walk left (p + 1) bs (shift p b bs h))

  pub step : (left from : ℕ) → onward left from ≡ follow left (next text from) onward
  step left from = walk left from (drop from text) refl ∙ ap (λ l. follow left (at_place (from + prefix_len gap (drop from text)) l) onward) (drop-drop (prefix_len gap (drop from text)) from text)

-- A count goes on where it stands.
abbrev pub added : ℕ → Result (List Piece) Fault → Result ℕ Fault
added n (Ok xs) = Ok (n + length xs)
added n (Err e) = Err e

added_before : (n : ℕ) (x : Piece) (r : Result (List Piece) Fault) → added n (before x r) ≡ added (n + 1) r
added_before n x (Ok xs) = let on : n + suc (length xs) ≡ n + 1 + length xs = omega arith in ap Ok on
added_before n x (Err e) = refl

-- The tokens that come from an iterator on, by what it gives and where that leaves it.
abbrev pub coming : Tokens → ℕ → Result (List Piece) Fault
coming s left = onward s.text.now left s.from

abbrev pub came : Option (Result Found Fault) → (ℕ → Result (List Piece) Fault) → ℕ → Result (List Piece) Fault
came None others left = Ok []
came (Some (Err e)) others left = Err e
came (Some (Ok f)) others zero = Err (record { cause = Count; place = f.place })
came (Some (Ok f)) others (suc left) = before (piece_of f) (others left)

pub coming_is : (s t : Tokens) (r : Option (Result Found Fault)) → Gives s r t → (left : ℕ) → coming s left ≡ came r (coming t) left
coming_is s t None g left = step s.text.now left s.from ∙ ap (λ x. follow left x (onward s.text.now)) g.1
coming_is s t (Some (Err e)) g left = step s.text.now left s.from ∙ ap (λ x. follow left x (onward s.text.now)) g.1
coming_is s t (Some (Ok f)) g zero = step s.text.now zero s.from ∙ ap (λ x. follow zero x (onward s.text.now)) g.1
coming_is s t (Some (Ok f)) g (suc left) = step s.text.now (suc left) s.from ∙ ap (λ x. follow (suc left) x (onward s.text.now)) g.1 ∙ ap₂ (λ x p. before (piece_of f) (onward x left p)) (sym g.0) (sym g.2)

-- The turns of a count of a text's tokens, so many of which may come.
module _ (s t : Tokens) (r : Option (Result Found Fault)) (gives : Gives s r t) (limit count : ℕ) (goal : Result ℕ Fault) (so_far : added count (coming s (limit - count)) ≡ goal) where
  turn : (q : Option (Result Found Fault)) → r ≡ q → added count (came q (coming t) (limit - count)) ≡ goal
  turn q e = ap (λ x. added count (came x (coming t) (limit - count))) (sym e) ∙ ap (added count) (sym (coming_is s t r gives (limit - count))) ∙ so_far

  pub at_end : r ≡ None → Ok count ≡ goal
  at_end e = ap Ok (sym (add-zero count)) ∙ turn None e

  pub at_fault : (f : Fault) → r ≡ Some (Err f) → Err f ≡ goal
  at_fault f e = turn (Some (Err f)) e

  pub at_limit : (f : Found) → r ≡ Some (Ok f) → count ≡ limit → Err (record { cause = Count; place = f.place }) ≡ goal
  at_limit f e same =
      let none : limit - count ≡ 0 = omega arith in
      ap (λ l. added count (came (Some (Ok f)) (coming t) l)) (sym none) ∙ turn (Some (Ok f)) e

  pub at_token : (f : Found) → r ≡ Some (Ok f) → count < limit → added (count + 1) (coming t (limit - (count + 1))) ≡ goal
  at_token f e below =
      let some : suc (limit - (count + 1)) ≡ limit - count = omega arith in
      sym (added_before count (piece_of f) (coming t (limit - (count + 1)))) ∙ ap (λ l. added count (came (Some (Ok f)) (coming t) l)) some ∙ turn (Some (Ok f)) e

-- A token ends behind where it was looked for, and within the text. A fault is found before the end.
abbrev pub Forward : List ℕ → ℕ → Result (Option Piece) Fault → Type 0
Forward text from (Ok (Some x)) = (from < x.end) × (x.end ≤ length text)
Forward text from (Ok None) = Unit {0}
Forward text from (Err e) = from < length text

placed_forward : (text : List ℕ) (from p b : ℕ) (bs : List ℕ) (m : Measured) → from ≤ p → length (b ∷ bs) + p ≤ length text → Within (b ∷ bs) m → Forward text from (some_piece (placed p m))
placed_forward text from p b bs (Ok x) h k w = (omega (arith, w.0), omega (arith, w.1))
placed_forward text from p b bs (Err e) h k w = omega arith

at_forward : (text : List ℕ) (from p : ℕ) (bs : List ℕ) → from ≤ p → length bs ≡ length text - p → Forward text from (at_place p bs)
at_forward text from p [] h k = tt
at_forward text from p (b ∷ bs) h k = placed_forward text from p b bs (front_of (b ∷ bs)) h (omega arith) (front_within (b ∷ bs))

pub next_forward : (text : List ℕ) (from : ℕ) → Forward text from (next text from)
next_forward text from = at_forward text from (from + prefix_len gap (drop from text)) _ (omega arith) (length-drop _ text)

-- With each item, less of the text is left.
pub comes_on : (s t : Tokens) (r : Option (Result Found Fault)) → Gives s r t → OnSome r (length t.text.now - t.from < length s.text.now - s.from)
comes_on s t None g = tt
comes_on s t (Some (Ok f)) g = let on = subst (Forward s.text.now s.from) g.1 (next_forward s.text.now s.from) in omega (arith, on.0, on.1, g.2, ap length g.0)
comes_on s t (Some (Err e)) g = let on = subst (Forward s.text.now s.from) g.1 (next_forward s.text.now s.from) in omega (arith, on, g.2, ap length g.0)
