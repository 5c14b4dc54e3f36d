-- Cutting at a byte, and lines by it. Assumes nothing.
use Rattle.std.proofs.Common.{◌≡◌, ℕ, suc, ◌+◌, ◌<◌, Bool, true, false, eqb, List, [], ◌∷◌, length, take, drop, IfSome, Some, None, Option, sym, refl, ap, ◌∙◌, subst, arith, Bor}
use Rattle.std.specs.Bool.{◌==◌}
use Rattle.std.specs.List.{position, position_from}
use Rattle.std.specs.Option.{option_map, unwrap_or}
use Rattle.std.proofs.lemmas.Iterator.Adapters.{position_from-zero}
use Rattle.wording.specs.Pieces.{cut, begin, lines, held}

one_more : (n : ℕ) → 1 + n ≡ suc n
one_more n = omega arith

-- a place that is looked for from 1 on
pub place_later : {X : Type 0} (test : X → Bool) (xs : List X) (i : ℕ) → position_from test (i + 1) xs ≡ option_map suc (position_from test i xs)
place_later test [] i = refl
place_later test (x ∷ xs) i = by (test x) refl (place_later test xs (i + 1))
  where
    by : (v : Bool) → test x ≡ v → position_from test (i + 1 + 1) xs ≡ option_map suc (position_from test (i + 1) xs) → position_from test (i + 1) (x ∷ xs) ≡ option_map suc (position_from test i (x ∷ xs))
    by true e h = rw e (ap Some (omega arith))
    by false e h = rw e h

abbrev pub parts : List ℕ → Option ℕ → Option (List ℕ × List ℕ)
parts bs o = option_map (λ i. (take i bs, drop (i + 1) bs)) o

parts_later : (b : ℕ) (bs : List ℕ) (o : Option ℕ) → option_map (λ p. (b ∷ p.0, p.1)) (parts bs o) ≡ parts (b ∷ bs) (option_map suc o)
parts_later b bs None = refl
parts_later b bs (Some i) = let e : suc i + 1 ≡ suc (i + 1) = omega arith in rw e refl

cut_from : (c : ℕ) (bs : List ℕ) → cut c bs ≡ parts bs (position_from (λ b. b == c) 0 bs)
cut_from c [] = refl
cut_from c (b ∷ bs) = by (b == c) refl (cut_from c bs)
  where
    by : (v : Bool) → (b == c) ≡ v → cut c bs ≡ parts bs (position_from (λ b. b == c) 0 bs) → cut c (b ∷ bs) ≡ parts (b ∷ bs) (position_from (λ b. b == c) 0 (b ∷ bs))
    by true e h = rw e refl
    by false e h = rw e (ap (option_map (λ p. (b ∷ p.0, p.1))) h ∙ parts_later b bs (position_from (λ b. b == c) 0 bs) ∙ ap (parts (b ∷ bs)) (sym (place_later (λ b. b == c) bs 0)))

pub cut_is : (c : ℕ) (bs : List ℕ) (o : Option ℕ) → o ≡ position (λ b. b == c) bs → cut c bs ≡ parts bs o
cut_is c bs o e = cut_from c bs ∙ ap (parts bs) (sym (e ∙ position_from-zero (λ b. b == c) bs))

-- the lines of a text that was cut at its first line feed
abbrev pub lines_at : List ℕ → Option (List ℕ × List ℕ) → List (List ℕ)
lines_at t (Some p) = p.0 ∷ lines p.1
lines_at [] None = []
lines_at (b ∷ bs) None = (b ∷ bs) ∷ []

lines_begun : (b : ℕ) (bs : List ℕ) (o : Option (List ℕ × List ℕ)) → begin b (lines_at bs o) ≡ lines_at (b ∷ bs) (option_map (λ p. (b ∷ p.0, p.1)) o)
lines_begun b bs (Some p) = refl
lines_begun b [] None = refl
lines_begun b (c ∷ cs) None = refl

pub lines_cut : (t : List ℕ) → lines t ≡ lines_at t (cut 10 t)
lines_cut [] = refl
lines_cut (b ∷ bs) = by (eqb b 10) refl (lines_cut bs)
  where
    by : (v : Bool) → eqb b 10 ≡ v → lines bs ≡ lines_at bs (cut 10 bs) → lines (b ∷ bs) ≡ lines_at (b ∷ bs) (cut 10 (b ∷ bs))
    by true e h = rw e refl
    by false e h = rw e (ap (begin b) h ∙ lines_begun b bs (cut 10 bs))

abbrev pub Shorter : List ℕ → Option (List ℕ × List ℕ) → Type 0
Shorter t o = IfSome o (λ p. length p.1 < length t)

shorter_more : (b : ℕ) (bs : List ℕ) (o : Option (List ℕ × List ℕ)) → Shorter bs o → Shorter (b ∷ bs) (option_map (λ p. (b ∷ p.0, p.1)) o)
shorter_more b bs None h = tt
shorter_more b bs (Some p) h = omega arith

pub shorter_cut : (c : ℕ) (t : List ℕ) → Shorter t (cut c t)
shorter_cut c [] = tt
shorter_cut c (b ∷ bs) = by (eqb b c) refl (shorter_cut c bs)
  where
    by : (v : Bool) → eqb b c ≡ v → Shorter bs (cut c bs) → Shorter (b ∷ bs) (cut c (b ∷ bs))
    by true e h = rw e (omega arith)
    by false e h = rw e (shorter_more b bs (cut c bs) h)

-- what stands before and after the first line feed, or the whole text and nothing
abbrev pub IsFirst : List ℕ → Bor (List ℕ) × Bor (List ℕ) → Type 0
IsFirst t p = (lines t ≡ p.0.now ∷ lines p.1.now) × (length p.1.now < length t)

pub last_line : (t : List ℕ) → cut 10 t ≡ None → 0 < length t → lines t ≡ t ∷ []
last_line [] e h = absurd (omega arith)
last_line (b ∷ bs) e h = lines_cut (b ∷ bs) ∙ ap (lines_at (b ∷ bs)) e

pub first_of : (t rest : Bor (List ℕ)) (o : Option (Bor (List ℕ) × Bor (List ℕ))) → 0 < length t.now → rest.now ≡ [] → held o ≡ cut 10 t.now → IsFirst t.now (unwrap_or o (t, rest))
first_of t rest (Some p) h z e = (lines_cut t.now ∙ ap (lines_at t.now) (sym e), subst (Shorter t.now) (sym e) (shorter_cut 10 t.now))
first_of t rest None h z e = rw z (last_line t.now (sym e) h, h)
