-- Members of lists that are put together, and lists that have none. Assumes nothing.
use Rattle.std.proofs.Common.{◌≡◌, ℕ, Bool, true, false, cond, eqb, ◌⊎◌, List, [], ◌∷◌, ◌++◌, sym, refl, ap, subst, inl, inr, ⊎_elim, arith}
use Rattle.std.specs.List.{AllByRecursion}
use Rattle.std.proofs.lemmas.Bool.{eqb-true, eq-eqb, both_ways}
use Rattle.names.specs.Questions.{Fault, Rule, gathered, numbered, faults, unless}
use Rattle.names.specs.Laws.{Among}

pub filled : {X Y : Type 0} (x : X) (xs : List X) → x ∷ xs ≡ [] → Y
filled x xs is = let z : ◌≡◌ {A = ℕ} 0 1 = cc in absurd (omega arith)

pub torn : {Y : Type 0} (b : Bool) → b ≡ false → b ≡ true → Y
torn b is not = absurd (both_ways b is not)

module _ {X : Type 0} where
  pub among_split : (xs ys : List X) (x : X) → Among x (xs ++ ys) → Among x xs ⊎ Among x ys
  among_split [] ys x h = inr h
  among_split (y ∷ xs) ys x (inl e) = inl (inl e)
  among_split (y ∷ xs) ys x (inr h) = ⊎_elim (λ a. inl (inr a)) (λ b. inr b) (among_split xs ys x h)

  pub among_left : (xs ys : List X) (x : X) → Among x xs → Among x (xs ++ ys)
  among_left [] ys x h = absurd h
  among_left (y ∷ xs) ys x (inl e) = inl e
  among_left (y ∷ xs) ys x (inr h) = inr (among_left xs ys x h)

  pub among_right : (xs ys : List X) (x : X) → Among x ys → Among x (xs ++ ys)
  among_right [] ys x h = h
  among_right (y ∷ xs) ys x h = inr (among_right xs ys x h)

  pub none_left : (xs ys : List X) → xs ++ ys ≡ [] → xs ≡ []
  none_left [] ys is = refl
  none_left (x ∷ xs) ys is = filled x (xs ++ ys) is

  pub none_right : (xs ys : List X) → xs ++ ys ≡ [] → ys ≡ []
  none_right [] ys is = is
  none_right (x ∷ xs) ys is = filled x (xs ++ ys) is

  pub none_both : (xs ys : List X) → xs ≡ [] → ys ≡ [] → xs ++ ys ≡ []
  none_both xs ys is are = rw (is, are)

  pub all_split : (P : X → Type 0) (xs ys : List X) → AllByRecursion P (xs ++ ys) → AllByRecursion P xs × AllByRecursion P ys
  all_split P [] ys h = (tt, h)
  all_split P (x ∷ xs) ys h = let r = all_split P xs ys h.1 in ((h.0, r.0), r.1)

  -- a list is empty when nothing is in it
  pub none_among : (xs : List X) (x : X) → xs ≡ [] → Among x xs → ⊥
  none_among [] x is h = h
  none_among (y ∷ xs) x is h = filled y xs is

  pub among_none : (xs : List X) → ((x : X) → Among x xs → ⊥) → xs ≡ []
  among_none [] h = refl
  among_none (x ∷ xs) h = absurd (h x (inl refl))

module _ {X Y : Type 0} (f : X → List Y) where
  pub from_gathered : (xs : List X) (y : Y) → Among y (gathered f xs) → (x : X) × Among x xs × Among y (f x)
  from_gathered [] y h = absurd h
  from_gathered (x ∷ xs) y h = ⊎_elim (λ a. (x, inl refl, a)) (λ b. let r = from_gathered xs y b in (r.0, inr r.1, r.2)) (among_split (f x) (gathered f xs) y h)

  pub to_gathered : (xs : List X) (x : X) (y : Y) → Among x xs → Among y (f x) → Among y (gathered f xs)
  to_gathered [] x y a h = absurd a
  to_gathered (z ∷ xs) x y (inl e) h = among_left (f z) (gathered f xs) y (subst (λ w. Among y (f w)) e h)
  to_gathered (z ∷ xs) x y (inr a) h = among_right (f z) (gathered f xs) y (to_gathered xs x y a h)

  pub gathered_none : (xs : List X) → gathered f xs ≡ [] → AllByRecursion (λ x. f x ≡ []) xs
  gathered_none [] is = tt
  gathered_none (x ∷ xs) is = (none_left (f x) (gathered f xs) is, gathered_none xs (none_right (f x) (gathered f xs) is))

  pub none_gathered : (xs : List X) → AllByRecursion (λ x. f x ≡ []) xs → gathered f xs ≡ []
  none_gathered [] h = refl
  none_gathered (x ∷ xs) h = none_both (f x) (gathered f xs) h.0 (none_gathered xs h.1)

pub from_unless : (b : Bool) (q p : ℕ) → Among p (unless b q) → (b ≡ false) × (p ≡ q)
from_unless true q p h = absurd h
from_unless false q p (inl e) = (refl, e)
from_unless false q p (inr h) = absurd h

pub to_unless : (b : Bool) (q p : ℕ) → b ≡ false → p ≡ q → Among p (unless b q)
to_unless true q p is e = torn true is refl
to_unless false q p is e = inl e

pub unless_none : (b : Bool) (p : ℕ) → unless b p ≡ [] → b ≡ true
unless_none true p is = refl
unless_none false p is = filled p [] is

pub none_unless : (b : Bool) (p : ℕ) → b ≡ true → unless b p ≡ []
none_unless true p is = refl
none_unless false p is = torn false refl is

-- the places of the rules that have a number
abbrev pub given : ℕ → List Rule → List ℕ
given n [] = []
given n (r ∷ rs) = cond (eqb n r.0) r.1 [] ++ given n rs

from_numbered : (m : ℕ) (ps : List ℕ) (p n : ℕ) → Among {X = Fault} (p, n) (numbered (m, ps)) → (n ≡ m) × Among p ps
from_numbered m [] p n h = absurd h
from_numbered m (q ∷ ps) p n (inl e) = (ap (λ f. f.1) e, inl (ap (λ f. f.0) e))
from_numbered m (q ∷ ps) p n (inr h) = let r = from_numbered m ps p n h in (r.0, inr r.1)

to_numbered : (m : ℕ) (ps : List ℕ) (p n : ℕ) → n ≡ m → Among p ps → Among {X = Fault} (p, n) (numbered (m, ps))
to_numbered m [] p n is h = absurd h
to_numbered m (q ∷ ps) p n is (inl e) = inl (λ i. (e i, is i))
to_numbered m (q ∷ ps) p n is (inr h) = inr (to_numbered m ps p n is h)

pub from_faults : (rs : List Rule) (p n : ℕ) → Among {X = Fault} (p, n) (faults rs) → Among p (given n rs)
from_faults [] p n h = absurd h
from_faults (r ∷ rs) p n h = ⊎_elim
    (λ a. let b = from_numbered r.0 r.1 p n a in among_left (cond (eqb n r.0) r.1 []) (given n rs) p (rw (eq-eqb n r.0 b.0) b.1))
    (λ b. among_right (cond (eqb n r.0) r.1 []) (given n rs) p (from_faults rs p n b))
    (among_split (numbered r) (faults rs) (p, n) h)

pub to_faults : (rs : List Rule) (p n : ℕ) → Among p (given n rs) → Among {X = Fault} (p, n) (faults rs)
to_faults [] p n h = absurd h
to_faults (r ∷ rs) p n h = ⊎_elim
    (λ a. among_left (numbered r) (faults rs) (p, n) (go (eqb n r.0) refl a))
    (λ b. among_right (numbered r) (faults rs) (p, n) (to_faults rs p n b))
    (among_split (cond (eqb n r.0) r.1 []) (given n rs) p h)
  where
    go : (b : Bool) → eqb n r.0 ≡ b → Among p (cond b r.1 []) → Among {X = Fault} (p, n) (numbered r)
    go true test a = to_numbered r.0 r.1 p n (eqb-true n r.0 test) a
    go false test a = absurd a

-- a fault has the number of a rule
pub faults_number : (P : ℕ → Type 0) (rs : List Rule) (p n : ℕ) → AllByRecursion (λ r. P r.0) rs → Among {X = Fault} (p, n) (faults rs) → P n
faults_number P [] p n h a = absurd a
faults_number P (r ∷ rs) p n h a = ⊎_elim
    (λ b. subst P (sym (from_numbered r.0 r.1 p n b).0) h.0)
    (λ b. faults_number P rs p n h.1 b)
    (among_split (numbered r) (faults rs) (p, n) a)

-- rules without places have no faults
numbered_none : (m : ℕ) (ps : List ℕ) → numbered (m, ps) ≡ [] → ps ≡ []
numbered_none m [] is = refl
numbered_none m (p ∷ ps) is = filled {X = Fault} (p, m) (numbered (m, ps)) is

pub faults_none : (rs : List Rule) → faults rs ≡ [] → AllByRecursion (λ r. r.1 ≡ []) rs
faults_none [] is = tt
faults_none (r ∷ rs) is = (numbered_none r.0 r.1 (none_left (numbered r) (faults rs) is), faults_none rs (none_right (numbered r) (faults rs) is))

pub none_faults : (rs : List Rule) → AllByRecursion (λ r. r.1 ≡ []) rs → faults rs ≡ []
none_faults [] h = refl
none_faults (r ∷ rs) h = rw (h.0, none_faults rs h.1)
