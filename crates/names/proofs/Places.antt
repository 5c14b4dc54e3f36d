-- Each number means what it says. Assumes nothing.
use Rattle.std.proofs.Common.{◌≡◌, ℕ, zero, suc, ◌+◌, ◌<◌, ◌≤◌, Bool, true, false, cond, eqb, leb, ◌≢◌, ◌⊎◌, List, [], ◌∷◌, ◌++◌, map, length, Some, None, Option, sym, refl, ap, ◌∙◌, subst, inl, inr, ⊎_elim, arith}
use Rattle.std.specs.List.{slice_get}
use Rattle.std.proofs.lemmas.Bool.{leb-true, leb-false, le-leb, lt-leb, eq-eqb, ne_eqb, and_cases, and_left, and_right, cond-true, cond-false}
use Rattle.language.specs.Tree.{Name, Expr, number, variable, call, unary, binary, assign, brackets, Indices, Args, Variable, Function, Sheet}
use Rattle.language.specs.Resolved.{Routine}
use Rattle.language.specs.Scope.{same, cells_of, Slot, Thing, variable_at, function_at, own, looked_up, count}
use Rattle.language.specs.Scoping.{offset_of}
use Rattle.language.proofs.Scopes.{scoping}
use Rattle.translation.specs.Translation.{code, need}
use Rattle.names.specs.Questions.{parts_statements, gathered, unless, in_bodies, is_variable, left_at, Declaration, of_variable, of_function, on_the_sheet, in_function, new, again, depth, indexed, callable, used_at, agrees, counted_at, at_most, passing, sized, empties, excesses_in, lefts, repeats, misused, miscounted, excesses, name_rules, name_faults, needy, code_rules, code_faults}
use Rattle.names.specs.Laws.{Among, Stands, Second, Passes, Empty, Eight, Nine, Ten, Eleven, Twelve, Thirteen, Fourteen, NoOthers}
use Rattle.names.proofs.Members.{torn, among_split, among_left, among_right, from_gathered, to_gathered, from_unless, to_unless, from_faults, to_faults, faults_number}
use Rattle.names.proofs.Resolving.{clash}

-- Of the rules only one has a number.
alone : (xs : List ℕ) (p : ℕ) → Among p (xs ++ []) → Among p xs
alone xs p h = ⊎_elim (λ a. a) (λ b. absurd b) (among_split xs [] p h)

module _ (s : Sheet) (at : List Variable → Expr → List ℕ) (p : ℕ) where
  from_bodies : Among p (in_bodies s at) → (f : Function) × (e : Expr) × Stands s f e × Among p (at (own f) e)
  from_bodies h =
      let a = from_gathered (λ f. gathered (at (own f)) (parts_statements f.body)) s.functions p h in
      let b = from_gathered (at (own a.0)) (parts_statements a.0.body) p a.2 in
      (a.0, b.0, (a.1, b.1), b.2)

  to_bodies : (f : Function) (e : Expr) → Stands s f e → Among p (at (own f) e) → Among p (in_bodies s at)
  to_bodies f e stands h =
      to_gathered (λ f. gathered (at (own f)) (parts_statements f.body)) s.functions f p stands.0
      (to_gathered (at (own f)) (parts_statements f.body) e p stands.1 h)

-- 8
variable_left : (l : Expr) → is_variable l ≡ false → (q : ℕ) (x : Name) (is : Indices) → l ≢ variable q x is
variable_left l not q x is e = torn (is_variable l) not (ap is_variable e)

other_left : (l : Expr) → ((q : ℕ) (x : Name) (is : Indices) → l ≢ variable q x is) → is_variable l ≡ false
other_left (number n) h = refl
other_left (variable q x is) h = absurd (h q x is refl)
other_left (call p x q es) h = refl
other_left (unary g p e) h = refl
other_left (binary o p l r) h = refl
other_left (assign p l r) h = refl
other_left (brackets e) h = refl

from_left : (e : Expr) (p : ℕ) → Among p (left_at e) → (l : Expr) × (r : Expr) × (e ≡ assign p l r) × ((q : ℕ) (x : Name) (is : Indices) → l ≢ variable q x is)
from_left (number n) p h = absurd h
from_left (variable q x is) p h = absurd h
from_left (call q x k es) p h = absurd h
from_left (unary g q e) p h = absurd h
from_left (binary o q l r) p h = absurd h
from_left (assign q l r) p h =
    let a = from_unless (is_variable l) q p h in
    (l, r, ap (λ z. assign z l r) (sym a.1), variable_left l a.0)
from_left (brackets e) p h = absurd h

pub eight : Eight
eight s p = (from, to)
  where
    from : Among (p, 8) (name_faults s) → (f : Function) × (l : Expr) × (r : Expr) × Stands s f (assign p l r) × ((q : ℕ) (x : Name) (is : Indices) → l ≢ variable q x is)
    from h =
        let a = from_bodies s (λ vs e. left_at e) p (alone (lefts s) p (from_faults (name_rules s) p 8 h)) in
        let b = from_left a.1 p a.3 in
        (a.0, b.0, b.1, subst (Stands s a.0) b.2 a.2, b.3)

    to : (f : Function) × (l : Expr) × (r : Expr) × Stands s f (assign p l r) × ((q : ℕ) (x : Name) (is : Indices) → l ≢ variable q x is) → Among (p, 8) (name_faults s)
    to h = to_faults (name_rules s) p 8 (among_left (lefts s) [] p (to_bodies s (λ vs e. left_at e) p h.0 (assign p h.1 h.2) h.3 (to_unless (is_variable h.1) p p (other_left h.1 h.4) refl)))

-- 10
from_used : (s : Sheet) (vs : List Variable) (e : Expr) (p : ℕ) → Among p (used_at s vs e) → (x : Name) × (((is : Indices) × (e ≡ variable p x is) × (indexed (depth is) (looked_up s vs x) ≡ false)) ⊎ ((q : ℕ) × (es : Args) × (e ≡ call p x q es) × (callable (looked_up s vs x) ≡ false)))
from_used s vs (number n) p h = absurd h
from_used s vs (variable q x is) p h =
    let a = from_unless (indexed (depth is) (looked_up s vs x)) q p h in
    (x, inl (is, ap (λ z. variable z x is) (sym a.1), a.0))
from_used s vs (call q x k es) p h =
    let a = from_unless (callable (looked_up s vs x)) q p h in
    (x, inr (k, es, ap (λ z. call z x k es) (sym a.1), a.0))
from_used s vs (unary g q e) p h = absurd h
from_used s vs (binary o q l r) p h = absurd h
from_used s vs (assign q l r) p h = absurd h
from_used s vs (brackets e) p h = absurd h

indexed_not : (n : ℕ) (o : Option Thing) → indexed n o ≡ false → (v : Slot) → o ≡ Some (variable_at v) → n ≢ length v.sizes
indexed_not n o not v is e = torn (indexed n o) not (ap (indexed n) is ∙ eq-eqb n (length v.sizes) e)

not_indexed : (n : ℕ) (o : Option Thing) → ((v : Slot) → o ≡ Some (variable_at v) → n ≢ length v.sizes) → indexed n o ≡ false
not_indexed n (Some (variable_at v)) h = ne_eqb n (length v.sizes) (h v refl)
not_indexed n (Some (function_at f k)) h = refl
not_indexed n None h = refl

not_callable : (o : Option Thing) → ((i k : ℕ) → o ≢ Some (function_at i k)) → callable o ≡ false
not_callable (Some (variable_at v)) h = refl
not_callable (Some (function_at f k)) h = absurd (h f k refl)
not_callable None h = refl

abbrev Misused : Sheet → ℕ → Type 0
Misused s p = (f : Function) × (x : Name) × (((is : Indices) × Stands s f (variable p x is) × ((v : Slot) → looked_up s (own f) x ≡ Some (variable_at v) → depth is ≢ length v.sizes)) ⊎ ((q : ℕ) × (es : Args) × Stands s f (call p x q es) × ((i k : ℕ) → looked_up s (own f) x ≢ Some (function_at i k))))

pub ten : Ten
ten s p = (from, to)
  where
    from : Among (p, 10) (name_faults s) → Misused s p
    from h =
        let a = from_bodies s (used_at s) p (alone (misused s) p (from_faults (name_rules s) p 10 h)) in
        let b = from_used s (own a.0) a.1 p a.3 in
        let o = looked_up s (own a.0) b.0 in (
          a.0,
          b.0,
          ⊎_elim
              (λ c. inl (c.0, subst (Stands s a.0) c.1 a.2, indexed_not (depth c.0) o c.2))
              (λ c. inr (c.0, c.1, subst (Stands s a.0) c.2 a.2, λ i k is. torn (callable o) c.3 (ap callable is)))
              b.1,
        )

    to : Misused s p → Among (p, 10) (name_faults s)
    to h =
        let o = looked_up s (own h.0) h.1 in
        to_faults (name_rules s) p 10 (among_left (misused s) [] p (⊎_elim
        (λ c. to_bodies s (used_at s) p h.0 (variable p h.1 c.0) c.1 (to_unless (indexed (depth c.0) o) p p (not_indexed (depth c.0) o c.2) refl))
        (λ c. to_bodies s (used_at s) p h.0 (call p h.1 c.0 c.1) c.2 (to_unless (callable o) p p (not_callable o c.3) refl))
        h.2))

-- 11
agrees_not : (n : ℕ) (o : Option Thing) → agrees n o ≡ false → (i : ℕ) × (k : ℕ) × (o ≡ Some (function_at i k)) × (n ≢ k)
agrees_not n (Some (variable_at v)) not = torn true not refl
agrees_not n (Some (function_at f k)) not = (f, k, refl, λ e. torn (eqb n k) not (eq-eqb n k e))
agrees_not n None not = torn true not refl

from_counted : (s : Sheet) (vs : List Variable) (e : Expr) (q : ℕ) → Among q (counted_at s vs e) → (p : ℕ) × (x : Name) × (es : Args) × (e ≡ call p x q es) × (agrees (count es) (looked_up s vs x) ≡ false)
from_counted s vs (number n) q h = absurd h
from_counted s vs (variable p x is) q h = absurd h
from_counted s vs (call p x k es) q h =
    let a = from_unless (agrees (count es) (looked_up s vs x)) k q h in
    (p, x, es, ap (λ z. call p x z es) (sym a.1), a.0)
from_counted s vs (unary g p e) q h = absurd h
from_counted s vs (binary o p l r) q h = absurd h
from_counted s vs (assign p l r) q h = absurd h
from_counted s vs (brackets e) q h = absurd h

abbrev Miscounted : Sheet → ℕ → Type 0
Miscounted s q = (f : Function) × (p : ℕ) × (x : Name) × (es : Args) × (i : ℕ) × (k : ℕ) × Stands s f (call p x q es) × (looked_up s (own f) x ≡ Some (function_at i k)) × (count es ≢ k)

pub eleven : Eleven
eleven s q = (from, to)
  where
    from : Among (q, 11) (name_faults s) → Miscounted s q
    from h =
        let a = from_bodies s (counted_at s) q (alone (miscounted s) q (from_faults (name_rules s) q 11 h)) in
        let b = from_counted s (own a.0) a.1 q a.3 in
        let c = agrees_not (count b.2) (looked_up s (own a.0) b.1) b.4 in
        (a.0, b.0, b.1, b.2, c.0, c.1, subst (Stands s a.0) b.3 a.2, c.2, c.3)

    to : Miscounted s q → Among (q, 11) (name_faults s)
    to h =
        let n = count h.3 in
        to_faults (name_rules s) q 11 (among_left (miscounted s) [] q (to_bodies s (counted_at s) q h.0 (call h.1 h.2 q h.3) h.6
        (to_unless (agrees n (looked_up s (own h.0) h.2)) q q (ap (agrees n) h.7 ∙ ne_eqb n h.5 h.8) refl)))

-- 9
new_not : (x : Name) (ds : List Declaration) → new x ds ≡ false → (d : Declaration) × Among d ds × (d.1 ≡ x)
new_not x [] not = torn true not refl
new_not x (d ∷ ds) not = go (new_not x ds) (same x d.1) refl not
  where
    go : (new x ds ≡ false → (c : Declaration) × Among c ds × (c.1 ≡ x)) → (b : Bool) → same x d.1 ≡ b → cond b false (new x ds) ≡ false → (c : Declaration) × Among c (d ∷ ds) × (c.1 ≡ x)
    go rest true test is = (d, inl refl, sym ((scoping.names x d.1).0 test))
    go rest false test is = let r = rest is in (r.0, inr r.1, r.2)

not_new : (x : Name) (ds : List Declaration) (d : Declaration) → Among d ds → d.1 ≡ x → new x ds ≡ false
not_new x [] d a e = absurd a
not_new x (c ∷ ds) d (inl is) e = cond-true (same x c.1) false (new x ds) ((scoping.names x c.1).1 (sym (ap (λ z. z.1) (sym is) ∙ e)))
not_new x (c ∷ ds) d (inr a) e = go (not_new x ds d a e) (same x c.1)
  where
    go : new x ds ≡ false → (b : Bool) → cond b false (new x ds) ≡ false
    go rest true = refl
    go rest false = rest

-- A declaration there has the name of one before it, in the list or ahead of the list.
abbrev Behind : List Declaration → List Declaration → ℕ → Type 0
Behind before ds p = (j : ℕ) × (e : Declaration) × (d : Declaration) × (slice_get ds j ≡ Some e) × (e.0 ≡ p) × (d.1 ≡ e.1) × (Among d before ⊎ ((i : ℕ) × (i < j) × (slice_get ds i ≡ Some d)))

from_again : (before ds : List Declaration) (p : ℕ) → Among p (again before ds) → Behind before ds p
from_again before [] p h = absurd h
from_again before (d ∷ ds) p h = ⊎_elim here (λ a. later (from_again (d ∷ before) ds p a)) (among_split (unless (new d.1 before) d.0) (again (d ∷ before) ds) p h)
  where
    here : Among p (unless (new d.1 before) d.0) → Behind before (d ∷ ds) p
    here h =
        let a = from_unless (new d.1 before) d.0 p h in
        let b = new_not d.1 before a.0 in
        (0, d, b.0, refl, sym a.1, b.2, inl b.1)

    moved : (j : ℕ) (c : Declaration) → Among c (d ∷ before) ⊎ ((i : ℕ) × (i < j) × (slice_get ds i ≡ Some c)) → Among c before ⊎ ((i : ℕ) × (i < suc j) × (slice_get (d ∷ ds) i ≡ Some c))
    moved j c (inl (inl e)) = inr (0, omega arith, ap Some (sym e))
    moved j c (inl (inr a)) = inl a
    moved j c (inr r) = inr (suc r.0, omega (arith, r.1), r.2)

    later : Behind (d ∷ before) ds p → Behind before (d ∷ ds) p
    later r = (suc r.0, r.1, r.2, r.3, r.4, r.5, moved r.0 r.2 r.6)

to_again : (before ds : List Declaration) (p j : ℕ) (e d : Declaration) → slice_get ds j ≡ Some e → e.0 ≡ p → d.1 ≡ e.1 → Among d before ⊎ ((i : ℕ) × (i < j) × (slice_get ds i ≡ Some d)) → Among p (again before ds)
to_again before [] p j e d at place named w = clash e at
to_again before (c ∷ ds) p zero e d at place named w =
    let is : c ≡ e = cc in
    among_left (unless (new c.1 before) c.0) (again (c ∷ before) ds) p
    (to_unless (new c.1 before) c.0 p (⊎_elim (λ a. not_new c.1 before d a (named ∙ ap (λ z. z.1) (sym is))) (λ r. absurd (omega (arith, r.1))) w) (sym place ∙ ap (λ z. z.0) (sym is)))
to_again before (c ∷ ds) p (suc j) e d at place named w =
    among_right (unless (new c.1 before) c.0) (again (c ∷ before) ds) p (to_again (c ∷ before) ds p j e d at place named (moved w))
  where
    earlier : (i : ℕ) → i < suc j → slice_get (c ∷ ds) i ≡ Some d → Among d (c ∷ before) ⊎ ((i : ℕ) × (i < j) × (slice_get ds i ≡ Some d))
    earlier zero low is = inl (inl (let e : d ≡ c = cc in e))
    earlier (suc i) low is = inr (i, omega arith, is)

    moved : Among d before ⊎ ((i : ℕ) × (i < suc j) × (slice_get (c ∷ ds) i ≡ Some d)) → Among d (c ∷ before) ⊎ ((i : ℕ) × (i < j) × (slice_get ds i ≡ Some d))
    moved (inl a) = inl (inr a)
    moved (inr r) = earlier r.0 r.1 r.2

pub from_second : (ds : List Declaration) (p : ℕ) → Among p (again [] ds) → Second ds p
from_second ds p h = let r = from_again [] ds p h in ⊎_elim (λ a. absurd a) (λ w. (w.0, r.0, r.2, r.1, w.1, w.2, r.3, r.5, r.4)) r.6

pub to_second : (ds : List Declaration) (p : ℕ) → Second ds p → Among p (again [] ds)
to_second ds p h = to_again [] ds p h.1 h.3 h.2 h.6 h.8 h.7 (inr (h.0, h.4, h.5))

pub nine : Nine
nine s p = (from, to)
  where
    from : Among (p, 9) (name_faults s) → Second (on_the_sheet s) p ⊎ ((f : Function) × Among f s.functions × Second (in_function f) p)
    from h = ⊎_elim
        (λ a. inl (from_second (on_the_sheet s) p a))
        (λ b. let r = from_gathered (λ f. again [] (in_function f)) s.functions p b in inr (r.0, r.1, from_second (in_function r.0) p r.2))
        (among_split (again [] (on_the_sheet s)) (gathered (λ f. again [] (in_function f)) s.functions) p (alone (repeats s) p (from_faults (name_rules s) p 9 h)))

    to : Second (on_the_sheet s) p ⊎ ((f : Function) × Among f s.functions × Second (in_function f) p) → Among (p, 9) (name_faults s)
    to h = to_faults (name_rules s) p 9 (among_left (repeats s) [] p (⊎_elim
        (λ a. among_left (again [] (on_the_sheet s)) (gathered (λ f. again [] (in_function f)) s.functions) p (to_second (on_the_sheet s) p a))
        (λ b. among_right (again [] (on_the_sheet s)) (gathered (λ f. again [] (in_function f)) s.functions) p (to_gathered (λ f. again [] (in_function f)) s.functions b.0 p b.1 (to_second (in_function b.0) p b.2)))
        h))

-- 12
module _ {X : Type 0} (declaration : X → Declaration) where
  from_most : (n : ℕ) (xs : List X) (p : ℕ) → Among p (at_most n (map declaration xs)) → (x : X) × (slice_get xs n ≡ Some x) × ((declaration x).0 ≡ p)
  from_most n [] p h = absurd h
  from_most zero (x ∷ xs) p h = ⊎_elim (λ e. (x, refl, sym e)) (λ a. absurd a) h
  from_most (suc n) (x ∷ xs) p h = from_most n xs p h

  to_most : (n : ℕ) (xs : List X) (p : ℕ) (x : X) → slice_get xs n ≡ Some x → (declaration x).0 ≡ p → Among p (at_most n (map declaration xs))
  to_most n [] p x at is = clash x at
  to_most zero (y ∷ xs) p x at is = inl (sym (ap (λ z. (declaration z).0) (let e : y ≡ x = cc in e) ∙ is))
  to_most (suc n) (y ∷ xs) p x at is = to_most n xs p x at is

-- with cells ahead of the variables
abbrev PassesFrom : ℕ → ℕ → List Variable → ℕ → Type 0
PassesFrom limit at vs p = (i : ℕ) × (v : Variable) × (slice_get vs i ≡ Some v) × (v.place ≡ p) × (at + offset_of vs i ≤ limit) × (limit < at + offset_of vs i + cells_of v.sizes)

from_passing : (limit at : ℕ) (vs : List Variable) (p : ℕ) → at ≤ limit → Among p (passing limit at vs) → PassesFrom limit at vs p
from_passing limit at [] p low h = absurd h
from_passing limit at (v ∷ vs) p low h = go (from_passing limit (at + cells_of v.sizes) vs p) (leb (at + cells_of v.sizes) limit) refl h
  where
    go : (at + cells_of v.sizes ≤ limit → Among p (passing limit (at + cells_of v.sizes) vs) → PassesFrom limit (at + cells_of v.sizes) vs p) → (b : Bool) → leb (at + cells_of v.sizes) limit ≡ b → Among p (cond b (passing limit (at + cells_of v.sizes) vs) (v.place ∷ [])) → PassesFrom limit at (v ∷ vs) p
    go rest true test a =
        let r = rest (leb-true (at + cells_of v.sizes) limit test) a in
        (suc r.0, r.1, r.2, r.3, omega (arith, r.4), omega (arith, r.5))
    go rest false test a = (0, v, refl, ⊎_elim (λ e. sym e) (λ z. absurd z) a, omega arith, omega (arith, leb-false (at + cells_of v.sizes) limit test))

to_passing : (limit at : ℕ) (vs : List Variable) (p i : ℕ) (v : Variable) → slice_get vs i ≡ Some v → v.place ≡ p → at + offset_of vs i ≤ limit → limit < at + offset_of vs i + cells_of v.sizes → Among p (passing limit at vs)
to_passing limit at [] p i v is place low high = clash v is
to_passing limit at (w ∷ vs) p zero v is place low high =
    let e : w ≡ v = cc in
    let past : limit < at + cells_of w.sizes = omega (arith, ap (λ u. cells_of u.sizes) e) in
    subst (Among p) (sym (cond-false (leb (at + cells_of w.sizes) limit) (passing limit (at + cells_of w.sizes) vs) (w.place ∷ []) (lt-leb (at + cells_of w.sizes) limit past))) (inl (sym (ap (λ u. u.place) e ∙ place)))
to_passing limit at (w ∷ vs) p (suc i) v is place low high =
    let kept : at + cells_of w.sizes ≤ limit = omega arith in
    subst (Among p) (sym (cond-true (leb (at + cells_of w.sizes) limit) (passing limit (at + cells_of w.sizes) vs) (w.place ∷ []) (le-leb (at + cells_of w.sizes) limit kept)))
    (to_passing limit (at + cells_of w.sizes) vs p i v is place (omega arith) (omega arith))

sized_not : (ns : List ℕ) → sized ns ≡ false → Among 0 ns
sized_not [] not = torn true not refl
sized_not (n ∷ ns) not = ⊎_elim (λ a. inl (let e : 0 ≡ n = omega (arith, leb-false 1 n a) in e)) (λ b. inr (sized_not ns b)) (and_cases (leb 1 n) (sized ns) not)

not_sized : (ns : List ℕ) → Among 0 ns → sized ns ≡ false
not_sized [] a = absurd a
not_sized (n ∷ ns) (inl e) = and_left (leb 1 n) (sized ns) (lt-leb 1 n (omega arith))
not_sized (n ∷ ns) (inr a) = and_right (leb 1 n) (sized ns) (not_sized ns a)

-- the excesses of some declarations: the n-th, a variable that passes a limit, an array of 0
module _ {X : Type 0} (declaration : X → Declaration) (n : ℕ) (xs : List X) (limit : ℕ) (vs : List Variable) (p : ℕ) where
  abbrev Exceeds : Type 0
  Exceeds = ((x : X) × (slice_get xs n ≡ Some x) × ((declaration x).0 ≡ p)) ⊎ (Passes limit vs p ⊎ Empty vs p)

  from_excess : Among p (at_most n (map declaration xs) ++ (passing limit 0 vs ++ empties vs)) → Exceeds
  from_excess h = ⊎_elim
      (λ a. inl (from_most declaration n xs p a))
      (λ b. inr (⊎_elim
      (λ c. let r = from_passing limit 0 vs p (omega arith) c in inl (r.0, r.1, r.2, r.3, omega (arith, r.4), omega (arith, r.5)))
      (λ c. let r = from_gathered (λ v. unless (sized v.sizes) v.place) vs p c in
      let u = from_unless (sized r.0.sizes) r.0.place p r.2 in
      inr (r.0, r.1, sym u.1, sized_not r.0.sizes u.0))
      (among_split (passing limit 0 vs) (empties vs) p b)))
      (among_split (at_most n (map declaration xs)) (passing limit 0 vs ++ empties vs) p h)

  to_excess : Exceeds → Among p (at_most n (map declaration xs) ++ (passing limit 0 vs ++ empties vs))
  to_excess (inl h) = among_left (at_most n (map declaration xs)) (passing limit 0 vs ++ empties vs) p (to_most declaration n xs p h.0 h.1 h.2)
  to_excess (inr (inl h)) = among_right (at_most n (map declaration xs)) (passing limit 0 vs ++ empties vs) p (among_left (passing limit 0 vs) (empties vs) p (to_passing limit 0 vs p h.0 h.1 h.2 h.3 (omega (arith, h.4)) (omega (arith, h.5))))
  to_excess (inr (inr h)) = among_right (at_most n (map declaration xs)) (passing limit 0 vs ++ empties vs) p (among_right (passing limit 0 vs) (empties vs) p (to_gathered (λ v. unless (sized v.sizes) v.place) vs h.0 p h.1 (to_unless (sized h.0.sizes) h.0.place p (not_sized h.0.sizes h.3) (sym h.2))))

abbrev Exceeded : Sheet → ℕ → Type 0
Exceeded s p = Exceeds of_function 64 s.functions 512 s.variables p ⊎ ((f : Function) × Among f s.functions × Exceeds of_variable 8 f.parameters 128 f.locals p)

pub twelve : Twelve
twelve s p = (from, to)
  where
    ahead : List ℕ
    ahead = at_most 64 (map of_function s.functions) ++ (passing 512 0 s.variables ++ empties s.variables)

    from : Among (p, 12) (name_faults s) → Exceeded s p
    from h = ⊎_elim
        (λ a. inl (from_excess of_function 64 s.functions 512 s.variables p a))
        (λ b. let r = from_gathered excesses_in s.functions p b in inr (r.0, r.1, from_excess of_variable 8 r.0.parameters 128 r.0.locals p r.2))
        (among_split ahead (gathered excesses_in s.functions) p (alone (excesses s) p (from_faults (name_rules s) p 12 h)))

    to : Exceeded s p → Among (p, 12) (name_faults s)
    to h = to_faults (name_rules s) p 12 (among_left (excesses s) [] p (⊎_elim
        (λ a. among_left ahead (gathered excesses_in s.functions) p (to_excess of_function 64 s.functions 512 s.variables p a))
        (λ b. among_right ahead (gathered excesses_in s.functions) p (to_gathered excesses_in s.functions b.0 p b.1 (to_excess of_variable 8 b.0.parameters 128 b.0.locals p b.2)))
        h))

-- 13 and 14
from_needy : (fs : List Function) (rs : List Routine) (p : ℕ) → Among p (needy fs rs) → (i : ℕ) × (f : Function) × (r : Routine) × (slice_get fs i ≡ Some f) × (slice_get rs i ≡ Some r) × (f.place ≡ p) × (300 < need r)
from_needy [] rs p h = absurd h
from_needy (f ∷ fs) [] p h = absurd h
from_needy (f ∷ fs) (r ∷ rs) p h = ⊎_elim
    (λ a. let u = from_unless (leb (need r) 300) f.place p a in (0, f, r, refl, refl, sym u.1, leb-false (need r) 300 u.0))
    (λ b. let w = from_needy fs rs p b in (suc w.0, w.1, w.2, w.3, w.4, w.5, w.6))
    (among_split (unless (leb (need r) 300) f.place) (needy fs rs) p h)

to_needy : (fs : List Function) (rs : List Routine) (p i : ℕ) (f : Function) (r : Routine) → slice_get fs i ≡ Some f → slice_get rs i ≡ Some r → f.place ≡ p → 300 < need r → Among p (needy fs rs)
to_needy [] rs p i f r at to place more = clash f at
to_needy (g ∷ fs) [] p i f r at to place more = clash r to
to_needy (g ∷ fs) (t ∷ rs) p zero f r at to place more =
    let e : g ≡ f = cc in
    let d : t ≡ r = cc in
    among_left (unless (leb (need t) 300) g.place) (needy fs rs) p (to_unless (leb (need t) 300) g.place p (lt-leb (need t) 300 (subst (λ u. 300 < need u) (sym d) more)) (sym (ap (λ u. u.place) e ∙ place)))
to_needy (g ∷ fs) (t ∷ rs) p (suc i) f r at to place more = among_right (unless (leb (need t) 300) g.place) (needy fs rs) p (to_needy fs rs p i f r at to place more)

pub thirteen : Thirteen
thirteen s n q p = (
  λ h. from_needy s.functions q.routines p (alone (needy s.functions q.routines) p (from_faults (code_rules s n q) p 13 h)),
  λ h. to_faults (code_rules s n q) p 13 (among_left (needy s.functions q.routines) [] p (to_needy s.functions q.routines p h.0 h.1 h.2 h.3 h.4 h.5 h.6)),
)

pub fourteen : Fourteen
fourteen s n q p = (from, to)
  where
    from : Among (p, 14) (code_faults s n q) → (p ≡ n) × (16384 < length (code q))
    from h =
        let u = from_unless (leb (length (code q)) 16384) n p (alone (unless (leb (length (code q)) 16384) n) p (from_faults (code_rules s n q) p 14 h)) in
        (u.1, leb-false (length (code q)) 16384 u.0)

    to : (p ≡ n) × (16384 < length (code q)) → Among (p, 14) (code_faults s n q)
    to h = to_faults (code_rules s n q) p 14 (among_left (unless (leb (length (code q)) 16384) n) [] p (to_unless (leb (length (code q)) 16384) n p (lt-leb (length (code q)) 16384 h.1) h.0))

pub no_others : NoOthers
no_others = (
  λ s p k. faults_number (λ m. (8 ≤ m) × (m ≤ 12)) (name_rules s) p k ((omega arith, omega arith), ((omega arith, omega arith), ((omega arith, omega arith), ((omega arith, omega arith), ((omega arith, omega arith), tt))))),
  λ s n q p k. faults_number (λ m. (13 ≤ m) × (m ≤ 14)) (code_rules s n q) p k ((omega arith, omega arith), ((omega arith, omega arith), tt)),
)
