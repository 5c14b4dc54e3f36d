-- The laws of scope. Assumes nothing.
use Rattle.std.proofs.Common.{◌≡◌, ℕ, zero, suc, ◌+◌, ◌*◌, ◌<◌, ◌≤◌, Bool, true, false, eqb, ◌≢◌, ◌⊎◌, List, [], ◌∷◌, length, Some, None, sym, refl, ap, ◌∙◌, subst, inl, inr, ⊎_elim, le_refl, mul-le-mul_right, suc-mul, zero-add, arith}
use Rattle.std.specs.List.{slice_get}
use Rattle.std.proofs.lemmas.Bool.{eqb-true, eq-eqb, and_parts, and_from, both_ways, cases_Bool, cases_order, cond-true, cond-false}
use Rattle.language.specs.Tree.{Name, Variable, Function, Sheet}
use Rattle.language.specs.Resolved.{Region, on_sheet, in_frame}
use Rattle.language.specs.Scope.{same, cells_of, total, find, find_function, variable_at, function_at, looked_up}
use Rattle.language.proofs.Resolution.{element, variable_read, variable_assigned, function_called}
use Rattle.language.specs.Scoping.{First, Declared, Absent, variable_name, function_name, offset_of, slot_in, Below, reached, Scoping}

-- nothing is both None and Some
clash : {X Y : Type 0} (x : X) → None ≡ Some x → Y
clash x is = let z : ◌≡◌ {A = ℕ} 0 1 = cc in absurd (omega arith)

same_equal : (x y : Name) → same x y ≡ true → x ≡ y
same_equal [] [] is = refl
same_equal [] (b ∷ y) is = let z : ◌≡◌ {A = ℕ} 0 1 = cc in absurd (omega arith)
same_equal (a ∷ x) [] is = let z : ◌≡◌ {A = ℕ} 0 1 = cc in absurd (omega arith)
same_equal (a ∷ x) (b ∷ y) is =
    let both = and_parts (eqb a b) (same x y) is in
    let first = eqb-true a b both.0 in
    let rest = same_equal x y both.1 in
    cc

same_self : (x : Name) → same x x ≡ true
same_self [] = refl
same_self (a ∷ x) = and_from (eqb a a) (same x x) (eq-eqb a a refl) (same_self x)

equal_same : (x y : Name) → x ≡ y → same x y ≡ true
equal_same x y is = subst (λ z. same x z ≡ true) is (same_self x)

differ : (x y : Name) → y ≢ x → same x y ≡ false
differ x y not = ⊎_elim (λ t. absurd (not (sym (same_equal x y t)))) (λ f. f) (cases_Bool (same x y))

module _ {X : Type 0} (name : X → Name) (d : X) (ds : List X) (x : Name) where
  first_here : name d ≡ x → First name (d ∷ ds) x 0 d
  first_here is = record { there = refl; named = is; before = λ j e low _. absurd (omega arith) }

  first_next : (i : ℕ) (e : X) → name d ≢ x → First name ds x i e → First name (d ∷ ds) x (suc i) e
  first_next i e not h = record { there = h.there; named = h.named; before = go }
    where
      go : (j : ℕ) (w : X) → j < suc i → slice_get (d ∷ ds) j ≡ Some w → name w ≢ x
      go zero w low at is = not (ap name (let same : d ≡ w = cc in same) ∙ is)
      go (suc j) w low at is = h.before j w (omega arith) at is

  absent_next : name d ≢ x → Absent name ds x → Absent name (d ∷ ds) x
  absent_next not h zero w at is = not (ap name (let same : d ≡ w = cc in same) ∙ is)
  absent_next not h (suc j) w at is = h j w at is

  first_later : (i : ℕ) (e : X) → First name (d ∷ ds) x (suc i) e → First name ds x i e
  first_later i e h = record { there = h.there; named = h.named; before = λ j w low at. h.before (suc j) w (omega arith) at }

  -- how the test of a name goes at a list's head
  passed : (i : ℕ) (e : X) → First name (d ∷ ds) x (suc i) e → same x (name d) ≡ false
  passed i e h = differ x (name d) (h.before 0 d (omega arith) refl)

  stopped : (e : X) → First name (d ∷ ds) x 0 e → same x (name d) ≡ true
  stopped e h = let is : d ≡ e = cc h.there in equal_same x (name d) (sym (ap name is ∙ h.named))

  missed : Absent name (d ∷ ds) x → same x (name d) ≡ false
  missed h = differ x (name d) (h 0 d refl)

declared : {X : Type 0} (name : X → Name) (ds : List X) (x : Name) → Declared name ds x ⊎ Absent name ds x
declared name [] x = inr (λ j e at. clash e at)
declared name (d ∷ ds) x = go (declared name ds x) (same x (name d)) refl
  where
    go : Declared name ds x ⊎ Absent name ds x → (b : Bool) → same x (name d) ≡ b → Declared name (d ∷ ds) x ⊎ Absent name (d ∷ ds) x
    go h true is = inl (0, d, first_here name d ds x (sym (same_equal x (name d) is)))
    go h false is =
        let not : name d ≢ x = λ e. both_ways _ is (equal_same x (name d) (sym e)) in
        ⊎_elim (λ f. inl (suc f.0, f.1, first_next name d ds x f.0 f.1 not f.2)) (λ a. inr (absent_next name d ds x not a)) h

find_first : (r : Region) (at : ℕ) (vs : List Variable) (x : Name) (i : ℕ) (v : Variable) → First variable_name vs x i v → find r at vs x ≡ Some (record { region = r; offset = at + offset_of vs i; sizes = v.sizes })
find_first r at [] x i v h = clash v h.there
find_first r at (w ∷ vs) x zero v h =
    let is : w ≡ v = cc h.there in
    let zero_more : at ≡ at + 0 = omega arith in
    cond-true _ _ _ (stopped variable_name w vs x v h) ∙ (λ k. Some (record { region = r; offset = zero_more k; sizes = (is k).sizes }))
find_first r at (w ∷ vs) x (suc i) v h =
    let regrouped : at + cells_of w.sizes + offset_of vs i ≡ at + offset_of (w ∷ vs) (suc i) = omega arith in
    cond-false _ _ _ (passed variable_name w vs x i v h) ∙ find_first r (at + cells_of w.sizes) vs x i v (first_later variable_name w vs x i v h) ∙ (λ k. Some (record { region = r; offset = regrouped k; sizes = v.sizes }))

find_absent : (r : Region) (at : ℕ) (vs : List Variable) (x : Name) → Absent variable_name vs x → find r at vs x ≡ None
find_absent r at [] x h = refl
find_absent r at (w ∷ vs) x h = cond-false _ _ _ (missed variable_name w vs x h) ∙ find_absent r (at + cells_of w.sizes) vs x (λ j e. h (suc j) e)

function_first : (n : ℕ) (fs : List Function) (x : Name) (i : ℕ) (f : Function) → First function_name fs x i f → find_function n fs x ≡ Some (n + i, length f.parameters)
function_first n [] x i f h = clash f h.there
function_first n (e ∷ fs) x zero f h =
    let is : e ≡ f = cc h.there in
    let zero_more : n ≡ n + 0 = omega arith in
    cond-true _ _ _ (stopped function_name e fs x f h) ∙ (λ k. Some (zero_more k, length (is k).parameters))
function_first n (e ∷ fs) x (suc i) f h =
    let regrouped : suc n + i ≡ n + suc i = omega arith in
    cond-false _ _ _ (passed function_name e fs x i f h) ∙ function_first (suc n) fs x i f (first_later function_name e fs x i f h) ∙ (λ k. Some (regrouped k, length f.parameters))

function_absent : (n : ℕ) (fs : List Function) (x : Name) → Absent function_name fs x → find_function n fs x ≡ None
function_absent n [] x h = refl
function_absent n (e ∷ fs) x h = cond-false _ _ _ (missed function_name e fs x h) ∙ function_absent (suc n) fs x (λ j w. h (suc j) w)

-- the first variable of a region, and the first function of a sheet
found : (r : Region) (vs : List Variable) (x : Name) (i : ℕ) (v : Variable) → First variable_name vs x i v → find r 0 vs x ≡ Some (slot_in r vs i v)
found r vs x i v h = find_first r 0 vs x i v h ∙ (λ k. Some (record { region = r; offset = zero-add (offset_of vs i) k; sizes = v.sizes }))

global : (s : Sheet) (vs : List Variable) (x : Name) (i : ℕ) (v : Variable) → Absent variable_name vs x → First variable_name s.variables x i v → looked_up s vs x ≡ Some (variable_at (slot_in on_sheet s.variables i v))
global s vs x i v no_local h = rw (find_absent in_frame 0 vs x no_local, found on_sheet s.variables x i v h)

local : (s : Sheet) (vs : List Variable) (x : Name) (i : ℕ) (v : Variable) → First variable_name vs x i v → looked_up s vs x ≡ Some (variable_at (slot_in in_frame vs i v))
local s vs x i v h = rw (found in_frame vs x i v h)

function : (s : Sheet) (vs : List Variable) (x : Name) (i : ℕ) (f : Function) → Absent variable_name vs x → Absent variable_name s.variables x → First function_name s.functions x i f → looked_up s vs x ≡ Some (function_at i (length f.parameters))
function s vs x i f no_local no-global h = rw (find_absent in_frame 0 vs x no_local, find_absent on_sheet 0 s.variables x no-global, function_first 0 s.functions x i f h, zero-add)

nothing : (s : Sheet) (vs : List Variable) (x : Name) → Absent variable_name vs x → Absent variable_name s.variables x → Absent function_name s.functions x → looked_up s vs x ≡ None
nothing s vs x no_local no-global no-function = rw (find_absent in_frame 0 vs x no_local, find_absent on_sheet 0 s.variables x no-global, function_absent 0 s.functions x no-function)

apart : (vs : List Variable) (i j : ℕ) (v : Variable) → i < j → slice_get vs i ≡ Some v → offset_of vs i + cells_of v.sizes ≤ offset_of vs j
apart [] i j v low at = clash v at
apart (w ∷ vs) zero zero v low at = absurd (omega arith)
apart (w ∷ vs) zero (suc j) v low at = let is : w ≡ v = cc in omega (arith, ap (λ u. cells_of u.sizes) is)
apart (w ∷ vs) (suc i) zero v low at = absurd (omega arith)
apart (w ∷ vs) (suc i) (suc j) v low at = omega (arith, apart vs i j v (omega arith) at)

within : (vs : List Variable) (i : ℕ) (v : Variable) → slice_get vs i ≡ Some v → offset_of vs i + cells_of v.sizes ≤ total vs
within [] i v at = clash v at
within (w ∷ vs) zero v at = let is : w ≡ v = cc in omega (arith, ap (λ u. cells_of u.sizes) is)
within (w ∷ vs) (suc i) v at = omega (arith, within vs i v at)

inside : (at : ℕ) (ns is : List ℕ) → Below is ns → (at ≤ reached at ns is) × (reached at ns is < at + cells_of ns)
inside at [] [] low = (omega arith, omega arith)
inside at [] (i ∷ is) low = absurd low
inside at (n ∷ ns) [] low = absurd low
inside at (n ∷ ns) (i ∷ is) low =
    let h = inside (at + i * cells_of ns) ns is low.1 in
    let e = element at i n (cells_of ns) _ low.0 (le_refl (at + n * cells_of ns)) in
    (omega arith, omega arith)

-- the i-th element ends before the j-th begins
ordered : (at c i j a b : ℕ) → i < j → a < at + i * c + c → at + j * c ≤ b → a ≢ b
ordered at c i j a b less low high = omega (arith, mul-le-mul_right c less, suc-mul i c)

alone : (at : ℕ) (ns is js : List ℕ) → Below is ns → Below js ns → reached at ns is ≡ reached at ns js → is ≡ js
alone at [] [] [] low high e = refl
alone at [] [] (j ∷ js) low high e = absurd high
alone at [] (i ∷ is) js low high e = absurd low
alone at (n ∷ ns) [] js low high e = absurd low
alone at (n ∷ ns) (i ∷ is) [] low high e = absurd high
alone at (n ∷ ns) (i ∷ is) (j ∷ js) low high e =
    let h = inside (at + i * cells_of ns) ns is low.1 in
    let k = inside (at + j * cells_of ns) ns js high.1 in
    ⊎_elim (λ same_index. let rest = alone (at + i * cells_of ns) ns is js low.1 high.1 (cc) in cc)
    (⊎_elim (λ less. absurd (ordered at (cells_of ns) i j _ _ less h.1 k.0 e)) (λ less. absurd (ordered at (cells_of ns) j i _ _ less k.1 h.0 (sym e))))
    (cases_order i j)

-- a variable's elements lie before those of the next
before : (vs : List Variable) (i j : ℕ) (v w : Variable) (is js : List ℕ) → i < j → slice_get vs i ≡ Some v → Below is v.sizes → Below js w.sizes → reached (offset_of vs i) v.sizes is ≢ reached (offset_of vs j) w.sizes js
before vs i j v w is js less at low high =
    omega (arith, apart vs i j v less at, (inside (offset_of vs i) v.sizes is low).1, (inside (offset_of vs j) w.sizes js high).0)

one : (vs : List Variable) (i j : ℕ) (v w : Variable) (is js : List ℕ) → slice_get vs i ≡ Some v → slice_get vs j ≡ Some w → Below is v.sizes → Below js w.sizes → reached (offset_of vs i) v.sizes is ≡ reached (offset_of vs j) w.sizes js → (i ≡ j) × (is ≡ js)
one vs i j v w is js at to low high e =
    ⊎_elim (λ same_place. (same_place, go same_place))
    (⊎_elim (λ less. absurd (before vs i j v w is js less at low high e)) (λ less. absurd (before vs j i w v js is less to high low (sym e))))
    (cases_order i j)
  where
    go : i ≡ j → is ≡ js
    go same_place =
        let same-variable : v ≡ w = cc in
        alone (offset_of vs i) v.sizes is js low (subst (λ u. Below js u.sizes) (sym same-variable) high) (cc)

pub scoping : Scoping
scoping = record {
  names = λ x y. (same_equal x y, equal_same x y);
  local = λ s vs x j w at is. ⊎_elim (λ d. (d.0, d.1, d.2, local s vs x d.0 d.1 d.2)) (λ no_local. absurd (no_local j w at is)) (declared variable_name vs x);
  global = global;
  function = function;
  nothing = nothing;
  variables = declared variable_name;
  functions = declared function_name;
  read = variable_read;
  assigned = variable_assigned;
  called = function_called;
  apart = apart;
  within = within;
  inside = inside;
  alone = alone;
  one = one;
}
