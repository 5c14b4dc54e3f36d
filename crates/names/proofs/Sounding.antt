-- Names have no fault exactly when the sheet may be translated. Assumes nothing.
use Rattle.std.proofs.Common.{◌≡◌, ℕ, zero, suc, ◌+◌, ◌≤◌, Bool, true, false, cond, leb, List, [], ◌∷◌, ◌++◌, map, length, sym, refl, ◌∙◌, ⊎_elim, arith}
use Rattle.std.specs.List.{AllByRecursion}
use Rattle.std.proofs.ByRecursion.{All-weaker}
use Rattle.std.proofs.lemmas.Bool.{leb-true, le-leb, and_parts, and_from, cases_order, cond-true}
use Rattle.language.specs.Tree.{Expr, Variable, Function, Sheet}
use Rattle.language.specs.Resolved.{Program}
use Rattle.language.specs.Scope.{cells_of, total, own}
use Rattle.language.specs.Limits.{Sized, Positive, Plain, Within, Limited}
use Rattle.names.specs.Questions.{parts_statements, gathered, unless, in_bodies, left_at, Declaration, of_variable, of_function, on_the_sheet, in_function, again, used_at, counted_at, at_most, passing, sized, empties, excesses_in, repeats, excesses, name_rules, name_faults}
use Rattle.names.specs.Laws.{Small, Readable, Once, DeclaredOnce, Sound, Exact}
use Rattle.names.proofs.Members.{filled, none_left, none_right, none_both, none_among, among_none, gathered_none, none_gathered, unless_none, none_unless, faults_none, none_faults}
use Rattle.names.proofs.Resolving.{Clean, CleanBody, resolved_there, resolved_clean}
use Rattle.names.proofs.Places.{from_second, to_second}

-- No declaration is a second one.
once_from : (ds : List Declaration) → again [] ds ≡ [] → Once ds
once_from ds is i j d e at to named = ⊎_elim (λ same. same)
    (⊎_elim
    (λ less. absurd (none_among (again [] ds) e.0 is (to_second ds e.0 (i, j, d, e, less, at, to, named, refl))))
    (λ less. absurd (none_among (again [] ds) d.0 is (to_second ds d.0 (j, i, e, d, less, to, at, sym named, refl)))))
    (cases_order i j)

once_to : (ds : List Declaration) → Once ds → again [] ds ≡ []
once_to ds once = among_none (again [] ds) (λ p h.
    let a = from_second ds p h in
    let same = once a.0 a.1 a.2 a.3 a.5 a.6 a.7 in
    omega (arith, a.4, same))

-- the limits
module _ {X : Type 0} (declaration : X → Declaration) where
  few_from : (n : ℕ) (xs : List X) → at_most n (map declaration xs) ≡ [] → length xs ≤ n
  few_from n [] is = omega arith
  few_from zero (x ∷ xs) is = filled (declaration x).0 [] is
  few_from (suc n) (x ∷ xs) is = omega (arith, few_from n xs is)

  few_to : (n : ℕ) (xs : List X) → length xs ≤ n → at_most n (map declaration xs) ≡ []
  few_to n [] few = refl
  few_to zero (x ∷ xs) few = absurd (omega arith)
  few_to (suc n) (x ∷ xs) few = few_to n xs (omega arith)

kept_from : (limit at : ℕ) (vs : List Variable) → at ≤ limit → passing limit at vs ≡ [] → at + total vs ≤ limit
kept_from limit at [] low is = omega arith
kept_from limit at (v ∷ vs) low is = go (kept_from limit (at + cells_of v.sizes) vs) (leb (at + cells_of v.sizes) limit) refl is
  where
    go : (at + cells_of v.sizes ≤ limit → passing limit (at + cells_of v.sizes) vs ≡ [] → at + cells_of v.sizes + total vs ≤ limit) → (b : Bool) → leb (at + cells_of v.sizes) limit ≡ b → cond b (passing limit (at + cells_of v.sizes) vs) (v.place ∷ []) ≡ [] → at + total (v ∷ vs) ≤ limit
    go rest true test none = omega (arith, rest (leb-true (at + cells_of v.sizes) limit test) none)
    go rest false test none = filled v.place [] none

kept_to : (limit at : ℕ) (vs : List Variable) → at + total vs ≤ limit → passing limit at vs ≡ []
kept_to limit at [] low = refl
kept_to limit at (v ∷ vs) low =
    let kept : at + cells_of v.sizes ≤ limit = omega arith in
    cond-true (leb (at + cells_of v.sizes) limit) (passing limit (at + cells_of v.sizes) vs) (v.place ∷ []) (le-leb (at + cells_of v.sizes) limit kept)
    ∙ kept_to limit (at + cells_of v.sizes) vs (omega arith)

sized_from : (ns : List ℕ) → sized ns ≡ true → Sized ns
sized_from [] is = tt
sized_from (n ∷ ns) is = let a = and_parts (leb 1 n) (sized ns) is in (leb-true 1 n a.0, sized_from ns a.1)

sized_to : (ns : List ℕ) → Sized ns → sized ns ≡ true
sized_to [] h = refl
sized_to (n ∷ ns) h = and_from (leb 1 n) (sized ns) (le-leb 1 n h.0) (sized_to ns h.1)

positive_from : (vs : List Variable) → empties vs ≡ [] → Positive vs
positive_from [] is = tt
positive_from (v ∷ vs) is =
    let here = unless (sized v.sizes) v.place in
    (sized_from v.sizes (unless_none (sized v.sizes) v.place (none_left here (empties vs) is)), positive_from vs (none_right here (empties vs) is))

positive_to : (vs : List Variable) → Positive vs → empties vs ≡ []
positive_to [] h = refl
positive_to (v ∷ vs) h = none_both (unless (sized v.sizes) v.place) (empties vs) (none_unless (sized v.sizes) v.place (sized_to v.sizes h.0)) (positive_to vs h.1)

-- at most so many declarations, so many cells of variables, and no array of 0
module _ {X : Type 0} (declaration : X → Declaration) (n : ℕ) (xs : List X) (limit : ℕ) (vs : List Variable) where
  abbrev Keeps : Type 0
  Keeps = (length xs ≤ n) × (total vs ≤ limit) × Positive vs

  keeps_from : at_most n (map declaration xs) ++ (passing limit 0 vs ++ empties vs) ≡ [] → Keeps
  keeps_from is =
      let rest = none_right (at_most n (map declaration xs)) (passing limit 0 vs ++ empties vs) is in
      let few = few_from declaration n xs (none_left (at_most n (map declaration xs)) (passing limit 0 vs ++ empties vs) is) in
      let low = kept_from limit 0 vs (omega arith) (none_left (passing limit 0 vs) (empties vs) rest) in
      (few, omega (arith, low), positive_from vs (none_right (passing limit 0 vs) (empties vs) rest))

  keeps_to : Keeps → at_most n (map declaration xs) ++ (passing limit 0 vs ++ empties vs) ≡ []
  keeps_to h =
      none_both (at_most n (map declaration xs)) (passing limit 0 vs ++ empties vs) (few_to declaration n xs h.0)
      (none_both (passing limit 0 vs) (empties vs) (kept_to limit 0 vs (omega (arith, h.1))) (positive_to vs h.2))

within_from : (f : Function) → Plain f.parameters → excesses_in f ≡ [] → Within f
within_from f plain is =
    let k = keeps_from of_variable 8 f.parameters 128 f.locals is in
    record { plain = plain; parameters = k.0; positive = k.2; locals = k.1 }

within_to : (f : Function) → Within f → excesses_in f ≡ []
within_to f h = keeps_to of_variable 8 f.parameters 128 f.locals (h.parameters, h.locals, h.positive)

all_within : (fs : List Function) → AllByRecursion (λ f. Plain f.parameters) fs → AllByRecursion (λ f. excesses_in f ≡ []) fs → AllByRecursion Within fs
all_within [] h k = tt
all_within (f ∷ fs) h k = (within_from f h.0 k.0, all_within fs h.1 k.1)

limited_from : (s : Sheet) → Readable s → excesses s ≡ [] → Limited s
limited_from s readable is =
    let ahead = at_most 64 (map of_function s.functions) ++ (passing 512 0 s.variables ++ empties s.variables) in
    let k = keeps_from of_function 64 s.functions 512 s.variables (none_left ahead (gathered excesses_in s.functions) is) in
    record {
      positive = k.2;
      cells = k.1;
      few = k.0;
      functions = all_within s.functions readable.parameters (gathered_none excesses_in s.functions (none_right ahead (gathered excesses_in s.functions) is));
    }

limited_to : (s : Sheet) → Limited s → excesses s ≡ []
limited_to s h =
    let ahead = at_most 64 (map of_function s.functions) ++ (passing 512 0 s.variables ++ empties s.variables) in
    none_both ahead (gathered excesses_in s.functions) (keeps_to of_function 64 s.functions 512 s.variables (h.few, h.cells, h.positive))
    (none_gathered excesses_in s.functions (All-weaker _ _ within_to s.functions h.functions))

-- declarations
declared_from : (s : Sheet) → repeats s ≡ [] → DeclaredOnce s
declared_from s is =
    let inner = gathered (λ f. again [] (in_function f)) s.functions in
    record {
      sheet = once_from (on_the_sheet s) (none_left (again [] (on_the_sheet s)) inner is);
      functions = All-weaker _ _ (λ f h. once_from (in_function f) h) s.functions (gathered_none (λ f. again [] (in_function f)) s.functions (none_right (again [] (on_the_sheet s)) inner is));
    }

declared_to : (s : Sheet) → DeclaredOnce s → repeats s ≡ []
declared_to s h =
    none_both (again [] (on_the_sheet s)) (gathered (λ f. again [] (in_function f)) s.functions) (once_to (on_the_sheet s) h.sheet)
    (none_gathered (λ f. again [] (in_function f)) s.functions (All-weaker _ _ (λ f once. once_to (in_function f) once) s.functions h.functions))

-- bodies
module _ (s : Sheet) (at : List Variable → Expr → List ℕ) where
  abbrev Silent : Function → Type 0
  Silent f = AllByRecursion (λ e. at (own f) e ≡ []) (parts_statements f.body)

  silent_from : in_bodies s at ≡ [] → AllByRecursion Silent s.functions
  silent_from is = All-weaker _ _ (λ f h. gathered_none (at (own f)) (parts_statements f.body) h) s.functions (gathered_none (λ f. gathered (at (own f)) (parts_statements f.body)) s.functions is)

  silent_to : AllByRecursion Silent s.functions → in_bodies s at ≡ []
  silent_to h = none_gathered (λ f. gathered (at (own f)) (parts_statements f.body)) s.functions (All-weaker _ _ (λ f k. none_gathered (at (own f)) (parts_statements f.body) k) s.functions h)

clean_each : (s : Sheet) (vs : List Variable) (es : List Expr) → AllByRecursion (λ e. left_at e ≡ []) es → AllByRecursion (λ e. used_at s vs e ≡ []) es → AllByRecursion (λ e. counted_at s vs e ≡ []) es → AllByRecursion Small es → AllByRecursion (Clean s vs) es
clean_each s vs [] a b c d = tt
clean_each s vs (e ∷ es) a b c d = ((a.0, b.0, c.0, d.0), clean_each s vs es a.1 b.1 c.1 d.1)

clean_all : (s : Sheet) (fs : List Function) → AllByRecursion (Silent s (λ vs e. left_at e)) fs → AllByRecursion (Silent s (used_at s)) fs → AllByRecursion (Silent s (counted_at s)) fs → AllByRecursion (λ f. AllByRecursion Small (parts_statements f.body)) fs → AllByRecursion (CleanBody s) fs
clean_all s [] a b c d = tt
clean_all s (f ∷ fs) a b c d = (clean_each s (own f) (parts_statements f.body) a.0 b.0 c.0 d.0, clean_all s fs a.1 b.1 c.1 d.1)

-- what one of the questions on expressions finds where all are answered yes
silent_by : (s : Sheet) (at : List Variable → Expr → List ℕ) → ((vs : List Variable) (e : Expr) → Clean s vs e → at vs e ≡ []) → AllByRecursion (CleanBody s) s.functions → in_bodies s at ≡ []
silent_by s at pick h = silent_to s at (All-weaker _ _ (λ f k. All-weaker _ _ (pick (own f)) (parts_statements f.body) k) s.functions h)

pub exact : Exact
exact s readable = (from, to)
  where
    from : name_faults s ≡ [] → (p : Program) × Sound s p
    from is =
        let none = faults_none (name_rules s) is in
        let clean = clean_all s s.functions (silent_from s (λ vs e. left_at e) none.0) (silent_from s (used_at s) none.1.1.0) (silent_from s (counted_at s) none.1.1.1.0) readable.numbers in
        let there = resolved_there s clean in
        (there.found, record { resolves = there.is; limited = limited_from s readable none.1.1.1.1.0; once = declared_from s none.1.0 })

    to : (p : Program) × Sound s p → name_faults s ≡ []
    to h =
        let clean = resolved_clean s (record { found = h.0; is = h.1.resolves }) in
        none_faults (name_rules s) (
          silent_by s (λ vs e. left_at e) (λ vs e c. c.0) clean,
          (
            declared_to s h.1.once,
            (
              silent_by s (used_at s) (λ vs e c. c.1) clean,
              (
                silent_by s (counted_at s) (λ vs e c. c.2) clean,
                (limited_to s h.1.limited, tt),
              ),
            ),
          ),
        )
