-- The verdict: what is accepted, and which fault refuses. Assumes nothing.
use Rattle.std.proofs.Common.{◌≡◌, ℕ, ◌≤◌, true, false, ◌&&◌, eqb, ltb, leb, ◌⊎◌, List, [], ◌∷◌, length, Some, None, Option, sym, refl, ap, ◌∙◌, subst, inl, inr, ⊎_elim, le_refl, arith}
use Rattle.std.specs.List.{AllByRecursion}
use Rattle.std.proofs.lemmas.Bool.{leb-true, leb-false, le-leb, ltb-true, ltb-false, eqb-true, eqb-false, or_cases, or_parts, and_parts, and_cases, cond_both, cases_order}
use Rattle.language.specs.Tree.{Function, Sheet}
use Rattle.language.specs.Resolved.{Routine, Program}
use Rattle.language.specs.Scope.{resolved}
use Rattle.language.proofs.Resolution.{functions_kept}
use Rattle.translation.specs.Limits.{Compact}
use Rattle.translation.specs.Translation.{code, need}
use Rattle.names.specs.Questions.{Fault, unless, name_faults, needy, code_rules, code_faults, no_later, sooner, least, Layer, names, codes, Verdict, accepted, refused, no_verdict, on_code, on_program, on_names, asked}
use Rattle.names.specs.Laws.{Readable, Sound, Accepts, NoLater, Least, RefusesBy, Refuses, Decides}
use Rattle.names.proofs.Members.{none_left, none_right, none_both, none_among, unless_none, none_unless, faults_none, none_faults}
use Rattle.names.proofs.Resolving.{clash}
use Rattle.names.proofs.Sounding.{exact}

-- the order of faults
no_later_true : (f g : Fault) → no_later f g ≡ true → NoLater f g
no_later_true f g is = ⊎_elim
    (λ a. inl (ltb-true f.0 g.0 a))
    (λ b. let c = and_parts (eqb f.0 g.0) (leb f.1 g.1) b in inr (eqb-true f.0 g.0 c.0, leb-true f.1 g.1 c.1))
    (or_cases (ltb f.0 g.0) (eqb f.0 g.0 && leb f.1 g.1) is)

no_later_false : (f g : Fault) → no_later f g ≡ false → NoLater g f
no_later_false f g is =
    let a = or_parts (ltb f.0 g.0) (eqb f.0 g.0 && leb f.1 g.1) is in
    let low = ltb-false f.0 g.0 a.0 in
    ⊎_elim
    (λ same. inr (
      sym same,
      ⊎_elim
          (λ b. absurd (eqb-false f.0 g.0 b same))
          (λ b. let h : g.1 ≤ f.1 = omega (arith, leb-false f.1 g.1 b) in h)
          (and_cases (eqb f.0 g.0) (leb f.1 g.1) a.1),
    ))
    (⊎_elim (λ less. absurd (omega (arith, less, low))) (λ less. inl less))
    (cases_order f.0 g.0)

no_later_self : (f g : Fault) → f ≡ g → NoLater f g
no_later_self f g is = subst (NoLater f) is (inr (refl, le_refl f.1))

no_later_trans : (f g h : Fault) → NoLater f g → NoLater g h → NoLater f h
no_later_trans f g h (inl a) (inl b) = inl (omega (arith, a, b))
no_later_trans f g h (inl a) (inr b) = inl (omega (arith, a, b.0))
no_later_trans f g h (inr a) (inl b) = inl (omega (arith, a.0, b))
no_later_trans f g h (inr a) (inr b) = inr (a.0 ∙ b.0, omega (arith, a.1, b.1))

no_later_both : (f g : Fault) → NoLater f g → NoLater g f → f ≡ g
no_later_both f g (inl a) (inl b) = absurd (omega (arith, a, b))
no_later_both f g (inl a) (inr b) = absurd (omega (arith, a, b.0))
no_later_both f g (inr a) (inl b) = absurd (omega (arith, a.0, b))
no_later_both f g (inr a) (inr b) =
    let place = a.0 in
    let number : f.1 ≡ g.1 = omega (arith, a.1, b.1) in
    λ i. (place i, number i)

least_none : (fs : List Fault) → least fs ≡ None → fs ≡ []
least_none [] is = refl
least_none (f ∷ fs) is = clash (sooner f (least fs)) (sym is)

least_some : (fs : List Fault) (f : Fault) → least fs ≡ Some f → Least fs f
least_some [] f is = clash f is
least_some (g ∷ fs) f is = subst (Least (g ∷ fs)) (let e : sooner g (least fs) ≡ f = cc in e) (go (least fs) refl (least_some fs))
  where
    go : (o : Option Fault) → least fs ≡ o → ((h : Fault) → least fs ≡ Some h → Least fs h) → Least (g ∷ fs) (sooner g o)
    go None none rest = record {
      among = inl refl;
      first = λ k a. ⊎_elim (λ e. no_later_self g k (sym e)) (λ b. absurd (none_among fs k (least_none fs none) b)) a;
    }
    go (Some h) some rest =
        let r = rest h some in
        cond_both (no_later g h) g h (Least (g ∷ fs))
        (λ sooner-is. record {
          among = inl refl;
          first = λ k a. ⊎_elim (λ e. no_later_self g k (sym e)) (λ b. no_later_trans g h k (no_later_true g h sooner-is) (r.first k b)) a;
        })
        (λ later-is. record {
          among = inr r.among;
          first = λ k a. ⊎_elim (λ e. subst (NoLater h) (sym e) (no_later_false g h later-is)) (λ b. r.first k b) a;
        })

some_least : (fs : List Fault) (f : Fault) → Least fs f → least fs ≡ Some f
some_least fs f h = go (least fs) refl
  where
    go : (o : Option Fault) → least fs ≡ o → o ≡ Some f
    go None is = absurd (none_among fs f (least_none fs is) h.among)
    go (Some g) is =
        let r = least_some fs g is in
        ap Some (no_later_both g f (r.first f h.among) (h.first g r.among))

-- code without faults is compact
needs_from : (fs : List Function) (rs : List Routine) → length rs ≡ length fs → needy fs rs ≡ [] → AllByRecursion (λ r. need r ≤ 300) rs
needs_from [] [] many is = tt
needs_from [] (r ∷ rs) many is = absurd (omega arith)
needs_from (f ∷ fs) [] many is = tt
needs_from (f ∷ fs) (r ∷ rs) many is =
    let here = unless (leb (need r) 300) f.place in
    (leb-true (need r) 300 (unless_none (leb (need r) 300) f.place (none_left here (needy fs rs) is)), needs_from fs rs (omega arith) (none_right here (needy fs rs) is))

needs_to : (fs : List Function) (rs : List Routine) → AllByRecursion (λ r. need r ≤ 300) rs → needy fs rs ≡ []
needs_to [] rs h = refl
needs_to (f ∷ fs) [] h = refl
needs_to (f ∷ fs) (r ∷ rs) h = none_both (unless (leb (need r) 300) f.place) (needy fs rs) (none_unless (leb (need r) 300) f.place (le-leb (need r) 300 h.0)) (needs_to fs rs h.1)

compact_from : (s : Sheet) (n : ℕ) (p : Program) → resolved s ≡ Some p → code_faults s n p ≡ [] → Compact p
compact_from s n p resolves is =
    let none = faults_none (code_rules s n p) is in
    record {
      needs = needs_from s.functions p.routines (functions_kept s p resolves) none.0;
      words = leb-true (length (code p)) 16384 (unless_none (leb (length (code p)) 16384) n none.1.0);
    }

compact_to : (s : Sheet) (n : ℕ) (p : Program) → Compact p → code_faults s n p ≡ []
compact_to s n p h = none_faults (code_rules s n p) (needs_to s.functions p.routines h.needs, (none_unless (leb (length (code p)) 16384) n (le-leb (length (code p)) 16384 h.words), tt))

-- What a verdict rests on.
abbrev Ground : Sheet → ℕ → Verdict → Type 0
Ground s n (accepted p) = Sound s p × Compact p
Ground s n (refused k l place) = RefusesBy s n l (place, k)
Ground s n no_verdict = ⊥

ground_code : (s : Sheet) (n : ℕ) (p : Program) → Sound s p → (o : Option Fault) → least (code_faults s n p) ≡ o → Ground s n (on_code p o)
ground_code s n p sound (Some f) is = (p, sound, least_some (code_faults s n p) f is)
ground_code s n p sound None is = (sound, compact_from s n p sound.resolves (least_none (code_faults s n p) is))

ground_names : (s : Sheet) (n : ℕ) → Readable s → (o : Option Fault) → least (name_faults s) ≡ o → Ground s n (on_names s n o)
ground_names s n readable (Some f) is = least_some (name_faults s) f is
ground_names s n readable None is =
    let a = (exact s readable).0 (least_none (name_faults s) is) in
    subst (λ o. Ground s n (on_program s n o)) (sym a.1.resolves) (ground_code s n a.0 a.1 (least (code_faults s n a.0)) refl)

ground : (s : Sheet) (n : ℕ) → Readable s → Ground s n (asked s n)
ground s n readable = ground_names s n readable (least (name_faults s)) refl

-- a sheet without faults of names is asked for its code
asked_code : (s : Sheet) (n : ℕ) (p : Program) → Readable s → Sound s p → asked s n ≡ on_code p (least (code_faults s n p))
asked_code s n p readable sound = ap (λ fs. on_names s n (least fs)) ((exact s readable).1 (p, sound)) ∙ ap (on_program s n) sound.resolves

pub accepts : Accepts
accepts s n p readable = (λ is. subst (Ground s n) is (ground s n readable), λ h. asked_code s n p readable h.0 ∙ ap (λ fs. on_code p (least fs)) (compact_to s n p h.1))

refused_by : (s : Sheet) (n : ℕ) (l : Layer) (f : Fault) → Readable s → RefusesBy s n l f → asked s n ≡ refused f.1 l f.0
refused_by s n names f readable h = ap (on_names s n) (some_least (name_faults s) f h)
refused_by s n codes f readable h = asked_code s n h.0 readable h.1 ∙ ap (on_code h.0) (some_least (code_faults s n h.0) f h.2)

pub refuses : Refuses
refuses s n k place l readable = (λ is. subst (Ground s n) is (ground s n readable), λ h. refused_by s n l (place, k) readable h)

pub decides : Decides
decides s n readable = go (asked s n) refl (ground s n readable)
  where
    go : (v : Verdict) → asked s n ≡ v → Ground s n v → ((p : Program) × (asked s n ≡ accepted p)) ⊎ ((k : ℕ) × (l : Layer) × (place : ℕ) × (asked s n ≡ refused k l place))
    go (accepted p) is h = inl (p, is)
    go (refused k l place) is h = inr (k, l, place, is)
    go no_verdict is h = absurd h
