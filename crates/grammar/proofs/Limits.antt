-- Depth: the first token past a limit is refused 7, unless the grammar refuses before or there. Assumes nothing.
use Rattle.std.proofs.Common.{◌≡◌, ℕ, zero, suc, ◌<◌, ◌≤◌, Bool, true, false, cond, ◌⊎◌, List, [], ◌∷◌, length, take, Some, None, Option, sym, refl, ap, ◌∙◌, subst, inl, inr, ⊎_elim, arith}
use Rattle.std.proofs.lemmas.Bool.{both_ways}
use Rattle.language.specs.Tree.{Sheet}
use Rattle.grammar.specs.Lexemes.{Token}
use Rattle.grammar.specs.Words.{Begins}
use Rattle.grammar.specs.Parsing.{State, feed, Verdict, accepted, refused, later, if_taken, ending, parse, start, verdict}
use Rattle.grammar.specs.Limits.{deep, Judgement, right, wrong, postponed, finally, if_shallow, judge, judgement, if_any, reached, DeepFrom, Deep}
use Rattle.grammar.proofs.Pending.{read, GoodState}
use Rattle.grammar.proofs.Soundness.{Took, FairState, feed_fair}
use Rattle.grammar.proofs.Completion.{GoesOn, goes_on, earlier, begins_some, good_start}

-- no token up to the i-th is too deep
abbrev Shallow : State → List Token → ℕ → Type 0
Shallow s ts i = (j : ℕ) → j ≤ i → ¬ (DeepFrom s (take j ts))

here : (s : State) → deep s ≡ false → ¬ (DeepFrom s [])
here s not d = both_ways (deep s) not (let same : s ≡ d.0 = cc d.1 in ap deep same ∙ d.2)

nowhere : (s : State) → deep s ≡ false → (j : ℕ) → ¬ (DeepFrom s (take j []))
nowhere s not zero = here s not
nowhere s not (suc j) = here s not

only_here : (s : State) (ts : List Token) → deep s ≡ false → Shallow s ts 0
only_here s ts not zero low = here s not
only_here s ts not (suc j) low = absurd (omega arith)

past : (s u : State) (t : Token) (ts : List Token) → feed s t ≡ Some u → DeepFrom s (t ∷ ts) → DeepFrom u ts
past s u t ts is d = (d.0, ap (λ o. if_any o (λ r. reached r ts)) (sym is) ∙ d.1, d.2)

never_past : (s u : State) (t : Token) (ts : List Token) → deep s ≡ false → feed s t ≡ Some u → ((j : ℕ) → ¬ (DeepFrom u (take j ts))) → (j : ℕ) → ¬ (DeepFrom s (take j (t ∷ ts)))
never_past s u t ts not is h zero = here s not
never_past s u t ts not is h (suc j) = λ d. h j (past s u t (take j ts) is d)

shallow_past : (s u : State) (t : Token) (ts : List Token) (i : ℕ) → deep s ≡ false → feed s t ≡ Some u → Shallow u ts i → Shallow s (t ∷ ts) (suc i)
shallow_past s u t ts i not is h zero low = here s not
shallow_past s u t ts i not is h (suc j) low = λ d. h j (omega arith) (past s u t (take j ts) is d)

record Six (s : State) (ts : List Token) (n i : ℕ) : Type 0 where
  number : n ≡ 6
  refuses : parse s ts ≡ refused i
  shallow : Shallow s ts i

record Seven (s : State) (ts : List Token) (n i : ℕ) : Type 0 where
  number : n ≡ 7
  inside_list : i < length ts
  begun : GoesOn s (take (suc i) ts)
  too_deep : DeepFrom s (take (suc i) ts)
  shallow : Shallow s ts i

abbrev Judged : State → List Token → Judgement → Type 0
Judged s ts (right u) = (parse s ts ≡ accepted u) × ((j : ℕ) → ¬ (DeepFrom s (take j ts)))
Judged s ts (wrong n i) = Six s ts n i ⊎ Seven s ts n i

ending_judged : (s : State) → deep s ≡ false → (v : Verdict) → ending s ≡ v → Judged s [] (finally v)
ending_judged s not (accepted u) is = (is, nowhere s not)
ending_judged s not (refused i) is = inl (record { number = refl; refuses = is; shallow = λ j low. nowhere s not j })

taken : (s u : State) (t : Token) (ts : List Token) → feed s t ≡ Some u → parse s (t ∷ ts) ≡ later (parse u ts)
taken s u t ts is = ap (λ o. if_taken o (λ r. parse r ts)) is

postponed_judged : (s u : State) (t : Token) (ts : List Token) (v : Judgement) → deep s ≡ false → feed s t ≡ Some u → Took (read s) t.0 t.1 (read u) → Judged u ts v → Judged s (t ∷ ts) (postponed v)
postponed_judged s u t ts (right x) not is took h = (taken s u t ts is ∙ ap later h.0, never_past s u t ts not is h.1)
postponed_judged s u t ts (wrong n i) not is took (inl h) =
    inl (record { number = h.number; refuses = taken s u t ts is ∙ ap later h.refuses; shallow = shallow_past s u t ts i not is h.shallow })
postponed_judged s u t ts (wrong n i) not is took (inr h) =
    inr (record {
      number = h.number;
      inside_list = omega (arith, h.inside_list);
      begun = earlier s u t (take (suc i) ts) took h.begun;
      too_deep = (h.too_deep.0, ap (λ o. if_any o (λ r. reached r (take (suc i) ts))) is ∙ h.too_deep.1, h.too_deep.2);
      shallow = shallow_past s u t ts i not is h.shallow;
    })

judge_judged : (ts : List Token) (s : State) → GoodState s → deep s ≡ false → Judged s ts (judge s ts)
judge_judged [] s good not = ending_judged s not (ending s) refl
judge_judged (t ∷ ts) s good not = go (feed s t) refl (feed_fair s good t) (judge_judged ts)
  where
    at : (u : State) → feed s t ≡ Some u → GoodState u → Took (read s) t.0 t.1 (read u) → (b : Bool) → deep u ≡ b → (deep u ≡ false → Judged u ts (judge u ts)) → Judged s (t ∷ ts) (cond b (wrong 7 0) (postponed (judge u ts)))
    at u is good-next took true past_limit ih =
        inr (record {
          number = refl;
          inside_list = omega arith;
          begun = earlier s u t [] took (goes_on u good-next);
          too_deep = (u, ap (λ o. if_any o (λ r. reached r [])) is, past_limit);
          shallow = only_here s (t ∷ ts) not;
        })
    at u is good-next took false within ih = postponed_judged s u t ts (judge u ts) not is took (ih within)

    go : (o : Option State) → feed s t ≡ o → FairState (read s) t.1 t.0 o → ((u : State) → GoodState u → deep u ≡ false → Judged u ts (judge u ts)) → Judged s (t ∷ ts) (if_shallow o (λ u. judge u ts))
    go None is fair ih = inl (record { number = refl; refuses = ap (λ o. if_taken o (λ r. parse r ts)) is; shallow = only_here s (t ∷ ts) not })
    go (Some u) is fair ih = at u is fair.0 fair.1 (deep u) refl (ih u fair.0)

judged : (ts : List Token) (v : Judgement) → judgement ts ≡ v → Judged start ts v
judged ts v is = subst (Judged start ts) is (judge_judged ts start good_start refl)

pub within_limits : (ts : List Token) (u : Sheet) → judgement ts ≡ right u → (verdict ts ≡ accepted u) × ((j : ℕ) → ¬ (Deep (take j ts)))
within_limits ts u is = judged ts (right u) is

pub six_or_seven : (ts : List Token) (n i : ℕ) → judgement ts ≡ wrong n i → (n ≡ 6) ⊎ (n ≡ 7)
six_or_seven ts n i is = ⊎_elim (λ h. inl h.number) (λ h. inr h.number) (judged ts (wrong n i) is)

pub refuses_six : (ts : List Token) (i : ℕ) → judgement ts ≡ wrong 6 i → (verdict ts ≡ refused i) × ((j : ℕ) → j ≤ i → ¬ (Deep (take j ts)))
refuses_six ts i is = ⊎_elim (λ h. (h.refuses, h.shallow)) (λ h. absurd (omega (arith, h.number))) (judged ts (wrong 6 i) is)

pub refuses_seven : (ts : List Token) (i : ℕ) → judgement ts ≡ wrong 7 i → (i < length ts) × Begins (take (suc i) ts) × Deep (take (suc i) ts) × ((j : ℕ) → j ≤ i → ¬ (Deep (take j ts)))
refuses_seven ts i is = ⊎_elim (λ h. absurd (omega (arith, h.number))) (λ h. (h.inside_list, begins_some (take (suc i) ts) h.begun, h.too_deep, h.shallow)) (judged ts (wrong 7 i) is)

pub accepts_shallow : (ts : List Token) (u : Sheet) → verdict ts ≡ accepted u → ((j : ℕ) → ¬ (Deep (take j ts))) → judgement ts ≡ right u
accepts_shallow ts u is shallow = go (judgement ts) refl
  where
    go : (v : Judgement) → judgement ts ≡ v → judgement ts ≡ right u
    go (right x) e = let same = (judged ts (right x) e).0 in let tree : x ≡ u = cc in e ∙ ap right tree
    go (wrong n i) e = ⊎_elim (λ h. let r = h.refuses in let z : ◌≡◌ {A = ℕ} 0 1 = cc in absurd (omega arith)) (λ h. absurd (shallow (suc i) h.too_deep)) (judged ts (wrong n i) e)
