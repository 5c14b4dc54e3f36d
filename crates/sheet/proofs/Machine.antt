-- The steps of the grammar over a table's tokens. Assumes nothing.
use Rattle.std.proofs.Common.{◌≡◌, ℕ, suc, ◌+◌, ◌<◌, ◌≤◌, true, false, cond, List, [], ◌∷◌, length, drop, Some, None, Option, sym, refl, ap, ◌∙◌, add-zero, arith, length-drop}
use Rattle.std.proofs.lemmas.List.{drop-drop}
use Rattle.std.proofs.lemmas.Bool.{le-ltb, lt-ltb, or_from, or_left}
use Rattle.grammar.specs.Parsing.{Operand, Answer, no, on, feed_operand, resumes, turns, State, feed, refused, ending}
use Rattle.grammar.specs.Limits.{opens_in, deep, Judgement, right, wrong, postponed, finally, if_shallow, judge}
use Rattle.sheet.specs.declared.nodes.Kind.{Kind}
use Rattle.sheet.specs.Nodes.{Node}
use Rattle.sheet.specs.Nodes.{says, part, token_of, tokens_of}
use Rattle.sheet.specs.Looks.{first_kind, kind_at}
use Rattle.sheet.specs.Runs.{shifted, judged, Context, here}

pub drop_next : (i : ℕ) (ns : List Node) (n : Node) (rest : List Node) → drop i ns ≡ n ∷ rest → drop (i + 1) ns ≡ rest
drop_next i ns n rest there = sym (drop-drop 1 i ns) ∙ ap (drop 1) there

pub inside_table : (i : ℕ) (ns : List Node) (n : Node) (rest : List Node) → drop i ns ≡ n ∷ rest → i < length ns
inside_table i ns n rest there = omega (arith, length-drop i ns, ap length there)

shifted_postponed : (i : ℕ) (v : Judgement) → shifted i (postponed v) ≡ shifted (i + 1) v
shifted_postponed i (right s) = refl
shifted_postponed i (wrong n j) = let on_one : i + suc j ≡ i + 1 + j = omega arith in ap (wrong n) on_one

-- what a record shows, at its kind
abbrev pub HoldsAt : List Node → ℕ → Kind → Type 0
HoldsAt ns i k = (n : Node) × (rest : List Node) × (drop i ns ≡ n ∷ rest) × (n.item ≡ k)

pub holds_at : (ns : List Node) (i : ℕ) (k : Kind) → kind_at ns i ≡ Some k → HoldsAt ns i k
holds_at ns i k is = go (drop i ns) refl is
  where
    go : (l : List Node) → drop i ns ≡ l → first_kind l ≡ Some k → HoldsAt ns i k
    go [] there e = let z : ◌≡◌ {A = ℕ} 0 1 = cc in absurd (omega arith)
    go (n ∷ rest) there e = let same : n.item ≡ k = cc in (n, rest, there, same)

-- what an operand makes of a record
abbrev pub fed : List ℕ → Operand → Node → Answer
fed text o n = feed_operand o (says (part text n.place n.end) n.item) n.place

module _ (text : List ℕ) (ns : List Node) where
  goes_on : (s u : State) (i : ℕ) (n : Node) (rest : List Node) → drop i ns ≡ n ∷ rest → feed s (token_of text n) ≡ Some u → deep u ≡ false → judged text ns s i ≡ judged text ns u (i + 1)
  unfolding judged
  goes_on s u i n rest there takes shallow =
      ap (λ l. shifted i (judge s (tokens_of text l))) there
      ∙ ap (λ o. shifted i (if_shallow o (λ v. judge v (tokens_of text rest)))) takes
      ∙ ap (λ b. shifted i (cond b (wrong 7 0) (postponed (judge u (tokens_of text rest))))) shallow
      ∙ shifted_postponed i (judge u (tokens_of text rest))
      ∙ ap (λ l. shifted (i + 1) (judge u (tokens_of text l))) (sym (drop_next i ns n rest there))

  stuck_at : (s : State) (i : ℕ) (n : Node) (rest : List Node) → drop i ns ≡ n ∷ rest → feed s (token_of text n) ≡ None → judged text ns s i ≡ wrong 6 i
  unfolding judged
  stuck_at s i n rest there refuses =
      ap (λ l. shifted i (judge s (tokens_of text l))) there
      ∙ ap (λ o. shifted i (if_shallow o (λ v. judge v (tokens_of text rest)))) refuses
      ∙ ap (wrong 6) (add-zero i)

  too_deep : (s u : State) (i : ℕ) (n : Node) (rest : List Node) → drop i ns ≡ n ∷ rest → feed s (token_of text n) ≡ Some u → deep u ≡ true → judged text ns s i ≡ wrong 7 i
  unfolding judged
  too_deep s u i n rest there takes past =
      ap (λ l. shifted i (judge s (tokens_of text l))) there
      ∙ ap (λ o. shifted i (if_shallow o (λ v. judge v (tokens_of text rest)))) takes
      ∙ ap (λ b. shifted i (cond b (wrong 7 0) (postponed (judge u (tokens_of text rest))))) past
      ∙ ap (wrong 7) (add-zero i)

  ended_at : (s : State) (i : ℕ) → drop i ns ≡ [] → ending s ≡ refused 0 → judged text ns s i ≡ wrong 6 i
  unfolding judged
  ended_at s i there is =
      ap (λ l. shifted i (judge s (tokens_of text l))) there
      ∙ ap (λ v. shifted i (finally v)) is
      ∙ ap (wrong 6) (add-zero i)

  alike_at : (s u : State) (i : ℕ) (n : Node) (rest : List Node) → drop i ns ≡ n ∷ rest → feed s (token_of text n) ≡ feed u (token_of text n) → judged text ns s i ≡ judged text ns u i
  unfolding judged
  alike_at s u i n rest there same =
      ap (λ l. shifted i (judge s (tokens_of text l))) there
      ∙ ap (λ o. shifted i (if_shallow o (λ v. judge v (tokens_of text rest)))) same
      ∙ sym (ap (λ l. shifted i (judge u (tokens_of text l))) there)

  module _ (c : Context) where
    abbrev onward : Answer → Option State
    onward a = turns c.heading c.parameters c.locals (resumes c.part c.pending a)

    pub reads_on : (o q : Operand) (i : ℕ) (n : Node) (rest : List Node) → drop i ns ≡ n ∷ rest → fed text o n ≡ on q → opens_in q ≤ 8 → judged text ns (here c o) i ≡ judged text ns (here c q) (i + 1)
    reads_on o q i n rest there takes low =
        goes_on (here c o) (here c q) i n rest there (ap onward takes) (or_from _ _ (le-ltb 8 (opens_in q) low) c.shallow)

    pub past_limit : (o q : Operand) (i : ℕ) (n : Node) (rest : List Node) → drop i ns ≡ n ∷ rest → fed text o n ≡ on q → 8 < opens_in q → judged text ns (here c o) i ≡ wrong 7 i
    past_limit o q i n rest there takes high =
        too_deep (here c o) (here c q) i n rest there (ap onward takes) (or_left _ _ (lt-ltb 8 (opens_in q) high))

    pub refuses_at : (o : Operand) (i : ℕ) → ((n : Node) → kind_at ns i ≡ Some n.item → fed text o n ≡ no) → judged text ns (here c o) i ≡ wrong 6 i
    refuses_at o i refuses = go (drop i ns) refl
      where
        go : (l : List Node) → drop i ns ≡ l → judged text ns (here c o) i ≡ wrong 6 i
        go [] there = ended_at (here c o) i there refl
        go (n ∷ rest) there = stuck_at (here c o) i n rest there (ap onward (refuses n (ap first_kind there)))

    pub same_at : (o q : Operand) (i : ℕ) → ((n : Node) → kind_at ns i ≡ Some n.item → fed text o n ≡ fed text q n) → judged text ns (here c o) i ≡ judged text ns (here c q) i
    same_at o q i same = go (drop i ns) refl
      where
        go : (l : List Node) → drop i ns ≡ l → judged text ns (here c o) i ≡ judged text ns (here c q) i
        go [] there = ended_at (here c o) i there refl ∙ sym (ended_at (here c q) i there refl)
        go (n ∷ rest) there = alike_at (here c o) (here c q) i n rest there (ap onward (same n (ap first_kind there)))
