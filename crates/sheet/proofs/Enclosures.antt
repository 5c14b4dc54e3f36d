-- Brackets, elements and calls in the descent. Assumes nothing.
use Rattle.std.proofs.Common.{◌≡◌, ℕ, suc, ◌+◌, ◌<◌, ◌≤◌, Bool, true, false, cond, ltb, List, [], ◌∷◌, length, drop, Some, Ok, Err, Option, Result, sym, refl, ap, ◌∙◌, subst, zero-le, arith}
use Rattle.std.proofs.lemmas.Bool.{cond-true, cond-false, or_parts, or_from, both_ways, ltb-true, ltb-false}
use Rattle.language.specs.Tree.{Name, Expr, variable, call, brackets, plain, index, no_args, argument}
use Rattle.grammar.specs.Lexemes.{round, end_round, square, end_square, comma, mark, is, code}
use Rattle.grammar.specs.Parsing.{Stack, bracket, element, called, need, have, Answer, no, on, settle, arguments, closes, feed_operand}
use Rattle.grammar.specs.Limits.{opens}
use Rattle.sheet.specs.declared.nodes.Mark.{Mark}
use Rattle.sheet.specs.declared.nodes.Mark.TheVariants.{Round, EndRound, Square, EndSquare, Comma}
use Rattle.sheet.specs.declared.nodes.Kind.{Kind}
use Rattle.sheet.specs.declared.nodes.Kind.TheVariants.{Number as ANumber, Name as AName, Operator as AnOperator, Exclamation as AnExclamation, Equals as AnEquals, Mark as AMark}
use Rattle.sheet.specs.Nodes.{Node}
use Rattle.sheet.specs.declared.refusal.Refusal.{Refusal}
use Rattle.sheet.specs.Nodes.{says, part, mark_of}
use Rattle.sheet.specs.Looks.{kind_at, is_kind, is_at, opening}
use Rattle.sheet.specs.Runs.{refusal, refused_at, deep_at, complete_at, close_at, enter_at, judged, Context, here, Stops, Apt, ReadsTo, ReadsNot, Reads, AppliesTo, AppliesNot, Applies, PassesTo, PassesNot, Passes}
use Rattle.sheet.proofs.Machine.{inside_table, holds_at, fed, reads_on, past_limit, refuses_at}
use Rattle.sheet.proofs.Descent.{marked, differ, stops_whole, complete_reads, complete_applies}

pub enter_fails : (i held : ℕ) (f : Refusal) → ◌≡◌ {A = Result ℕ Refusal} (Err f) (enter_at i held) → (f ≡ deep_at i) × (8 ≤ held)
enter_fails i held f is = go (ltb held 8) refl is
  where
    go : (b : Bool) → ltb held 8 ≡ b → ◌≡◌ {A = Result ℕ Refusal} (Err f) (cond b (Ok (held + 1)) (Err (deep_at i))) → (f ≡ deep_at i) × (8 ≤ held)
    go true t e = let z : ◌≡◌ {A = ℕ} 0 1 = cc in absurd (omega arith)
    go false t e = let same : f ≡ deep_at i = cc in (same, ltb-false held 8 t)

pub enter_works : (i held m : ℕ) → ◌≡◌ {A = Result ℕ Refusal} (Ok m) (enter_at i held) → (m ≡ held + 1) × (held < 8)
enter_works i held m is = go (ltb held 8) refl is
  where
    go : (b : Bool) → ltb held 8 ≡ b → ◌≡◌ {A = Result ℕ Refusal} (Ok m) (cond b (Ok (held + 1)) (Err (deep_at i))) → (m ≡ held + 1) × (held < 8)
    go true t e = let same : m ≡ held + 1 = cc in (same, ltb-true held 8 t)
    go false t e = let z : ◌≡◌ {A = ℕ} 0 1 = cc in absurd (omega arith)

-- a mark behind an expression that is whole in its brackets
closing : (k : Stack) (e : Expr) (l : Mark) (a : Answer) (at : ℕ) → settle 0 k e ≡ (k, e) → opening (Some (AMark l)) ≡ false → closes (mark_of l) k e ≡ a → feed_operand (have e k) (mark (mark_of l)) at ≡ a
closing k e l a at whole shut is =
    let parts = or_parts (is_kind Round (Some (AMark l))) (is_kind Square (Some (AMark l))) shut in
    cond-false _ _ _ parts.0 ∙ cond-false _ _ _ parts.1 ∙ ap (λ h. closes (mark_of l) h.0 h.1) whole ∙ is

unclosed : (k : Stack) (e : Expr) → settle 0 k e ≡ (k, e) → (x : Kind) → Stops 0 (Some x) → ((l : Mark) → x ≡ AMark l → closes (mark_of l) k e ≡ no) → (bs : List ℕ) (at : ℕ) → feed_operand (have e k) (says bs x) at ≡ no
unclosed k e whole (ANumber v) stops refuses bs at = refl
unclosed k e whole AName stops refuses bs at = refl
unclosed k e whole (AnOperator o) stops refuses bs at = absurd (omega arith)
unclosed k e whole AnExclamation stops refuses bs at = refl
unclosed k e whole AnEquals stops refuses bs at = absurd (omega arith)
unclosed k e whole (AMark l) stops refuses bs at = closing k e l no at whole stops (refuses l refl)

is_not : (m : Mark) (o : Option Kind) (x : Kind) (l : Mark) → is_kind m o ≡ false → o ≡ Some x → x ≡ AMark l → is (mark_of m) (mark (mark_of l)) ≡ false
is_not m o x l h seen same = ap (λ y. is_kind m (Some y)) (sym same) ∙ ap (is_kind m) (sym seen) ∙ h

module _ (ns : List Node) where
  -- a record that holds a mark
  MarkAt : Mark → ℕ → Type 0
  MarkAt m i = (n : Node) × (rest : List Node) × (l : Mark) × (drop i ns ≡ n ∷ rest) × (n.item ≡ AMark l) × (is (mark_of m) (mark (mark_of l)) ≡ true)

  mark_at : (m : Mark) (i : ℕ) → is_at ns i m ≡ true → MarkAt m i
  unfolding MarkAt
  mark_at m i e =
      let l = marked m (kind_at ns i) e in
      let n = holds_at ns i (AMark l.0) l.1 in
      (n.0, n.1, l.0, n.2, n.3, l.2)

  module _ (held i m : ℕ) where
    -- "(" before an expression
    bracket_fed : (n : Node) (l : Mark) → n.item ≡ AMark l → is round (mark (mark_of l)) ≡ true → (text : List ℕ) (k : Stack) → fed text (need k) n ≡ on (need (bracket k))
    bracket_fed n l kind e text k = ap (λ y. feed_operand (need k) (says (part text n.place n.end) y) n.place) kind ∙ cond-true _ _ _ e

    pub bracket_deep : (f : Refusal) → is_at ns i Round ≡ true → ◌≡◌ {A = Result ℕ Refusal} (Err f) (enter_at i held) → ReadsNot 5 held ns i f
    unfolding MarkAt
    bracket_deep f at-round e =
        let n = mark_at Round i at-round in
        let past = enter_fails i held f e in
        record { by = λ text c k fits same apt. past_limit text ns c (need k) (need (bracket k)) i n.0 n.1 n.3 (bracket_fed n.0 n.2 n.4 n.5 text k) (omega (arith, past.1)) ∙ ap refusal (sym past.0) }

    bracket_in : is_at ns i Round ≡ true → ◌≡◌ {A = Result ℕ Refusal} (Ok m) (enter_at i held) → (text : List ℕ) (c : Context) (k : Stack) → opens k ≡ held → judged text ns (here c (need k)) i ≡ judged text ns (here c (need (bracket k))) (i + 1)
    unfolding MarkAt
    bracket_in at-round e text c k same =
        let n = mark_at Round i at-round in
        let room = enter_works i held m e in
        reads_on text ns c (need k) (need (bracket k)) i n.0 n.1 n.3 (bracket_fed n.0 n.2 n.4 n.5 text k) (omega (arith, room.1))

    pub bracket_break : (f : Refusal) → is_at ns i Round ≡ true → ◌≡◌ {A = Result ℕ Refusal} (Ok m) (enter_at i held) → ReadsNot 0 m ns (i + 1) f → ReadsNot 5 held ns i f
    bracket_break f at-round e h =
        let room = enter_works i held m e in
        record { by = λ text c k fits same apt. bracket_in at-round e text c k same ∙ h.by text c (bracket k) zero-le (omega (arith, room.0)) (λ _. refl) }

    pub bracket_close : (last : ℕ) → is_at ns i Round ≡ true → ◌≡◌ {A = Result ℕ Refusal} (Ok m) (enter_at i held) → ReadsTo 0 m ns (i + 1) last → Reads 5 held ns i (close_at ns last EndRound)
    unfolding MarkAt
    bracket_close last at-round e h = go (is_at ns last EndRound) refl
      where
        into : (text : List ℕ) (c : Context) (k : Stack) → opens k ≡ held → judged text ns (here c (need k)) i ≡ judged text ns (here c (have (h.tree text) (bracket k))) last
        into text c k same =
            let room = enter_works i held m e in
            bracket_in at-round e text c k same ∙ h.by text c (bracket k) zero-le (omega (arith, room.0)) (λ _. refl)

        shuts : (n : Node) (rest : List Node) (l : Mark) → drop last ns ≡ n ∷ rest → n.item ≡ AMark l → is end_round (mark (mark_of l)) ≡ true → opening (Some (AMark l)) ≡ false → Reads 5 held ns i (complete_at ns (last + 1))
        shuts n rest l there kind closes-it shut =
            let room = enter_works i held m e in
            complete_reads ns held i (last + 1) (λ text. brackets (h.tree text)) (λ text a. refl) (omega (arith, h.later)) (omega (arith, inside_table last ns n rest there))
            (λ text c k same apt. into text c k same
            ∙ reads_on text ns c (have (h.tree text) (bracket k)) (have (brackets (h.tree text)) k) last n rest there
            (ap (λ y. feed_operand (have (h.tree text) (bracket k)) (says (part text n.place n.end) y) n.place) kind
            ∙ closing (bracket k) (h.tree text) l (on (have (brackets (h.tree text)) k)) n.place refl shut (cond-true _ _ _ closes-it))
            (omega (arith, room.1)))

        go : (b : Bool) → is_at ns last EndRound ≡ b → Reads 5 held ns i (cond b (complete_at ns (last + 1)) (Err (refused_at last)))
        go true t =
            let l = marked EndRound (kind_at ns last) t in
            let n = holds_at ns last (AMark l.0) l.1 in
            shuts n.0 n.1 l.0 n.2 n.3 l.2 (subst (Stops 0) l.1 h.stops)
        go false t = record { by = λ text c k fits same apt. into text c k same ∙ refuses_at text ns c (have (h.tree text) (bracket k)) last (λ n seen. unclosed (bracket k) (h.tree text) refl n.item (subst (Stops 0) seen h.stops) (λ l same_kind. cond-false _ _ _ (is_not EndRound (kind_at ns last) n.item l t seen same_kind)) (part text n.place n.end) n.place) }

    -- "[" behind a name
    element_fed : (n : Node) (l : Mark) → n.item ≡ AMark l → is square (mark (mark_of l)) ≡ true → (text : List ℕ) (at : ℕ) (x : Name) (k : Stack) → fed text (have (variable at x plain) k) n ≡ on (need (element at x n.place k))
    element_fed n l kind e text at x k =
        ap (λ y. feed_operand (have (variable at x plain) k) (says (part text n.place n.end) y) n.place) kind
        ∙ cond-false _ _ _ (differ 2 0 (code (mark_of l)) e (λ z. omega arith)) ∙ cond-true _ _ _ e

    pub element_deep : (f : Refusal) → is_at ns i Square ≡ true → ◌≡◌ {A = Result ℕ Refusal} (Err f) (enter_at i held) → AppliesNot held ns i f
    unfolding MarkAt
    element_deep f at-square e =
        let n = mark_at Square i at-square in
        let past = enter_fails i held f e in
        record { by = λ text c at x k same. past_limit text ns c (have (variable at x plain) k) (need (element at x n.0.place k)) i n.0 n.1 n.3 (element_fed n.0 n.2 n.4 n.5 text at x k) (omega (arith, past.1)) ∙ ap refusal (sym past.0) }

    element_in : (n : Node) (rest : List Node) (l : Mark) → drop i ns ≡ n ∷ rest → n.item ≡ AMark l → is square (mark (mark_of l)) ≡ true → ◌≡◌ {A = Result ℕ Refusal} (Ok m) (enter_at i held) → (text : List ℕ) (c : Context) (at : ℕ) (x : Name) (k : Stack) → opens k ≡ held → judged text ns (here c (have (variable at x plain) k)) i ≡ judged text ns (here c (need (element at x n.place k))) (i + 1)
    element_in n rest l there kind square-there e text c at x k same =
        let room = enter_works i held m e in
        reads_on text ns c (have (variable at x plain) k) (need (element at x n.place k)) i n rest there (element_fed n l kind square-there text at x k) (omega (arith, room.1))

    pub element_break : (f : Refusal) → is_at ns i Square ≡ true → ◌≡◌ {A = Result ℕ Refusal} (Ok m) (enter_at i held) → ReadsNot 0 m ns (i + 1) f → AppliesNot held ns i f
    unfolding MarkAt
    element_break f at-square e h =
        let n = mark_at Square i at-square in
        let room = enter_works i held m e in
        record { by = λ text c at x k same. element_in n.0 n.1 n.2 n.3 n.4 n.5 e text c at x k same ∙ h.by text c (element at x n.0.place k) zero-le (omega (arith, room.0)) (λ _. refl) }

    element_to : (last : ℕ) (o : Node) (others : List Node) (q : Mark) → drop i ns ≡ o ∷ others → o.item ≡ AMark q → is square (mark (mark_of q)) ≡ true → ◌≡◌ {A = Result ℕ Refusal} (Ok m) (enter_at i held) → ReadsTo 0 m ns (i + 1) last → Applies held ns i (close_at ns last EndSquare)
    element_to last o others q at-o o-kind square-there e h = go (is_at ns last EndSquare) refl
      where
        into : (text : List ℕ) (c : Context) (at : ℕ) (x : Name) (k : Stack) → opens k ≡ held → judged text ns (here c (have (variable at x plain) k)) i ≡ judged text ns (here c (have (h.tree text) (element at x o.place k))) last
        into text c at x k same =
            let room = enter_works i held m e in
            element_in o others q at-o o-kind square-there e text c at x k same ∙ h.by text c (element at x o.place k) zero-le (omega (arith, room.0)) (λ _. refl)

        shuts : (n : Node) (rest : List Node) (l : Mark) → drop last ns ≡ n ∷ rest → n.item ≡ AMark l → is end_square (mark (mark_of l)) ≡ true → opening (Some (AMark l)) ≡ false → Applies held ns i (complete_at ns (last + 1))
        shuts n rest l there kind closes-it shut =
            let room = enter_works i held m e in
            complete_applies ns held i (last + 1) (λ text at x. variable at x (index o.place (h.tree text) plain)) (λ text at x a. refl) (omega (arith, h.later)) (omega (arith, inside_table last ns n rest there))
            (λ text c at x k same. into text c at x k same
            ∙ reads_on text ns c (have (h.tree text) (element at x o.place k)) (have (variable at x (index o.place (h.tree text) plain)) k) last n rest there
            (ap (λ y. feed_operand (have (h.tree text) (element at x o.place k)) (says (part text n.place n.end) y) n.place) kind
            ∙ closing (element at x o.place k) (h.tree text) l (on (have (variable at x (index o.place (h.tree text) plain)) k)) n.place refl shut (cond-true _ _ _ closes-it))
            (omega (arith, room.1)))

        go : (b : Bool) → is_at ns last EndSquare ≡ b → Applies held ns i (cond b (complete_at ns (last + 1)) (Err (refused_at last)))
        go true t =
            let l = marked EndSquare (kind_at ns last) t in
            let n = holds_at ns last (AMark l.0) l.1 in
            shuts n.0 n.1 l.0 n.2 n.3 l.2 (subst (Stops 0) l.1 h.stops)
        go false t = record { by = λ text c at x k same. into text c at x k same ∙ refuses_at text ns c (have (h.tree text) (element at x o.place k)) last (λ n seen. unclosed (element at x o.place k) (h.tree text) refl n.item (subst (Stops 0) seen h.stops) (λ l same_kind. cond-false _ _ _ (is_not EndSquare (kind_at ns last) n.item l t seen same_kind)) (part text n.place n.end) n.place) }

    pub element_close : (last : ℕ) → is_at ns i Square ≡ true → ◌≡◌ {A = Result ℕ Refusal} (Ok m) (enter_at i held) → ReadsTo 0 m ns (i + 1) last → Applies held ns i (close_at ns last EndSquare)
    unfolding MarkAt
    element_close last at-square e h =
        let n = mark_at Square i at-square in
        element_to last n.0 n.1 n.2 n.3 n.4 n.5 e h

    -- "(" behind a name
    call_fed : (n : Node) (l : Mark) → n.item ≡ AMark l → is round (mark (mark_of l)) ≡ true → (text : List ℕ) (at : ℕ) (x : Name) (k : Stack) → fed text (have (variable at x plain) k) n ≡ on (need (called at x n.place [] k))
    call_fed n l kind e text at x k =
        ap (λ y. feed_operand (have (variable at x plain) k) (says (part text n.place n.end) y) n.place) kind
        ∙ cond-true _ _ _ e

    pub call_deep : (f : Refusal) → is_at ns i Round ≡ true → ◌≡◌ {A = Result ℕ Refusal} (Err f) (enter_at i held) → AppliesNot held ns i f
    unfolding MarkAt
    call_deep f at-round e =
        let n = mark_at Round i at-round in
        let past = enter_fails i held f e in
        record { by = λ text c at x k same. past_limit text ns c (have (variable at x plain) k) (need (called at x n.0.place [] k)) i n.0 n.1 n.3 (call_fed n.0 n.2 n.4 n.5 text at x k) (omega (arith, past.1)) ∙ ap refusal (sym past.0) }

    call_in : (n : Node) (rest : List Node) (l : Mark) → drop i ns ≡ n ∷ rest → n.item ≡ AMark l → is round (mark (mark_of l)) ≡ true → ◌≡◌ {A = Result ℕ Refusal} (Ok m) (enter_at i held) → (text : List ℕ) (c : Context) (at : ℕ) (x : Name) (k : Stack) → opens k ≡ held → judged text ns (here c (have (variable at x plain) k)) i ≡ judged text ns (here c (need (called at x n.place [] k))) (i + 1)
    call_in n rest l there kind round-there e text c at x k same =
        let room = enter_works i held m e in
        reads_on text ns c (have (variable at x plain) k) (need (called at x n.place [] k)) i n rest there (call_fed n l kind round-there text at x k) (omega (arith, room.1))

    empty_fed : (o n : Node) (l : Mark) → n.item ≡ AMark l → is end_round (mark (mark_of l)) ≡ true → (text : List ℕ) (at : ℕ) (x : Name) (k : Stack) → fed text (need (called at x o.place [] k)) n ≡ on (have (call at x o.place no_args) k)
    empty_fed o n l kind e text at x k =
        ap (λ y. feed_operand (need (called at x o.place [] k)) (says (part text n.place n.end) y) n.place) kind
        ∙ cond-false _ _ _ (differ 1 0 (code (mark_of l)) e (λ z. omega arith)) ∙ cond-true _ _ _ e

    pub call_empty : is_at ns i Round ≡ true → ◌≡◌ {A = Result ℕ Refusal} (Ok m) (enter_at i held) → is_at ns (i + 1) EndRound ≡ true → Applies held ns i (complete_at ns (i + 2))
    unfolding MarkAt
    call_empty at-round e at_end =
        let o = mark_at Round i at-round in
        let n = mark_at EndRound (i + 1) at_end in
        let room = enter_works i held m e in
        let two : i + 1 + 1 ≡ i + 2 = omega arith in
        complete_applies ns held i (i + 2) (λ text at x. call at x o.0.place no_args) (λ text at x a. refl) (omega arith) (omega (arith, inside_table (i + 1) ns n.0 n.1 n.3))
        (λ text c at x k same.
        call_in o.0 o.1 o.2 o.3 o.4 o.5 e text c at x k same
        ∙ reads_on text ns c (need (called at x o.0.place [] k)) (have (call at x o.0.place no_args) k) (i + 1) n.0 n.1 n.3 (empty_fed o.0 n.0 n.2 n.4 n.5 text at x k) (omega (arith, room.1))
        ∙ ap (judged text ns (here c (have (call at x o.0.place no_args) k))) two)

    pub call_break : (f : Refusal) → is_at ns i Round ≡ true → ◌≡◌ {A = Result ℕ Refusal} (Ok m) (enter_at i held) → is_at ns (i + 1) EndRound ≡ false → PassesNot m ns (i + 1) f → AppliesNot held ns i f
    unfolding MarkAt
    call_break f at-round e some h =
        let o = mark_at Round i at-round in
        let room = enter_works i held m e in
        record { by = λ text c at x k same. call_in o.0 o.1 o.2 o.3 o.4 o.5 e text c at x k same ∙ h.by text c at x o.0.place [] k (omega (arith, room.0)) (λ t. absurd (both_ways _ some t)) }

    pub call_close : (next : ℕ) → is_at ns i Round ≡ true → ◌≡◌ {A = Result ℕ Refusal} (Ok m) (enter_at i held) → is_at ns (i + 1) EndRound ≡ false → PassesTo m ns (i + 1) next → Applies held ns i (complete_at ns next)
    unfolding MarkAt
    call_close next at-round e some h =
        let o = mark_at Round i at-round in
        let room = enter_works i held m e in
        complete_applies ns held i next (λ text at x. call at x o.0.place (arguments [] (h.first text) (h.others text))) (λ text at x a. refl) (omega (arith, h.later)) h.within
        (λ text c at x k same. call_in o.0 o.1 o.2 o.3 o.4 o.5 e text c at x k same ∙ h.by text c at x o.0.place [] k (omega (arith, room.0)) (λ t. absurd (both_ways _ some t)))

  pub applied_none : (held i : ℕ) → i ≤ length ns → is_at ns i Square ≡ false → is_at ns i Round ≡ false → AppliesTo held ns i i
  applied_none held i within square-no round-no = record { later = omega arith; within = within; stops = stops_whole (kind_at ns i) (or_from _ _ round-no square-no); tree = λ text at x. variable at x plain; by = λ text c at x k same. refl }

  -- arguments
  pub arguments_break : (held i : ℕ) (f : Refusal) → ReadsNot 0 held ns i f → PassesNot held ns i f
  arguments_break held i f h = record { by = λ text c at x q ds k same apt. h.by text c (called at x q ds k) zero-le same apt }

  module _ (held i next : ℕ) (low : held ≤ 8) (h : ReadsTo 0 held ns i next) where
    comma_in : (n : Node) (rest : List Node) (l : Mark) → drop next ns ≡ n ∷ rest → n.item ≡ AMark l → is comma (mark (mark_of l)) ≡ true → opening (Some (AMark l)) ≡ false → (text : List ℕ) (c : Context) (at : ℕ) (x : Name) (q : ℕ) (ds : List Expr) (k : Stack) → suc (opens k) ≡ held → Apt ns i (called at x q ds k) → judged text ns (here c (need (called at x q ds k))) i ≡ judged text ns (here c (need (called at x q (h.tree text ∷ ds) k))) (next + 1)
    comma_in n rest l there kind comma-there shut text c at x q ds k same apt =
        h.by text c (called at x q ds k) zero-le same apt
        ∙ reads_on text ns c (have (h.tree text) (called at x q ds k)) (need (called at x q (h.tree text ∷ ds) k)) next n rest there
        (ap (λ y. feed_operand (have (h.tree text) (called at x q ds k)) (says (part text n.place n.end) y) n.place) kind
        ∙ closing (called at x q ds k) (h.tree text) l (on (need (called at x q (h.tree text ∷ ds) k))) n.place refl shut
        (cond-false _ _ _ (differ 6 1 (code (mark_of l)) comma-there (λ z. omega arith)) ∙ cond-true _ _ _ comma-there))
        (omega arith)

    more_to : (n : Node) (rest : List Node) (l : Mark) → drop next ns ≡ n ∷ rest → n.item ≡ AMark l → is comma (mark (mark_of l)) ≡ true → opening (Some (AMark l)) ≡ false → (r : Result ℕ Refusal) → Passes held ns (next + 1) r → Passes held ns i r
    more_to n rest l there kind comma-there shut (Ok p) g =
        record {
          later = omega (arith, h.later, g.later);
          within = g.within;
          first = h.tree;
          others = λ text. argument (g.first text) (g.others text);
          by = λ text c at x q ds k same apt. comma_in n rest l there kind comma-there shut text c at x q ds k same apt ∙ g.by text c at x q (h.tree text ∷ ds) k same (λ _. refl);
        }
    more_to n rest l there kind comma-there shut (Err f) g =
        record { by = λ text c at x q ds k same apt. comma_in n rest l there kind comma-there shut text c at x q ds k same apt ∙ g.by text c at x q (h.tree text ∷ ds) k same (λ _. refl) }

    pub arguments_more : is_at ns next Comma ≡ true → (r : Result ℕ Refusal) → Passes held ns (next + 1) r → Passes held ns i r
    arguments_more t r g =
        let l = marked Comma (kind_at ns next) t in
        let n = holds_at ns next (AMark l.0) l.1 in
        more_to n.0 n.1 l.0 n.2 n.3 l.2 (subst (Stops 0) l.1 h.stops) r g

    last_to : (n : Node) (rest : List Node) (l : Mark) → drop next ns ≡ n ∷ rest → n.item ≡ AMark l → is end_round (mark (mark_of l)) ≡ true → opening (Some (AMark l)) ≡ false → PassesTo held ns i (next + 1)
    last_to n rest l there kind end-there shut =
        record {
          later = omega (arith, h.later);
          within = omega (arith, inside_table next ns n rest there);
          first = h.tree;
          others = λ text. no_args;
          by = λ text c at x q ds k same apt.
              h.by text c (called at x q ds k) zero-le same apt
              ∙ reads_on text ns c (have (h.tree text) (called at x q ds k)) (have (call at x q (arguments ds (h.tree text) no_args)) k) next n rest there
              (ap (λ y. feed_operand (have (h.tree text) (called at x q ds k)) (says (part text n.place n.end) y) n.place) kind
              ∙ closing (called at x q ds k) (h.tree text) l (on (have (call at x q (arguments ds (h.tree text) no_args)) k)) n.place refl shut (cond-true _ _ _ end-there))
              (omega arith);
        }

    pub arguments_last : is_at ns next EndRound ≡ true → PassesTo held ns i (next + 1)
    arguments_last t =
        let l = marked EndRound (kind_at ns next) t in
        let n = holds_at ns next (AMark l.0) l.1 in
        last_to n.0 n.1 l.0 n.2 n.3 l.2 (subst (Stops 0) l.1 h.stops)

    pub arguments_none : is_at ns next Comma ≡ false → is_at ns next EndRound ≡ false → PassesNot held ns i (refused_at next)
    arguments_none no-comma no_end =
        record {
          by = λ text c at x q ds k same apt.
              h.by text c (called at x q ds k) zero-le same apt
              ∙ refuses_at text ns c (have (h.tree text) (called at x q ds k)) next (λ n seen. unclosed (called at x q ds k) (h.tree text) refl n.item (subst (Stops 0) seen h.stops)
              (λ l same_kind. cond-false _ _ _ (is_not EndRound (kind_at ns next) n.item l no_end seen same_kind) ∙ cond-false _ _ _ (is_not Comma (kind_at ns next) n.item l no-comma seen same_kind)) (part text n.place n.end) n.place);
        }
