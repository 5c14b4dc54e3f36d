-- What the functions of the descent add to one another. Assumes nothing.
use Rattle.std.proofs.Common.{◌≡◌, ℕ, suc, ◌+◌, ◌<◌, ◌≤◌, Bool, true, false, cond, ◌||◌, eqb, leb, List, ◌∷◌, length, drop, Some, None, Ok, Err, Option, Result, sym, refl, ap, ◌∙◌, subst, zero-le, arith}
use Rattle.std.proofs.lemmas.Bool.{le-leb, lt-leb, eqb-true, ne_eqb, cond-true, cond-false, or_parts, true≢false, false≢true}
use Rattle.reckoning.specs.declared.Operator.{Operator}
use Rattle.reckoning.specs.declared.Operator.TheVariants.{Add, Subtract, Multiply, Divide, Remainder, Compare}
use Rattle.language.specs.Tree.{Name, Sign, minus, bang, Expr, number, variable, unary, binary, assign, plain}
use Rattle.grammar.specs.Lexemes.{round, square, mark, is}
use Rattle.grammar.specs.Words.{level}
use Rattle.grammar.specs.Parsing.{Stack, base, sign, left, target, bracket, element, called, need, have, Answer, no, on, settle, closes, applied, empty, feed_operand}
use Rattle.grammar.specs.Limits.{opens, wrong}
use Rattle.grammar.proofs.Pending.{level_bounds}
use Rattle.sheet.specs.declared.nodes.Mark.{Mark}
use Rattle.sheet.specs.declared.nodes.Mark.TheVariants.{Round, EndRound, Square, EndSquare, Brace, EndBrace, Comma, Semicolon, Int, Return, If, Else, While, For}
use Rattle.sheet.specs.declared.nodes.Kind.{Kind}
use Rattle.sheet.specs.declared.nodes.Kind.TheVariants.{Number as ANumber, Name as AName, Operator as AnOperator, Exclamation as AnExclamation, Equals as AnEquals, Mark as AMark}
use Rattle.sheet.specs.Nodes.{Node}
use Rattle.sheet.specs.declared.looks.Start.{Start}
use Rattle.sheet.specs.declared.looks.Start.TheVariants.{Sign as ASign, Number as ANumeral, Name as AWord, Open, Other}
use Rattle.sheet.specs.declared.refusal.Refusal.{Refusal}
use Rattle.sheet.specs.Nodes.{says, part, mark_of}
use Rattle.sheet.specs.Looks.{kind_at, start_of, binding, is_kind, equals_at, opening}
use Rattle.sheet.specs.Runs.{refused_at, complete_at, judged, Context, here, floor, Stops, Apt, ReadsTo, ReadsNot, Reads, ExtendsTo, ExtendsNot, Extends, Applies}
use Rattle.sheet.proofs.Machine.{inside_table, HoldsAt, holds_at, reads_on, refuses_at, same_at}

-- What follows an operand that is put together with what binds at level n.
abbrev Binds : ℕ → Kind → Type 0
Binds n (ANumber v) = Unit {0}
Binds n AName = Unit {0}
Binds n (AnOperator o) = level o ≤ n
Binds n AnExclamation = Unit {0}
Binds n AnEquals = 1 ≤ n
Binds n (AMark m) = opening (Some (AMark m)) ≡ false

stops_binds : (n : ℕ) (x : Kind) → Stops n (Some x) → Binds n x
stops_binds n (ANumber v) h = tt
stops_binds n AName h = tt
stops_binds n (AnOperator o) h = omega arith
stops_binds n AnExclamation h = tt
stops_binds n AnEquals h = h
stops_binds n (AMark m) h = h

stops_below : (n m : ℕ) (x : Kind) → 1 ≤ n → m ≤ suc n → Stops m (Some x) → Binds n x
stops_below n m (ANumber v) low high h = tt
stops_below n m AName low high h = tt
stops_below n m (AnOperator o) low high h = omega arith
stops_below n m AnExclamation low high h = tt
stops_below n m AnEquals low high h = low
stops_below n m (AMark l) low high h = h

-- two operands go on alike where everything is put together alike
alike : (n : ℕ) (e : Expr) (k : Stack) (f : Expr) (j : Stack) → ((m : ℕ) → m ≤ n → settle m k e ≡ settle m j f) → (x : Kind) → Binds n x → (bs : List ℕ) (at : ℕ) → feed_operand (have e k) (says bs x) at ≡ feed_operand (have f j) (says bs x) at
alike n e k f j same (ANumber v) b bs at = refl
alike n e k f j same AName b bs at = refl
alike n e k f j same (AnOperator o) b bs at = ap (λ h. on (need (left o at h.1 h.0))) (same (level o) b)
alike n e k f j same AnExclamation b bs at = refl
alike n e k f j same AnEquals b bs at = ap (λ h. on (need (target at h.1 h.0))) (same 1 b)
alike n e k f j same (AMark m) b bs at =
    let shut = or_parts (is round (mark (mark_of m))) (is square (mark (mark_of m))) b in
    cond-false _ _ _ shut.0 ∙ cond-false _ _ _ shut.1
    ∙ ap (λ h. closes (mark_of m) h.0 h.1) (same 0 zero-le)
    ∙ sym (cond-false _ _ _ shut.0 ∙ cond-false _ _ _ shut.1)

-- nothing is put together before a sign that binds tighter than the stack's top
kept : (n : ℕ) (k : Stack) (e : Expr) → 1 ≤ n → n ≤ 4 → floor k ≤ n → settle n k e ≡ (k, e)
kept n base e low high fits = refl
kept n (sign s p k) e low high fits = absurd (omega arith)
kept n (left o p l k) e low high fits = cond-false _ _ _ (lt-leb n (level o) (omega arith))
kept n (target p l k) e low high fits = cond-false _ _ _ (lt-leb n 0 (omega arith))
kept n (bracket k) e low high fits = refl
kept n (element p x q k) e low high fits = refl
kept n (called p x q ds k) e low high fits = refl

-- What a table shows, by what a function has found there.
abbrev RefusesStart : Kind → Type 0
RefusesStart x = (bs : List ℕ) (at : ℕ) (k : Stack) → (is_kind EndRound (Some x) ≡ true → empty k ≡ no) → feed_operand (need k) (says bs x) at ≡ no

abbrev StartsAs : Option Kind → Start → Type 0
StartsAs o ASign = (x : Kind) × (s : Sign) × (o ≡ Some x) × ((bs : List ℕ) (at : ℕ) (k : Stack) → feed_operand (need k) (says bs x) at ≡ on (need (sign s at k)))
StartsAs o ANumeral = (v : ℕ) × (o ≡ Some (ANumber v))
StartsAs o AWord = o ≡ Some AName
StartsAs o Open = o ≡ Some (AMark Round)
StartsAs o Other = (x : Kind) → o ≡ Some x → RefusesStart x

others : (y : Kind) → RefusesStart y → (x : Kind) → Some y ≡ Some x → RefusesStart x
others y h x e = let same : y ≡ x = cc in subst RefusesStart same h

start_cases : (o : Option Kind) → StartsAs o (start_of o)
start_cases None = λ x e. let z : ◌≡◌ {A = ℕ} 0 1 = cc in absurd (omega arith)
start_cases (Some (ANumber v)) = (v, refl)
start_cases (Some AName) = refl
start_cases (Some (AnOperator Add)) = others (AnOperator Add) (λ bs at k apt. refl)
start_cases (Some (AnOperator Subtract)) = (AnOperator Subtract, minus, refl, λ bs at k. refl)
start_cases (Some (AnOperator Multiply)) = others (AnOperator Multiply) (λ bs at k apt. refl)
start_cases (Some (AnOperator Divide)) = others (AnOperator Divide) (λ bs at k apt. refl)
start_cases (Some (AnOperator Remainder)) = others (AnOperator Remainder) (λ bs at k apt. refl)
start_cases (Some (AnOperator (Compare c))) = others (AnOperator (Compare c)) (λ bs at k apt. refl)
start_cases (Some AnExclamation) = (AnExclamation, bang, refl, λ bs at k. refl)
start_cases (Some AnEquals) = others AnEquals (λ bs at k apt. refl)
start_cases (Some (AMark Round)) = refl
start_cases (Some (AMark EndRound)) = others (AMark EndRound) (λ bs at k apt. apt refl)
start_cases (Some (AMark Square)) = others (AMark Square) (λ bs at k apt. refl)
start_cases (Some (AMark EndSquare)) = others (AMark EndSquare) (λ bs at k apt. refl)
start_cases (Some (AMark Brace)) = others (AMark Brace) (λ bs at k apt. refl)
start_cases (Some (AMark EndBrace)) = others (AMark EndBrace) (λ bs at k apt. refl)
start_cases (Some (AMark Comma)) = others (AMark Comma) (λ bs at k apt. refl)
start_cases (Some (AMark Semicolon)) = others (AMark Semicolon) (λ bs at k apt. refl)
start_cases (Some (AMark Int)) = others (AMark Int) (λ bs at k apt. refl)
start_cases (Some (AMark Return)) = others (AMark Return) (λ bs at k apt. refl)
start_cases (Some (AMark If)) = others (AMark If) (λ bs at k apt. refl)
start_cases (Some (AMark Else)) = others (AMark Else) (λ bs at k apt. refl)
start_cases (Some (AMark While)) = others (AMark While) (λ bs at k apt. refl)
start_cases (Some (AMark For)) = others (AMark For) (λ bs at k apt. refl)

started : (o : Option Kind) (s : Start) → s ≡ start_of o → StartsAs o s
started o s e = subst (StartsAs o) (sym e) (start_cases o)

abbrev pub Marked : Mark → Option Kind → Type 0
Marked m o = (l : Mark) × (o ≡ Some (AMark l)) × (is (mark_of m) (mark (mark_of l)) ≡ true)

pub marked : (m : Mark) (o : Option Kind) → is_kind m o ≡ true → Marked m o
marked m None e = absurd (false≢true e)
marked m (Some (ANumber v)) e = absurd (false≢true e)
marked m (Some AName) e = absurd (false≢true e)
marked m (Some (AnOperator o)) e = absurd (false≢true e)
marked m (Some AnExclamation) e = absurd (false≢true e)
marked m (Some AnEquals) e = absurd (false≢true e)
marked m (Some (AMark l)) e = (l, refl, e)

bound : (o : Option Kind) (n : ℕ) → n ≡ binding o → 1 ≤ n → (x : Operator) × (o ≡ Some (AnOperator x)) × (n ≡ level x)
bound None n e low = absurd (omega arith)
bound (Some (ANumber v)) n e low = absurd (omega arith)
bound (Some AName) n e low = absurd (omega arith)
bound (Some (AnOperator x)) n e low = (x, refl, e)
bound (Some AnExclamation) n e low = absurd (omega arith)
bound (Some AnEquals) n e low = absurd (omega arith)
bound (Some (AMark m)) n e low = absurd (omega arith)

equalled : (o : Option Kind) → equals_at o ≡ true → o ≡ Some AnEquals
equalled None e = absurd (false≢true e)
equalled (Some (ANumber v)) e = absurd (false≢true e)
equalled (Some AName) e = absurd (false≢true e)
equalled (Some (AnOperator o)) e = absurd (false≢true e)
equalled (Some AnExclamation) e = absurd (false≢true e)
equalled (Some AnEquals) e = refl
equalled (Some (AMark m)) e = absurd (false≢true e)

pub differ : (a b v : ℕ) → eqb a v ≡ true → (a ≡ b → ⊥) → eqb b v ≡ false
differ a b v e ne = ne_eqb b v (λ q. ne (eqb-true a v e ∙ sym q))

-- What may follow.
pub stops_whole : (o : Option Kind) → opening o ≡ false → Stops 5 o
stops_whole None h = tt
stops_whole (Some (ANumber v)) h = tt
stops_whole (Some AName) h = tt
stops_whole (Some (AnOperator o)) h = omega (arith, (level_bounds o).1)
stops_whole (Some AnExclamation) h = tt
stops_whole (Some AnEquals) h = omega arith
stops_whole (Some (AMark m)) h = h

stops_lower : (n : ℕ) (o : Option Kind) → 1 ≤ n → Stops 5 o → binding o < n → Stops n o
stops_lower n None low h b = tt
stops_lower n (Some (ANumber v)) low h b = tt
stops_lower n (Some AName) low h b = tt
stops_lower n (Some (AnOperator o)) low h b = b
stops_lower n (Some AnExclamation) low h b = tt
stops_lower n (Some AnEquals) low h b = low
stops_lower n (Some (AMark m)) low h b = h

stops_none : (o : Option Kind) → Stops 1 o → equals_at o ≡ false → Stops 0 o
stops_none None h e = tt
stops_none (Some (ANumber v)) h e = tt
stops_none (Some AName) h e = tt
stops_none (Some (AnOperator o)) h e = absurd (omega (arith, (level_bounds o).0))
stops_none (Some AnExclamation) h e = tt
stops_none (Some AnEquals) h e = absurd (true≢false e)
stops_none (Some (AMark m)) h e = h

-- An operand that no bracket opens behind.
abbrev pub Unapplied : Expr → Type 0
Unapplied e = (a : ℕ → Name → Answer) → applied e a ≡ no

opened_no : (a b : Bool) (x y z : Answer) → (a || b) ≡ true → x ≡ no → y ≡ no → cond a x (cond b y z) ≡ no
opened_no true b x y z o p q = p
opened_no false true x y z o p q = q
opened_no false false x y z o p q = absurd (false≢true o)

no_application : (e : Expr) (k : Stack) → Unapplied e → (x : Kind) → opening (Some x) ≡ true → (bs : List ℕ) (at : ℕ) → feed_operand (have e k) (says bs x) at ≡ no
no_application e k un (ANumber v) o bs at = refl
no_application e k un AName o bs at = refl
no_application e k un (AnOperator x) o bs at = absurd (false≢true o)
no_application e k un AnExclamation o bs at = refl
no_application e k un AnEquals o bs at = absurd (false≢true o)
no_application e k un (AMark m) o bs at = opened_no (is round (mark (mark_of m))) (is square (mark (mark_of m))) _ _ _ o (un _) (un _)

module _ (ns : List Node) where
  whole_ends : (text : List ℕ) (c : Context) (e : Expr) (k : Stack) (p : ℕ) → Unapplied e → opening (kind_at ns p) ≡ true → judged text ns (here c (have e k)) p ≡ wrong 6 p
  whole_ends text c e k p un o = refuses_at text ns c (have e k) p (λ m is. no_application e k un m.item (ap opening (sym is) ∙ o) _ _)

  -- an operand that is whole at p
  pub complete_reads : (held i p : ℕ) (tree : List ℕ → Expr) → ((text : List ℕ) → Unapplied (tree text)) → i < p → p ≤ length ns → ((text : List ℕ) (c : Context) (k : Stack) → opens k ≡ held → Apt ns i k → judged text ns (here c (need k)) i ≡ judged text ns (here c (have (tree text) k)) p) → Reads 5 held ns i (complete_at ns p)
  complete_reads held i p tree un later within by = go (opening (kind_at ns p)) refl
    where
      go : (b : Bool) → opening (kind_at ns p) ≡ b → Reads 5 held ns i (cond b (Err (refused_at p)) (Ok p))
      go true e = record { by = λ text c k fits same apt. by text c k same apt ∙ whole_ends text c (tree text) k p (un text) e }
      go false e = record { later = later; within = within; stops = stops_whole (kind_at ns p) e; tree = tree; by = λ text c k fits same apt. by text c k same apt }

  pub complete_applies : (held i p : ℕ) (tree : List ℕ → ℕ → Name → Expr) → ((text : List ℕ) (at : ℕ) (x : Name) → Unapplied (tree text at x)) → i ≤ p → p ≤ length ns → ((text : List ℕ) (c : Context) (at : ℕ) (x : Name) (k : Stack) → opens k ≡ held → judged text ns (here c (have (variable at x plain) k)) i ≡ judged text ns (here c (have (tree text at x) k)) p) → Applies held ns i (complete_at ns p)
  complete_applies held i p tree un later within by = go (opening (kind_at ns p)) refl
    where
      go : (b : Bool) → opening (kind_at ns p) ≡ b → Applies held ns i (cond b (Err (refused_at p)) (Ok p))
      go true e = record { by = λ text c at x k same. by text c at x k same ∙ whole_ends text c (tree text at x) k p (un text at x) e }
      go false e = record { later = later; within = within; stops = stops_whole (kind_at ns p) e; tree = tree; by = by }

  -- a sign before an operand
  sign_to : (held i : ℕ) (x : Kind) (s : Sign) → ((bs : List ℕ) (at : ℕ) (k : Stack) → feed_operand (need k) (says bs x) at ≡ on (need (sign s at k))) → (n : Node) (rest : List Node) → drop i ns ≡ n ∷ rest → n.item ≡ x → held ≤ 8 → (r : Result ℕ Refusal) → Reads 5 held ns (i + 1) r → Reads 5 held ns i r
  sign_to held i x s takes n rest there kind low (Ok p) h =
      record {
        later = omega (arith, h.later);
        within = h.within;
        stops = h.stops;
        tree = λ text. unary s n.place (h.tree text);
        by = λ text c k fits same apt.
            reads_on text ns c (need k) (need (sign s n.place k)) i n rest there (ap (λ y. feed_operand (need k) (says (part text n.place n.end) y) n.place) kind ∙ takes _ n.place k) (omega arith)
            ∙ h.by text c (sign s n.place k) (omega arith) same (λ _. refl)
            ∙ same_at text ns c (have (h.tree text) (sign s n.place k)) (have (unary s n.place (h.tree text)) k) p (λ m is. alike 4 (h.tree text) (sign s n.place k) (unary s n.place (h.tree text)) k (λ q _. refl) m.item (stops_below 4 5 m.item (omega arith) (omega arith) (subst (Stops 5) is h.stops)) (part text m.place m.end) m.place);
      }
  sign_to held i x s takes n rest there kind low (Err f) h =
      record {
        by = λ text c k fits same apt.
            reads_on text ns c (need k) (need (sign s n.place k)) i n rest there (ap (λ y. feed_operand (need k) (says (part text n.place n.end) y) n.place) kind ∙ takes _ n.place k) (omega arith)
            ∙ h.by text c (sign s n.place k) (omega arith) same (λ _. refl);
      }

  pub sign_reads : (held i : ℕ) → ASign ≡ start_of (kind_at ns i) → held ≤ 8 → (r : Result ℕ Refusal) → Reads 5 held ns (i + 1) r → Reads 5 held ns i r
  sign_reads held i e low r h =
      let s = started (kind_at ns i) ASign e in
      let n = holds_at ns i s.0 s.2 in
      sign_to held i s.0 s.1 s.3 n.0 n.1 n.2 n.3 low r h

  pub number_reads : (held i : ℕ) → ANumeral ≡ start_of (kind_at ns i) → held ≤ 8 → Reads 5 held ns i (complete_at ns (i + 1))
  number_reads held i e low =
      let s = started (kind_at ns i) ANumeral e in
      let n = holds_at ns i (ANumber s.0) s.1 in
      complete_reads held i (i + 1) (λ text. number s.0) (λ text a. refl) (omega arith) (omega (arith, inside_table i ns n.0 n.1 n.2))
      (λ text c k same apt. reads_on text ns c (need k) (have (number s.0) k) i n.0 n.1 n.2 (ap (λ y. feed_operand (need k) (says (part text n.0.place n.0.end) y) n.0.place) n.3) (omega arith))

  pub name_reads : (held i : ℕ) → AWord ≡ start_of (kind_at ns i) → held ≤ 8 → (r : Result ℕ Refusal) → Applies held ns (i + 1) r → Reads 5 held ns i r
  name_reads held i e low r h = go n.0 n.1 n.2 n.3 r h
    where
      n : HoldsAt ns i AName
      n = holds_at ns i AName (started (kind_at ns i) AWord e)

      begins : (m : Node) (rest : List Node) → drop i ns ≡ m ∷ rest → m.item ≡ AName → (text : List ℕ) (c : Context) (k : Stack) → opens k ≡ held → judged text ns (here c (need k)) i ≡ judged text ns (here c (have (variable m.place (part text m.place m.end) plain) k)) (i + 1)
      begins m rest there kind text c k same = reads_on text ns c (need k) (have (variable m.place (part text m.place m.end) plain) k) i m rest there (ap (λ y. feed_operand (need k) (says (part text m.place m.end) y) m.place) kind) (omega arith)

      go : (m : Node) (rest : List Node) → drop i ns ≡ m ∷ rest → m.item ≡ AName → (r : Result ℕ Refusal) → Applies held ns (i + 1) r → Reads 5 held ns i r
      go m rest there kind (Ok p) h =
          record {
            later = omega (arith, h.later);
            within = h.within;
            stops = h.stops;
            tree = λ text. h.tree text m.place (part text m.place m.end);
            by = λ text c k fits same apt. begins m rest there kind text c k same ∙ h.by text c m.place (part text m.place m.end) k same;
          }
      go m rest there kind (Err f) h = record { by = λ text c k fits same apt. begins m rest there kind text c k same ∙ h.by text c m.place (part text m.place m.end) k same }

  pub other_reads : (held i : ℕ) → Other ≡ start_of (kind_at ns i) → Reads 5 held ns i (Err (refused_at i))
  other_reads held i e =
      let s = started (kind_at ns i) Other e in
      record { by = λ text c k fits same apt. refuses_at text ns c (need k) i (λ m is. s m.item is _ _ k (λ t. apt (ap (is_kind EndRound) is ∙ t))) }

  -- operands and operators
  pub operation_reads : (least held i next : ℕ) → least ≤ 5 → ReadsTo 5 held ns i next → (r : Result ℕ Refusal) → Extends least held ns next r → Reads least held ns i r
  operation_reads least held i next high h (Ok p) g =
      record {
        later = omega (arith, h.later, g.later);
        within = g.within;
        stops = g.stops;
        tree = λ text. g.tree text (h.tree text);
        by = λ text c k fits same apt. h.by text c k (omega arith) same apt ∙ g.by text c (h.tree text) k fits same;
      }
  operation_reads least held i next high h (Err f) g = record { by = λ text c k fits same apt. h.by text c k (omega arith) same apt ∙ g.by text c (h.tree text) k fits same }

  -- a refusal at one level is one at each level below
  pub refuses_lower : (least more held i : ℕ) (f : Refusal) → least ≤ more → ReadsNot more held ns i f → ReadsNot least held ns i f
  refuses_lower least more held i f low h = record { by = λ text c k fits same apt. h.by text c k (omega arith) same apt }

  pub operators_end : (least held i : ℕ) → 1 ≤ least → Stops 5 (kind_at ns i) → i ≤ length ns → binding (kind_at ns i) < least → ExtendsTo least held ns i i
  operators_end least held i low stops within b = record { later = omega arith; within = within; stops = stops_lower least (kind_at ns i) low stops b; tree = λ text e. e; by = λ text c e k fits same. refl }

  module _ (least held i lev : ℕ) (low : 1 ≤ least) (brackets-fit : held ≤ 8) (is : lev ≡ binding (kind_at ns i)) (binds : least ≤ lev) where
    operator_at : (x : Operator) × (kind_at ns i ≡ Some (AnOperator x)) × (lev ≡ level x)
    operator_at = bound (kind_at ns i) lev is (omega arith)

    operator_read : (x : Operator) (n : Node) (rest : List Node) → drop i ns ≡ n ∷ rest → n.item ≡ AnOperator x → lev ≡ level x → (text : List ℕ) (c : Context) (e : Expr) (k : Stack) → floor k ≤ least → opens k ≡ held → judged text ns (here c (have e k)) i ≡ judged text ns (here c (need (left x n.place e k))) (i + 1)
    operator_read x n rest there kind same-level text c e k fits same =
        reads_on text ns c (have e k) (need (left x n.place e k)) i n rest there
        (ap (λ y. feed_operand (have e k) (says (part text n.place n.end) y) n.place) kind
        ∙ ap (λ h. on (need (left x n.place h.1 h.0))) (kept (level x) k e (level_bounds x).0 (level_bounds x).1 (omega arith)))
        (omega arith)

    step_to : (x : Operator) (n : Node) (rest : List Node) → drop i ns ≡ n ∷ rest → n.item ≡ AnOperator x → lev ≡ level x → (next : ℕ) → ReadsTo (lev + 1) held ns (i + 1) next → (r : Result ℕ Refusal) → Extends least held ns next r → Extends least held ns i r
    step_to x n rest there kind same-level next h r g = go r g
      where
        through : (text : List ℕ) (c : Context) (e : Expr) (k : Stack) → floor k ≤ least → opens k ≡ held → judged text ns (here c (have e k)) i ≡ judged text ns (here c (have (binary x n.place e (h.tree text)) k)) next
        through text c e k fits same =
            operator_read x n rest there kind same-level text c e k fits same
            ∙ h.by text c (left x n.place e k) (omega arith) same (λ _. refl)
            ∙ same_at text ns c (have (h.tree text) (left x n.place e k)) (have (binary x n.place e (h.tree text)) k) next
            (λ m seen. alike (level x) (h.tree text) (left x n.place e k) (binary x n.place e (h.tree text)) k (λ q under. cond-true (leb q (level x)) (settle q k (binary x n.place e (h.tree text))) (left x n.place e k, h.tree text) (le-leb q (level x) under)) m.item (stops_below (level x) (lev + 1) m.item (level_bounds x).0 (omega arith) (subst (Stops (lev + 1)) seen h.stops)) (part text m.place m.end) m.place)

        go : (r : Result ℕ Refusal) → Extends least held ns next r → Extends least held ns i r
        go (Ok p) g =
            record {
              later = omega (arith, h.later, g.later);
              within = g.within;
              stops = g.stops;
              tree = λ text e. g.tree text (binary x n.place e (h.tree text));
              by = λ text c e k fits same. through text c e k fits same ∙ g.by text c (binary x n.place e (h.tree text)) k fits same;
            }
        go (Err f) g = record { by = λ text c e k fits same. through text c e k fits same ∙ g.by text c (binary x n.place e (h.tree text)) k fits same }

    pub operators_step : (next : ℕ) → ReadsTo (lev + 1) held ns (i + 1) next → (r : Result ℕ Refusal) → Extends least held ns next r → Extends least held ns i r
    operators_step next h r g =
        let o = operator_at in
        let n = holds_at ns i (AnOperator o.0) o.1 in
        step_to o.0 n.0 n.1 n.2 n.3 o.2 next h r g

    pub operators_break : (f : Refusal) → ReadsNot (lev + 1) held ns (i + 1) f → ExtendsNot least held ns i f
    operators_break f h =
        let o = operator_at in
        let n = holds_at ns i (AnOperator o.0) o.1 in
        let same-level = o.2 in
        record { by = λ text c e k fits same. operator_read o.0 n.0 n.1 n.2 n.3 same-level text c e k fits same ∙ h.by text c (left o.0 n.0.place e k) (omega arith) same (λ _. refl) }

  -- what an operation becomes
  pub expression_ends : (held i next : ℕ) → ReadsTo 1 held ns i next → equals_at (kind_at ns next) ≡ false → ReadsTo 0 held ns i next
  expression_ends held i next h e = record { later = h.later; within = h.within; stops = stops_none (kind_at ns next) h.stops e; tree = h.tree; by = λ text c k fits same apt. h.by text c k (omega arith) same apt }

  assigns_to : (held i next : ℕ) → held ≤ 8 → ReadsTo 1 held ns i next → (n : Node) (rest : List Node) → drop next ns ≡ n ∷ rest → n.item ≡ AnEquals → (r : Result ℕ Refusal) → Reads 0 held ns (next + 1) r → Reads 0 held ns i r
  assigns_to held i next low h n rest there kind r g = go r g
    where
      through : (text : List ℕ) (c : Context) (k : Stack) → floor k ≤ 0 → opens k ≡ held → Apt ns i k → judged text ns (here c (need k)) i ≡ judged text ns (here c (need (target n.place (h.tree text) k))) (next + 1)
      through text c k fits same apt =
          h.by text c k (omega arith) same apt
          ∙ reads_on text ns c (have (h.tree text) k) (need (target n.place (h.tree text) k)) next n rest there
          (ap (λ y. feed_operand (have (h.tree text) k) (says (part text n.place n.end) y) n.place) kind
          ∙ ap (λ v. on (need (target n.place v.1 v.0))) (kept 1 k (h.tree text) (omega arith) (omega arith) (omega arith)))
          (omega arith)

      go : (r : Result ℕ Refusal) → Reads 0 held ns (next + 1) r → Reads 0 held ns i r
      go (Ok p) g =
          record {
            later = omega (arith, h.later, g.later);
            within = g.within;
            stops = g.stops;
            tree = λ text. assign n.place (h.tree text) (g.tree text);
            by = λ text c k fits same apt.
                through text c k fits same apt
                ∙ g.by text c (target n.place (h.tree text) k) (omega arith) same (λ _. refl)
                ∙ same_at text ns c (have (g.tree text) (target n.place (h.tree text) k)) (have (assign n.place (h.tree text) (g.tree text)) k) p
                (λ m seen. alike 0 (g.tree text) (target n.place (h.tree text) k) (assign n.place (h.tree text) (g.tree text)) k (λ q under. cond-true (leb q 0) (settle q k (assign n.place (h.tree text) (g.tree text))) (target n.place (h.tree text) k, g.tree text) (le-leb q 0 under)) m.item (stops_binds 0 m.item (subst (Stops 0) seen g.stops)) (part text m.place m.end) m.place);
          }
      go (Err f) g = record { by = λ text c k fits same apt. through text c k fits same apt ∙ g.by text c (target n.place (h.tree text) k) (omega arith) same (λ _. refl) }

  pub expression_assigns : (held i next : ℕ) → held ≤ 8 → ReadsTo 1 held ns i next → equals_at (kind_at ns next) ≡ true → (r : Result ℕ Refusal) → Reads 0 held ns (next + 1) r → Reads 0 held ns i r
  expression_assigns held i next low h e r g =
      let n = holds_at ns next AnEquals (equalled (kind_at ns next) e) in
      assigns_to held i next low h n.0 n.1 n.2 n.3 r g
