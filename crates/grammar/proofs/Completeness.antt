-- The tokens of a well-formed tree are accepted with that tree. Assumes nothing.
use Rattle.std.proofs.Common.{◌≡◌, ℕ, ◌≤◌, Bool, true, false, List, [], ◌∷◌, ◌++◌, Some, None, sym, refl, ap, ◌∙◌, subst, append-nil, arith}
use Rattle.std.specs.List.{AllByRecursion}
use Rattle.std.proofs.lemmas.Bool.{le-leb, lt-leb, cond-true, cond-false, both_ways}
use Rattle.language.specs.Tree.{Name, Sign, minus, bang, Expr, number, variable, call, unary, binary, assign, brackets, Indices, plain, index, Args, no_args, argument, Stmt, expr, block, return, if_then, if_else, while, for, Stmts, end, then, Variable, Function, Sheet}
use Rattle.grammar.specs.Lexemes.{Mark, round, end_round, square, end_square, end_brace, semicolon, int_word, else_word, Lexeme, numeral, identifier, operator, exclamation, equals, mark, Token, is}
use Rattle.grammar.specs.Words.{Word, free, placed, sign_lexeme, Spell, level, level_of, Ok, OkIndices, OkArgs, OkStatement, OkStatements, Shut, Few, OkVariable, OkParameter, OkFunction, Spells}
use Rattle.grammar.specs.Parsing.{Stack, base, sign, left, target, bracket, element, called, Operand, need, have, on, settle, arguments, closes, feed_operand, Pending, body, in_block, in_then, in_else, in_while, in_for, Part, performed, returned, if_test, while_test, for_first, for_test, for_step, Inside, statement, after, reading, goes, statements, settled, resumes, begins, feed_inside, Declaring, typed, named, opened, sized, closed, simple, array, Heading, State, sheet, declaring, parameters, parameter, parameter_end, signature, locals, local, inside, onto, made, turns, feed, accepted, later, if_taken, ending, parse, verdict}
use Rattle.grammar.proofs.Spelling.{spell, spell_indices, spell_args, spell_more, spell_statement, spell_statements, spell_sizes, spell_variable, spell_others, spell_parameters, spell_function, each, sheet_is}
use Rattle.grammar.proofs.Pending.{floor, level_bounds}

-- Tokens that spell the words, from this state on, are accepted with the tree.
record Ends (s : State) (w : List Word) (u : Sheet) : Type 0 where
  by : (ts : List Token) → Spell ts w → parse s ts ≡ accepted u

step_loose : {s r : State} {l : Lexeme} {w : List Word} {u : Sheet} → ((at : ℕ) → feed s (l, at) ≡ Some r) → Ends r w u → Ends s ((l, None) ∷ w) u
step_loose {s} {r} {l} {w} {u} takes rest = record { by = go }
  where
    go : (ts : List Token) → Spell ts ((l, None) ∷ w) → parse s ts ≡ accepted u
    go [] h = absurd h
    go (t ∷ ts) h = ap (λ o. if_taken o (λ x. parse x ts)) (ap (λ k. feed s (k, t.1)) h.0 ∙ takes t.1) ∙ ap later (rest.by ts h.2)

step_fixed : {s r : State} {l : Lexeme} {p : ℕ} {w : List Word} {u : Sheet} → feed s (l, p) ≡ Some r → Ends r w u → Ends s ((l, Some p) ∷ w) u
step_fixed {s} {r} {l} {p} {w} {u} takes rest = record { by = go }
  where
    go : (ts : List Token) → Spell ts ((l, Some p) ∷ w) → parse s ts ≡ accepted u
    go [] h = absurd h
    go (t ∷ ts) h =
        let same : feed s t ≡ feed s (l, p) = λ i. feed s (h.0 i, h.1 i) in
        ap (λ o. if_taken o (λ x. parse x ts)) (same ∙ takes) ∙ ap later (rest.by ts h.2)

-- What may follow an operand of level n: a sign that binds no tighter, or a mark that opens nothing.
abbrev Binds : ℕ → Lexeme → Type 0
Binds n (numeral k) = ⊥
Binds n (identifier x) = ⊥
Binds n (operator o) = level o ≤ n
Binds n exclamation = ⊥
Binds n equals = 1 ≤ n
Binds n (mark m) = (is round (mark m) ≡ false) × (is square (mark m) ≡ false)

abbrev Follows : ℕ → List Word → Type 0
Follows n [] = ⊥
Follows n (x ∷ w) = Binds n x.0

binds_more : (a b : ℕ) (l : Lexeme) → a ≤ b → Binds a l → Binds b l
binds_more a b (numeral k) low h = h
binds_more a b (identifier x) low h = h
binds_more a b (operator o) low h = omega arith
binds_more a b exclamation low h = h
binds_more a b equals low h = omega arith
binds_more a b (mark m) low h = h

follows_more : (a b : ℕ) (w : List Word) → a ≤ b → Follows a w → Follows b w
follows_more a b [] low h = h
follows_more a b (x ∷ w) low h = binds_more a b x.0 low h

-- nothing is put together before a sign that binds tighter than the stack's top
kept : (n : ℕ) (k : Stack) (e : Expr) → 1 ≤ n → n ≤ 4 → floor k ≤ n → settle n k e ≡ (k, e)
kept n base e low high fits = refl
kept n (sign s p k) e low high fits = absurd (omega arith)
kept n (left o p l k) e low high fits = cond-false _ _ _ (lt-leb n (level o) (omega arith))
kept n (target p l k) e low high fits = cond-false _ _ _ (lt-leb n 0 (omega arith))
kept n (bracket k) e low high fits = refl
kept n (element p x q k) e low high fits = refl
kept n (called p x q ds k) e low high fits = refl

-- two operands go on alike where everything is put together alike
alike : (n : ℕ) (e : Expr) (k : Stack) (f : Expr) (j : Stack) → ((m : ℕ) → m ≤ n → settle m k e ≡ settle m j f) → (l : Lexeme) (at : ℕ) → Binds n l → feed_operand (have e k) l at ≡ feed_operand (have f j) l at
alike n e k f j same (numeral i) at b = absurd b
alike n e k f j same (identifier x) at b = absurd b
alike n e k f j same (operator o) at b = ap (λ h. on (need (left o at h.1 h.0))) (same (level o) b)
alike n e k f j same exclamation at b = absurd b
alike n e k f j same equals at b = ap (λ h. on (need (target at h.1 h.0))) (same 1 b)
alike n e k f j same (mark m) at b =
    cond-false _ _ _ b.0 ∙ cond-false _ _ _ b.1
    ∙ ap (λ h. closes m h.0 h.1) (same 0 (omega arith))
    ∙ sym (cond-false _ _ _ b.0 ∙ cond-false _ _ _ b.1)

module _ (h : Heading) (ps ls : List Variable) (u : Sheet) where
  -- a function's inside
  abbrev at : Inside → State
  at i = inside h ps ls i

  inner_loose : {i j : Inside} {l : Lexeme} {w : List Word} → ((p : ℕ) → feed_inside i l p ≡ goes j) → Ends (at j) w u → Ends (at i) ((l, None) ∷ w) u
  inner_loose takes rest = step_loose (λ p. ap (turns h ps ls) (takes p)) rest

  inner_fixed : {i j : Inside} {l : Lexeme} {p : ℕ} {w : List Word} → feed_inside i l p ≡ goes j → Ends (at j) w u → Ends (at i) ((l, Some p) ∷ w) u
  inner_fixed takes rest = step_fixed (ap (turns h ps ls) takes) rest

  module _ (part : Part) (pending : Pending) where
    abbrev In : Operand → List Word → Type 0
    In o w = Ends (at (reading part pending o)) w u

    loose : {o q : Operand} {l : Lexeme} {w : List Word} → ((p : ℕ) → feed_operand o l p ≡ on q) → In q w → In o ((l, None) ∷ w)
    loose takes rest = inner_loose (λ p. ap (resumes part pending) (takes p)) rest

    fixed : {o q : Operand} {l : Lexeme} {p : ℕ} {w : List Word} → feed_operand o l p ≡ on q → In q w → In o ((l, Some p) ∷ w)
    fixed takes rest = inner_fixed (ap (resumes part pending) takes) rest

    -- an operand that the stack's top goes together with
    absorb : (n : ℕ) (e : Expr) (k : Stack) (f : Expr) (j : Stack) (w : List Word) → ((m : ℕ) → m ≤ n → settle m k e ≡ settle m j f) → Follows n w → In (have f j) w → In (have e k) w
    absorb n e k f j [] same follows rest = absurd follows
    absorb n e k f j (x ∷ w) same follows rest = record { by = go }
      where
        go : (ts : List Token) → Spell ts (x ∷ w) → parse (at (reading part pending (have e k))) ts ≡ accepted u
        go [] s = absurd s
        go (t ∷ ts) s =
            ap (λ a. if_taken (turns h ps ls (resumes part pending a)) (λ r. parse r ts)) (alike n e k f j same t.0 t.1 (subst (Binds n) (sym s.0) follows))
            ∙ rest.by (t ∷ ts) s

    closing : (n : ℕ) (es : Args) (w : List Word) → Follows n (spell_more es (free end_round ∷ w))
    closing n no_args w = (refl, refl)
    closing n (argument e es) w = (refl, refl)

    signs : (s : Sign) (p : ℕ) (k : Stack) → feed_operand (need k) (sign_lexeme s) p ≡ on (need (sign s p k))
    signs minus p k = refl
    signs bang p k = refl

    mutual
      complete : (e : Expr) (k : Stack) (w : List Word) → Ok e → floor k ≤ level_of e → Follows (level_of e) w → In (have e k) w → In (need k) (spell e w)
      complete (number n) k w ok fits follows rest = loose (λ p. refl) rest
      complete (variable p x is) k w ok fits follows rest = fixed refl (complete_indices is p x k w ok rest)
      complete (call p x q es) k w ok fits follows rest = fixed refl (fixed refl (complete_args es p x q k w ok rest))
      complete (unary s p e) k w ok fits follows rest =
          fixed (signs s p k) (complete e (sign s p k) w ok.0 ok.1 (follows_more 5 (level_of e) w ok.1 follows)
          (absorb 5 e (sign s p k) (unary s p e) k w (λ m low. refl) follows rest))
      complete (binary o p l r) k w ok fits follows rest =
          complete l k _ ok.0 (omega arith) ok.2
          (fixed (ap (λ v. on (need (left o p v.1 v.0))) (kept (level o) k l (level_bounds o).0 (level_bounds o).1 fits))
          (complete r (left o p l k) w ok.1 ok.3 (follows_more (level o) (level_of r) w (omega arith) follows)
          (absorb (level o) r (left o p l k) (binary o p l r) k w (λ m low. cond-true _ _ _ (le-leb m (level o) low)) follows rest)))
      complete (assign p l r) k w ok fits follows rest =
          complete l k _ ok.0 (omega arith) ok.2
          (fixed (ap (λ v. on (need (target p v.1 v.0))) (kept 1 k l (omega arith) (omega arith) (omega arith)))
          (complete r (target p l k) w ok.1 (omega arith) (follows_more 0 (level_of r) w (omega arith) follows)
          (absorb 0 r (target p l k) (assign p l r) k w (λ m low. cond-true _ _ _ (le-leb m 0 low)) follows rest)))
      complete (brackets e) k w ok fits follows rest =
          loose (λ p. refl) (complete e (bracket k) _ ok (omega arith) (refl, refl) (loose (λ p. refl) rest))

      complete_indices : (is : Indices) (p : ℕ) (x : Name) (k : Stack) (w : List Word) → OkIndices is → In (have (variable p x is) k) w → In (have (variable p x plain) k) (spell_indices is w)
      complete_indices plain p x k w ok rest = rest
      complete_indices (index q e is) p x k w ok rest =
          fixed refl (complete e (element p x q k) _ ok.0 (omega arith) (refl, refl)
          (subst (λ js. In (have (variable p x (index q e js)) k) w → In (have e (element p x q k)) (free end_square ∷ spell_indices js w)) (sym ok.1) (λ r. loose (λ p. refl) r) rest))

      complete_args : (es : Args) (p : ℕ) (x : Name) (q : ℕ) (k : Stack) (w : List Word) → OkArgs es → In (have (call p x q es) k) w → In (need (called p x q [] k)) (spell_args es (free end_round ∷ w))
      complete_args no_args p x q k w ok rest = loose (λ p. refl) rest
      complete_args (argument e es) p x q k w ok rest = complete e (called p x q [] k) _ ok.0 (omega arith) (closing (level_of e) es w) (complete_more es p x q [] e k w ok.1 rest)

      complete_more : (es : Args) (p : ℕ) (x : Name) (q : ℕ) (ds : List Expr) (e : Expr) (k : Stack) (w : List Word) → OkArgs es → In (have (call p x q (arguments ds e es)) k) w → In (have e (called p x q ds k)) (spell_more es (free end_round ∷ w))
      complete_more no_args p x q ds e k w ok rest = loose (λ p. refl) rest
      complete_more (argument f es) p x q ds e k w ok rest = loose (λ p. refl) (complete f (called p x q (e ∷ ds) k) _ ok.0 (omega arith) (closing (level_of f) es w) (complete_more es p x q (e ∷ ds) f k w ok.1 rest))

-- whether the words begin with a mark
abbrev first_is : Mark → List Word → Bool
first_is m [] = false
first_is m (x ∷ w) = is m x.0

-- An expression begins with a token that begins no other statement.
abbrev Starter : Lexeme → Type 0
Starter (numeral n) = Unit {0}
Starter (identifier x) = Unit {0}
Starter (operator o) = Unit {0}
Starter exclamation = Unit {0}
Starter equals = Unit {0}
Starter (mark m) = m ≡ round

abbrev Starts : List Word → Type 0
Starts [] = ⊥
Starts (x ∷ w) = Starter x.0

starts : (e : Expr) (w : List Word) → Starts (spell e w)
starts (number n) w = tt
starts (variable p x is) w = tt
starts (call p x q es) w = tt
starts (unary minus p e) w = tt
starts (unary bang p e) w = tt
starts (binary o p l r) w = starts l _
starts (assign p l r) w = starts l _
starts (brackets e) w = refl

-- what the words of a statement never begin with
abbrev Plain : List Word → Type 0
Plain w = (first_is else_word w ≡ false) × (first_is int_word w ≡ false)

starter_plain : (l : Lexeme) → Starter l → (is else_word l ≡ false) × (is int_word l ≡ false)
starter_plain (numeral n) h = (refl, refl)
starter_plain (identifier x) h = (refl, refl)
starter_plain (operator o) h = (refl, refl)
starter_plain exclamation h = (refl, refl)
starter_plain equals h = (refl, refl)
starter_plain (mark m) h = (ap (λ k. is else_word (mark k)) h, ap (λ k. is int_word (mark k)) h)

starts_plain : (w : List Word) → Starts w → Plain w
starts_plain [] h = absurd h
starts_plain (x ∷ w) h = starter_plain x.0 h

statement_plain : (s : Stmt) (w : List Word) → Plain (spell_statement s w)
statement_plain (expr e) w = starts_plain (spell e (free semicolon ∷ w)) (starts e (free semicolon ∷ w))
statement_plain (block ss) w = (refl, refl)
statement_plain (return e) w = (refl, refl)
statement_plain (if_then p c s) w = (refl, refl)
statement_plain (if_else p c s t) w = (refl, refl)
statement_plain (while p c s) w = (refl, refl)
statement_plain (for p a b c s) w = (refl, refl)

statements_plain : (ss : Stmts) (w : List Word) → Plain w → Plain (spell_statements ss w)
statements_plain end w h = h
statements_plain (then s ss) w h = statement_plain s (spell_statements ss w)

begins_expression : (k : Pending) (l : Lexeme) (p : ℕ) → Starter l → begins k l p ≡ resumes performed k (feed_operand (need base) l p)
begins_expression k (numeral n) p h = refl
begins_expression k (identifier x) p h = refl
begins_expression k (operator o) p h = refl
begins_expression k exclamation p h = refl
begins_expression k equals p h = refl
begins_expression k (mark m) p h = subst (λ n. begins k (mark n) p ≡ resumes performed k (feed_operand (need base) (mark n) p)) (sym h) refl

-- statements, latest first, behind those before
abbrev pushed : List Stmt → Stmts → List Stmt
pushed before end = before
pushed before (then s ss) = pushed (s ∷ before) ss

pushed_statements : (before : List Stmt) (ss : Stmts) → statements (pushed before ss) end ≡ statements before ss
pushed_statements before end = refl
pushed_statements before (then s ss) = pushed_statements (s ∷ before) ss

-- an else behind the statement would be its own
abbrev Apt : Stmt → List Word → Type 0
Apt s w = first_is else_word w ≡ true → Shut s

module _ (h : Heading) (ps ls : List Variable) (u : Sheet) where
  -- states that go on alike with each token that the words may begin with
  same_state : (P : Lexeme → Type 0) (r s : State) (w : List Word) → ((x : Word) (v : List Word) → w ≡ x ∷ v → P x.0) → ending r ≡ ending s → ((l : Lexeme) (p : ℕ) → P l → feed r (l, p) ≡ feed s (l, p)) → Ends s w u → Ends r w u
  same_state P r s [] may End-same same rest = record { by = go }
    where
      go : (ts : List Token) → Spell ts [] → parse r ts ≡ accepted u
      go [] h = End-same ∙ rest.by [] h
      go (t ∷ ts) h = absurd h
  same_state P r s (x ∷ w) may End-same same rest = record { by = go }
    where
      go : (ts : List Token) → Spell ts (x ∷ w) → parse r ts ≡ accepted u
      go [] h = absurd h
      go (t ∷ ts) h =
          ap (λ o. if_taken o (λ q. parse q ts)) (same t.0 t.1 (subst P (sym h.0) (may x w refl)))
          ∙ rest.by (t ∷ ts) h

  abbrev Go : Inside → List Word → Type 0
  Go i w = Ends (inside h ps ls i) w u

  same_inside : (i j : Inside) (w : List Word) → ((l : Lexeme) (p : ℕ) → feed_inside i l p ≡ feed_inside j l p) → Go j w → Go i w
  same_inside i j w same rest = same_state (λ l. Unit {0}) (inside h ps ls i) (inside h ps ls j) w (λ x v e. tt) refl (λ l p m. ap (turns h ps ls) (same l p)) rest

  -- where no else follows
  unless : (i j : Inside) (w : List Word) → first_is else_word w ≡ false → ((l : Lexeme) (p : ℕ) → is else_word l ≡ false → feed_inside i l p ≡ feed_inside j l p) → Go j w → Go i w
  unless i j w not same rest = same_state (λ l. is else_word l ≡ false) (inside h ps ls i) (inside h ps ls j) w (λ x v e. subst (λ y. first_is else_word y ≡ false) e not) refl (λ l p m. ap (turns h ps ls) (same l p m)) rest

  not_shut : (w : List Word) → (first_is else_word w ≡ true → ⊥) → first_is else_word w ≡ false
  not_shut w h = go (first_is else_word w) h
    where
      go : (b : Bool) → (b ≡ true → ⊥) → b ≡ false
      go true h = absurd (h refl)
      go false h = refl

  begin : (k : Pending) (w : List Word) → Starts w → Go (reading performed k (need base)) w → Go (statement k) w
  begin k w starting rest = same_state Starter (inside h ps ls (statement k)) (inside h ps ls (reading performed k (need base))) w (λ x v e. subst Starts e starting) refl (λ l p m. ap (turns h ps ls) (begins_expression k l p m)) rest

  -- an expression as a part, up to the mark behind it
  whole : (part : Part) (k : Pending) (e : Expr) (m : Mark) (i : Inside) (w : List Word) → Ok e → Follows (level_of e) (free m ∷ w) → ((p : ℕ) → feed_inside (reading part k (have e base)) (mark m) p ≡ goes i) → Go i w → Go (reading part k (need base)) (spell e (free m ∷ w))
  whole part k e m i w ok follows takes rest = complete h ps ls u part k e base _ ok (omega arith) follows (inner_loose h ps ls u takes rest)

  mutual
    complete_statement : (s : Stmt) (k : Pending) (w : List Word) → OkStatement s → Apt s w → Go (after s k) w → Go (statement k) (spell_statement s w)
    complete_statement (expr e) k w ok apt rest = begin k _ (starts e (free semicolon ∷ w)) (whole performed k e semicolon (after (expr e) k) w ok (refl, refl) (λ p. refl) rest)
    complete_statement (block ss) k w ok apt rest =
        inner_loose h ps ls u (λ p. refl) (complete_statements ss (λ before. in_block before k) (λ s before. refl) [] _ ok (refl, refl)
        (inner_loose h ps ls u (λ p. ap (λ b. goes (after (block b) k)) (pushed_statements [] ss)) rest))
    complete_statement (return e) k w ok apt rest = inner_loose h ps ls u (λ p. refl) (whole returned k e semicolon (after (return e) k) w ok (refl, refl) (λ p. refl) rest)
    complete_statement (if_then p c s) k w ok apt rest =
        inner_fixed h ps ls u refl (inner_loose h ps ls u (λ p. refl) (whole (if_test p) k c end_round (statement (in_then p c k)) _ ok.0 (refl, refl) (λ p. refl)
        (complete_statement s (in_then p c k) w ok.1 (λ e. absurd (apt e))
        (unless (after s (in_then p c k)) (after (if_then p c s) k) w (not_shut w apt) (λ l q not. cond-false _ _ _ not ∙ sym (cond-false _ _ _ not)) rest))))
    complete_statement (if_else p c s t) k w ok apt rest =
        inner_fixed h ps ls u refl (inner_loose h ps ls u (λ p. refl) (whole (if_test p) k c end_round (statement (in_then p c k)) _ ok.0 (refl, refl) (λ p. refl)
        (complete_statement s (in_then p c k) _ ok.1 (λ e. ok.3)
        (inner_loose h ps ls u (λ p. refl) (complete_statement t (in_else p c s k) w ok.2 apt
        (same_inside (after t (in_else p c s k)) (after (if_else p c s t) k) w (λ l q. refl) rest))))))
    complete_statement (while p c s) k w ok apt rest =
        inner_fixed h ps ls u refl (inner_loose h ps ls u (λ p. refl) (whole (while_test p) k c end_round (statement (in_while p c k)) _ ok.0 (refl, refl) (λ p. refl)
        (complete_statement s (in_while p c k) w ok.1 apt (same_inside (after s (in_while p c k)) (after (while p c s) k) w (λ l q. refl) rest))))
    complete_statement (for p a b c s) k w ok apt rest =
        inner_fixed h ps ls u refl (inner_loose h ps ls u (λ p. refl) (whole (for_first p) k a semicolon (reading (for_test p a) k (need base)) _ ok.0 (refl, refl) (λ p. refl)
        (whole (for_test p a) k b semicolon (reading (for_step p a b) k (need base)) _ ok.1 (refl, refl) (λ p. refl)
        (whole (for_step p a b) k c end_round (statement (in_for p a b c k)) _ ok.2 (refl, refl) (λ p. refl)
        (complete_statement s (in_for p a b c k) w ok.3 apt (same_inside (after s (in_for p a b c k)) (after (for p a b c s) k) w (λ l q. refl) rest))))))

    complete_statements : (ss : Stmts) (in_List : List Stmt → Pending) → ((s : Stmt) (before : List Stmt) → settled s (in_List before) ≡ in_List (s ∷ before)) → (before : List Stmt) (w : List Word) → OkStatements ss → Plain w → Go (statement (in_List (pushed before ss))) w → Go (statement (in_List before)) (spell_statements ss w)
    complete_statements end in_List settles before w ok plain_end rest = rest
    complete_statements (then s ss) in_List settles before w ok plain_end rest =
        let plain-next = statements_plain ss w plain_end in
        complete_statement s (in_List before) _ ok.0 (λ e. absurd (both_ways _ plain-next.0 e))
        (unless (after s (in_List before)) (statement (in_List (s ∷ before))) _ plain-next.0 (λ l p not. cond-false _ _ _ not ∙ ap (λ k. begins k l p) (settles s before))
        (complete_statements ss in_List settles (s ∷ before) w ok.1 plain_end rest))

-- a declaration's states, and the state behind it
record Declares (in-declaration : Declaring → State) (declared : Variable → State) : Type 0 where
  name : (x : Name) (p : ℕ) → feed (in-declaration typed) (identifier x, p) ≡ Some (in-declaration (named p x))
  plainly : (q : ℕ) (x : Name) (p : ℕ) → feed (in-declaration (named q x)) (mark semicolon, p) ≡ Some (declared (simple q x))
  opening : (q : ℕ) (x : Name) (p : ℕ) → feed (in-declaration (named q x)) (mark square, p) ≡ Some (in-declaration (opened q x))
  size : (q : ℕ) (x : Name) (n p : ℕ) → feed (in-declaration (opened q x)) (numeral n, p) ≡ Some (in-declaration (sized q x n))
  closing_size : (q : ℕ) (x : Name) (n p : ℕ) → feed (in-declaration (sized q x n)) (mark end_square, p) ≡ Some (in-declaration (closed q x n))
  ending_array : (q : ℕ) (x : Name) (n p : ℕ) → feed (in-declaration (closed q x n)) (mark semicolon, p) ≡ Some (declared (array q x n))

complete_sizes : (in-declaration : Declaring → State) (declared : Variable → State) → Declares in-declaration declared → (p : ℕ) (x : Name) (ns : List ℕ) (w : List Word) (u : Sheet) → Few ns → Ends (declared (record { place = p; name = x; sizes = ns })) w u → Ends (in-declaration (named p x)) (spell_sizes ns (free semicolon ∷ w)) u
complete_sizes i d h p x [] w u few rest = step_loose (h.plainly p x) rest
complete_sizes i d h p x (n ∷ []) w u few rest = step_loose (h.opening p x) (step_loose (h.size p x n) (step_loose (h.closing_size p x n) (step_loose (h.ending_array p x n) rest)))
complete_sizes i d h p x (n ∷ (k ∷ ns)) w u few rest = let z : ◌≡◌ {A = ℕ} 0 1 = cc in absurd (omega arith)

complete_variable : (in-declaration : Declaring → State) (declared : Variable → State) → Declares in-declaration declared → (v : Variable) (w : List Word) (u : Sheet) → OkVariable v → Ends (declared v) w u → Ends (in-declaration typed) (placed (identifier v.name) v.place ∷ spell_sizes v.sizes (free semicolon ∷ w)) u
complete_variable i d h v w u ok rest = step_fixed (h.name v.name v.place) (complete_sizes i d h v.place v.name v.sizes w u ok rest)

globals : (vs : List Variable) → Declares (declaring vs []) (λ v. sheet (v ∷ vs) [])
globals vs = record { name = λ x p. refl; plainly = λ q x p. refl; opening = λ q x p. refl; size = λ q x n p. refl; closing_size = λ q x n p. refl; ending_array = λ q x n p. refl }

own : (h : Heading) (ps ls : List Variable) → Declares (local h ps ls) (λ v. locals h ps (v ∷ ls))
own h ps ls = record { name = λ x p. refl; plainly = λ q x p. refl; opening = λ q x p. refl; size = λ q x n p. refl; closing_size = λ q x n p. refl; ending_array = λ q x n p. refl }

complete_variables : (vs us : List Variable) (w : List Word) (u : Sheet) → AllByRecursion OkVariable vs → Ends (sheet (onto vs us) []) w u → Ends (sheet us []) (each spell_variable vs w) u
complete_variables [] us w u ok rest = rest
complete_variables (v ∷ vs) us w u ok rest = step_loose (λ p. refl) (complete_variable _ _ (globals us) v _ u ok.0 (complete_variables vs (v ∷ us) w u ok.1 rest))

complete_locals : (h : Heading) (ps vs ls : List Variable) (w : List Word) (u : Sheet) → AllByRecursion OkVariable vs → Ends (locals h ps (onto vs ls)) w u → Ends (locals h ps ls) (each spell_variable vs w) u
complete_locals h ps [] ls w u ok rest = rest
complete_locals h ps (v ∷ vs) ls w u ok rest = step_loose (λ p. refl) (complete_variable _ _ (own h ps ls) v _ u ok.0 (complete_locals h ps vs (v ∷ ls) w u ok.1 rest))

complete_parameter : (h : Heading) (ps : List Variable) (v : Variable) (w : List Word) (u : Sheet) → OkParameter v → Ends (parameter_end h (v ∷ ps)) w u → Ends (parameter h ps) (placed (identifier v.name) v.place ∷ spell_sizes v.sizes w) u
complete_parameter h ps v w u ok rest =
    subst (λ ns. Ends (parameter_end h (record { place = v.place; name = v.name; sizes = ns } ∷ ps)) w u → Ends (parameter h ps) (placed (identifier v.name) v.place ∷ spell_sizes ns w) u) (sym ok) (λ r. step_fixed refl r) rest

complete_others : (h : Heading) (vs ps : List Variable) (w : List Word) (u : Sheet) → AllByRecursion OkParameter vs → Ends (signature h (onto vs ps)) w u → Ends (parameter_end h ps) (spell_others vs (free end_round ∷ w)) u
complete_others h [] ps w u ok rest = step_loose (λ p. refl) rest
complete_others h (v ∷ vs) ps w u ok rest = step_loose (λ p. refl) (step_loose (λ p. refl) (complete_parameter h ps v _ u ok.0 (complete_others h vs (v ∷ ps) w u ok.1 rest)))

complete_parameters : (h : Heading) (vs : List Variable) (w : List Word) (u : Sheet) → AllByRecursion OkParameter vs → Ends (signature h (onto vs [])) w u → Ends (parameters h) (spell_parameters vs (free end_round ∷ w)) u
complete_parameters h [] w u ok rest = step_loose (λ p. refl) rest
complete_parameters h (v ∷ vs) w u ok rest = step_loose (λ p. refl) (complete_parameter h [] v _ u ok.0 (complete_others h vs (v ∷ []) w u ok.1 rest))

onto_onto : {X : Type 0} (xs ys zs : List X) → onto (onto xs ys) zs ≡ onto ys (xs ++ zs)
onto_onto [] ys zs = refl
onto_onto (x ∷ xs) ys zs = onto_onto xs (x ∷ ys) zs

onto_twice : {X : Type 0} (xs : List X) → onto (onto xs []) [] ≡ xs
onto_twice xs = onto_onto xs [] [] ∙ append-nil xs

-- behind the local variables the statements begin
enter : (h : Heading) (ps ls : List Variable) (w : List Word) (u : Sheet) → first_is int_word w ≡ false → Ends (inside h ps ls (statement (body []))) w u → Ends (locals h ps ls) w u
enter h ps ls w u not rest = same_state h ps ls u (λ l. is int_word l ≡ false) (locals h ps ls) (inside h ps ls (statement (body []))) w (λ x v e. subst (λ y. first_is int_word y ≡ false) e not) refl (λ l p m. cond-false _ _ _ m) rest

complete_function : (f : Function) (us : List Variable) (gs : List Function) (w : List Word) (u : Sheet) → OkFunction f → Ends (sheet us (f ∷ gs)) w u → Ends (sheet us gs) (spell_function f w) u
complete_function f us gs w u ok rest =
    step_loose (λ p. refl) (step_fixed refl (step_loose (λ p. refl)
    (complete_parameters h f.parameters _ u ok.parameters (step_loose (λ p. refl)
    (complete_locals h (onto f.parameters []) f.locals [] _ u ok.locals
    (enter h _ _ _ u (statements_plain f.body (free end_brace ∷ w) (refl, refl)).1
    (complete_statements h (onto f.parameters []) (onto f.locals []) u f.body body (λ s before. refl) [] _ ok.body (refl, refl)
    (step_loose (λ p. ap (λ g. Some (sheet us (g ∷ gs))) same) rest))))))))
  where
    h : Heading
    h = record { variables = us; functions = gs; place = f.place; name = f.name }

    same : made h (onto f.parameters []) (onto f.locals []) (statements (pushed [] f.body) end) ≡ f
    same = λ i. record { place = f.place; name = f.name; parameters = onto_twice f.parameters i; locals = onto_twice f.locals i; body = pushed_statements [] f.body i }

complete_functions : (fs : List Function) (us : List Variable) (gs : List Function) (w : List Word) (u : Sheet) → AllByRecursion OkFunction fs → Ends (sheet us (onto fs gs)) w u → Ends (sheet us gs) (each spell_function fs w) u
complete_functions [] us gs w u ok rest = rest
complete_functions (f ∷ fs) us gs w u ok rest = complete_function f us gs _ u ok.0 (complete_functions fs us (f ∷ gs) w u ok.1 rest)

last : (u : Sheet) → Ends (sheet (onto u.variables []) (onto u.functions [])) [] u
last u = record { by = go }
  where
    go : (ts : List Token) → Spell ts [] → parse (sheet (onto u.variables []) (onto u.functions [])) ts ≡ accepted u
    go [] h = λ i. accepted (record { variables = onto_twice u.variables i; functions = onto_twice u.functions i })
    go (t ∷ ts) h = absurd h

pub accepts : (ts : List Token) (u : Sheet) → Spells ts u → verdict ts ≡ accepted u
accepts ts u h =
    (complete_variables u.variables [] _ u h.0.variables (complete_functions u.functions (onto u.variables []) [] [] u h.0.functions (last u))
    ).by ts (subst (Spell ts) (sym (sheet_is u)) h.1)
