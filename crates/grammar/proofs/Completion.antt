-- Every state that parsing comes to can be completed, so a refusal stands where it should. Assumes nothing.
use Rattle.std.proofs.Common.{◌≡◌, ℕ, suc, ◌<◌, ◌≤◌, List, [], ◌∷◌, ◌++◌, length, take, Some, None, Option, sym, refl, ap, ◌∙◌, subst, append_assoc, arith}
use Rattle.language.specs.Tree.{Name, Expr, number, variable, call, unary, binary, assign, brackets, plain, index, no_args, Stmt, expr, block, return, if_then, if_else, while, for, Stmts, end, Variable, Function, Sheet}
use Rattle.grammar.specs.Lexemes.{round, end_round, end_square, brace, end_brace, semicolon, int_word, numeral, identifier, mark, Token}
use Rattle.grammar.specs.Words.{Word, free, placed, Stands, Spell, level_of, Ok, OkStatement, OkStatements, OkVariable, OkParameter, OkFunction, OkSheet, Spells, IsSheet, Begins}
use Rattle.grammar.specs.Parsing.{Stack, base, sign, left, target, bracket, element, called, Operand, need, have, arguments, Pending, body, in_block, in_then, in_else, in_while, in_for, Part, performed, returned, if_test, while_test, for_first, for_test, for_step, Inside, statement, after, head, reading, statements, Declaring, typed, named, opened, sized, closed, simple, array, Heading, State, sheet, declaring, parameters, another, parameter, parameter_end, signature, locals, local, inside, onto, made, feed, Verdict, accepted, refused, later, if_taken, ending, parse, start, verdict}
use Rattle.grammar.proofs.Spelling.{spell, spell_statement, spell_statements, spell_variable, spell_function, spell_sheet, each, before, before_each, sheet_is}
use Rattle.grammar.proofs.Pending.{pre, read_operand, pre_pending, pre_part, read_inside, read_declaring, read_sheet, read_locals, read, floor, Good, GoodOperand, GoodPending, GoodPart, GoodInside, GoodSheet, GoodState, floor_low}
use Rattle.grammar.proofs.Soundness.{Took, FairState, arguments_ok, arguments_spell, statements_ok, statements_spell, all_onto, function_spell, feed_fair}
use Rattle.grammar.proofs.Completeness.{accepts}

-- a name, where one is wanted
abbrev any : Name
any = 97 ∷ []

abbrev zero_word : Word
zero_word = (numeral 0, None)

-- an operand, completed to a whole expression
record Whole (reads : List Word → List Word) : Type 0 where
  words : List Word
  tree : Expr
  ok : Ok tree
  same : (w : List Word) → reads (words ++ w) ≡ spell tree w

more_whole : {r : List Word → List Word} (x : Word) (d : List Word → List Word) → ((w : List Word) → d (x ∷ w) ≡ r w) → Whole r → Whole d
more_whole x d is h = record { words = x ∷ h.words; tree = h.tree; ok = h.ok; same = λ w. is (h.words ++ w) ∙ h.same w }

finish : (k : Stack) (e : Expr) → Good k → Ok e → floor k ≤ level_of e → Whole (λ w. pre k (spell e w))
finish base e good ok fits = record { words = []; tree = e; ok = ok; same = λ w. refl }
finish (sign s p k) e good ok fits = finish k (unary s p e) good (ok, fits) (floor_low k)
finish (left o p l k) e good ok fits = finish k (binary o p l e) good.0 (good.1, ok, good.2, fits) good.3
finish (target p l k) e good ok fits = finish k (assign p l e) good.0 (good.1, ok, good.2) good.3
finish (bracket k) e good ok fits = more_whole (free end_round) _ (λ w. refl) (finish k (brackets e) good ok (omega (arith, floor_low k)))
finish (element p x q k) e good ok fits = more_whole (free end_square) _ (λ w. refl) (finish k (variable p x (index q e plain)) good (ok, refl) (omega (arith, floor_low k)))
finish (called p x q ds k) e good ok fits =
    more_whole (free end_round) _ (λ w. ap (λ v. pre k (placed (identifier x) p ∷ placed (mark round) q ∷ v)) (sym (arguments_spell ds e no_args (free end_round ∷ w))))
    (finish k (call p x q (arguments ds e no_args)) good.0 (arguments_ok ds e no_args good.1 ok tt) (omega (arith, floor_low k)))

finish_operand : (o : Operand) → GoodOperand o → Whole (read_operand o)
finish_operand (need k) good = more_whole zero_word _ (λ w. refl) (finish k (number 0) good tt (omega (arith, floor_low k)))
finish_operand (have e k) good = finish k e good.0 good.1 (omega (arith, floor_low k, good.2))

-- the same of a function's statements
record Body (reads : List Word → List Word) : Type 0 where
  words : List Word
  tree : Stmts
  ok : OkStatements tree
  same : (w : List Word) → reads (words ++ w) ≡ spell_statements tree w

more_body : {r : List Word → List Word} (x : Word) (d : List Word → List Word) → ((w : List Word) → d (x ∷ w) ≡ r w) → Body r → Body d
more_body x d is h = record { words = x ∷ h.words; tree = h.tree; ok = h.ok; same = λ w. is (h.words ++ w) ∙ h.same w }

finish_statement : (k : Pending) (s : Stmt) → GoodPending k → OkStatement s → Body (λ w. pre_pending k (spell_statement s w))
finish_statement (body ss) s good ok = record { words = []; tree = statements (s ∷ ss) end; ok = statements_ok (s ∷ ss) end (ok, good) tt; same = λ w. sym (statements_spell (s ∷ ss) end w) }
finish_statement (in_block ss k) s good ok =
    more_body (free end_brace) _ (λ w. ap (λ v. pre_pending k (free brace ∷ v)) (sym (statements_spell (s ∷ ss) end (free end_brace ∷ w))))
    (finish_statement k (block (statements (s ∷ ss) end)) good.0 (statements_ok (s ∷ ss) end (ok, good.1) tt))
finish_statement (in_then p c k) s good ok = finish_statement k (if_then p c s) good.0 (good.1, ok)
finish_statement (in_else p c t k) s good ok = finish_statement k (if_else p c t s) good.0 (good.1, good.2, ok, good.3)
finish_statement (in_while p c k) s good ok = finish_statement k (while p c s) good.0 (good.1, ok)
finish_statement (in_for p a b c k) s good ok = finish_statement k (for p a b c s) good.0 (good.1, good.2, good.3, ok)

-- 0;
finish_pending : (k : Pending) → GoodPending k → Body (pre_pending k)
finish_pending k good = more_body zero_word _ (λ w. refl) (more_body (free semicolon) (λ w. pre_pending k (zero_word ∷ w)) (λ w. refl) (finish_statement k (expr (number 0)) good tt))

finish_part : (h : Part) (k : Pending) (e : Expr) → GoodPending k → GoodPart h → Ok e → Body (λ w. pre_pending k (pre_part h (spell e w)))
finish_part performed k e good part ok = more_body (free semicolon) _ (λ w. refl) (finish_statement k (expr e) good ok)
finish_part returned k e good part ok = more_body (free semicolon) _ (λ w. refl) (finish_statement k (return e) good ok)
finish_part (if_test p) k e good part ok = more_body (free end_round) _ (λ w. refl) (finish_pending (in_then p e k) (good, ok))
finish_part (while_test p) k e good part ok = more_body (free end_round) _ (λ w. refl) (finish_pending (in_while p e k) (good, ok))
finish_part (for_first p) k e good part ok =
    more_body (free semicolon) _ (λ w. refl) (more_body zero_word _ (λ w. refl) (more_body (free semicolon) (λ w. pre_pending k (pre_part (for_test p e) (zero_word ∷ w))) (λ w. refl)
    (more_body zero_word _ (λ w. refl) (more_body (free end_round) (λ w. pre_pending k (pre_part (for_step p e (number 0)) (zero_word ∷ w))) (λ w. refl) (finish_pending (in_for p e (number 0) (number 0) k) (good, ok, tt, tt))))))
finish_part (for_test p a) k e good part ok =
    more_body (free semicolon) _ (λ w. refl) (more_body zero_word _ (λ w. refl) (more_body (free end_round) (λ w. pre_pending k (pre_part (for_step p a e) (zero_word ∷ w))) (λ w. refl) (finish_pending (in_for p a e (number 0) k) (good, part, ok, tt))))
finish_part (for_step p a b) k e good part ok = more_body (free end_round) _ (λ w. refl) (finish_pending (in_for p a b e k) (good, part.0, part.1, ok))

finish_reading : (h : Part) (k : Pending) (o : Operand) → GoodPending k → GoodPart h → GoodOperand o → Body (λ w. pre_pending k (pre_part h (read_operand o w)))
finish_reading h k o good part operand =
    let e = finish_operand o operand in
    let b = finish_part h k e.tree good part e.ok in
    record {
      words = e.words ++ b.words;
      tree = b.tree;
      ok = b.ok;
      same = λ w. ap (λ v. pre_pending k (pre_part h (read_operand o v))) (append_assoc e.words b.words w) ∙ ap (λ v. pre_pending k (pre_part h v)) (e.same (b.words ++ w)) ∙ b.same w;
    }

finish_inside : (i : Inside) → GoodInside i → Body (read_inside i)
finish_inside (statement k) good = finish_pending k good
finish_inside (after s k) good = finish_statement k s good.0 good.1
finish_inside (head performed k) good = absurd good.1
finish_inside (head returned k) good = absurd good.1
finish_inside (head (if_test p) k) good = more_body (free round) _ (λ w. refl) (finish_reading (if_test p) k (need base) good.0 tt tt)
finish_inside (head (while_test p) k) good = more_body (free round) _ (λ w. refl) (finish_reading (while_test p) k (need base) good.0 tt tt)
finish_inside (head (for_first p) k) good = more_body (free round) _ (λ w. refl) (finish_reading (for_first p) k (need base) good.0 tt tt)
finish_inside (head (for_test p a) k) good = absurd good.1
finish_inside (head (for_step p a b) k) good = absurd good.1
finish_inside (reading h k o) good = finish_reading h k o good.0 good.1 good.2

-- the same of a sheet
record Completed (reads : List Word → List Word) : Type 0 where
  words : List Word
  variables : List Variable
  functions : List Function
  good : GoodSheet variables functions
  same : (w : List Word) → reads (words ++ w) ≡ read_sheet variables functions w

more : {r : List Word → List Word} (x : Word) (d : List Word → List Word) → ((w : List Word) → d (x ∷ w) ≡ r w) → Completed r → Completed d
more x d is h = record { words = x ∷ h.words; variables = h.variables; functions = h.functions; good = h.good; same = λ w. is (h.words ++ w) ∙ h.same w }

-- }
finish_body : (h : Heading) (ps ls : List Variable) (r : List Word → List Word) → GoodState (locals h ps ls) → Body r → Completed (λ w. read_locals h ps ls (r w))
finish_body h ps ls r good b = record {
  words = b.words ++ (free end_brace ∷ []);
  variables = h.variables;
  functions = made h ps ls b.tree ∷ h.functions;
  good = record { variables = good.0.variables; functions = (record { parameters = all_onto OkParameter ps [] good.1 tt; locals = all_onto OkVariable ls [] good.2 tt; body = b.ok }, good.0.functions) };
  same = λ w. ap (λ v. read_locals h ps ls (r v)) (append_assoc b.words (free end_brace ∷ []) w) ∙ ap (read_locals h ps ls) (b.same (free end_brace ∷ w)) ∙ function_spell h ps ls b.tree w;
}

finish_locals : (h : Heading) (ps ls : List Variable) → GoodState (locals h ps ls) → Completed (read_locals h ps ls)
finish_locals h ps ls good = finish_body h ps ls (λ w. w) good (record { words = []; tree = end; ok = tt; same = λ w. refl })

finish_signature : (h : Heading) (ps : List Variable) → GoodState (signature h ps) → Completed (read (signature h ps))
finish_signature h ps good = more (free brace) _ (λ w. refl) (finish_locals h ps [] (good.0, good.1, tt))

finish_parameters : (h : Heading) → GoodState (parameters h) → Completed (read (parameters h))
finish_parameters h good = more (free end_round) _ (λ w. refl) (finish_signature h [] (good, tt))

finish_parameter : (h : Heading) (ps : List Variable) → GoodState (parameter h ps) → Completed (read (parameter h ps))
finish_parameter h ps good =
    more (placed (identifier any) 0) _ (λ w. refl) (more (free end_round) (read (parameter_end h (simple 0 any ∷ ps))) (λ w. refl) (finish_signature h (simple 0 any ∷ ps) (good.0, (refl, good.1))))

-- a declaration, up to its ";"
finish_declaring : (r : List Word → List Word) (behind : Variable → List Word → List Word) (d : Declaring) → ((v : Variable) → OkVariable v → Completed (behind v)) → ((v : Variable) (w : List Word) → behind v w ≡ r (spell_variable v w)) → Completed (λ w. r (free int_word ∷ read_declaring d w))
finish_declaring r behind typed done is = more (placed (identifier any) 0) _ (λ w. refl) (more (free semicolon) (λ w. r (free int_word ∷ read_declaring (named 0 any) w)) (λ w. sym (is (simple 0 any) w)) (done (simple 0 any) tt))
finish_declaring r behind (named p x) done is = more (free semicolon) _ (λ w. sym (is (simple p x) w)) (done (simple p x) tt)
finish_declaring r behind (opened p x) done is = more zero_word _ (λ w. refl) (more (free end_square) (λ w. r (free int_word ∷ read_declaring (sized p x 0) w)) (λ w. refl) (more (free semicolon) (λ w. r (free int_word ∷ read_declaring (closed p x 0) w)) (λ w. sym (is (array p x 0) w)) (done (array p x 0) refl)))
finish_declaring r behind (sized p x n) done is = more (free end_square) _ (λ w. refl) (more (free semicolon) (λ w. r (free int_word ∷ read_declaring (closed p x n) w)) (λ w. sym (is (array p x n) w)) (done (array p x n) refl))
finish_declaring r behind (closed p x n) done is = more (free semicolon) _ (λ w. sym (is (array p x n) w)) (done (array p x n) refl)

finish_sheet : (vs : List Variable) (fs : List Function) → GoodSheet vs fs → Completed (read_sheet vs fs)
finish_sheet vs fs good = record { words = []; variables = vs; functions = fs; good = good; same = λ w. refl }

finish_first : (vs : List Variable) (fs : List Function) (d : Declaring) → fs ≡ [] → GoodSheet vs fs → Completed (read (declaring vs fs d))
finish_first vs [] d is good = finish_declaring (read_sheet vs []) (λ v w. read_sheet (v ∷ vs) [] w) d (λ v ok. finish_sheet (v ∷ vs) [] (record { variables = (ok, good.variables); functions = tt })) (λ v w. refl)
finish_first vs (f ∷ fs) d is good = let z : ◌≡◌ {A = ℕ} 0 1 = cc in absurd (omega arith)

finish_named : (vs : List Variable) (fs : List Function) (p : ℕ) (x : Name) → GoodSheet vs fs → Completed (read (declaring vs fs (named p x)))
finish_named vs fs p x good = more (free round) _ (λ w. refl) (finish_parameters (record { variables = vs; functions = fs; place = p; name = x }) good)

complete_state : (s : State) → GoodState s → Completed (read s)
complete_state (sheet vs fs) good = finish_sheet vs fs good
complete_state (declaring vs fs typed) good = more (placed (identifier any) 0) _ (λ w. refl) (finish_named vs fs 0 any good.0)
complete_state (declaring vs fs (named p x)) good = finish_named vs fs p x good.0
complete_state (declaring vs fs (opened p x)) good = finish_first vs fs (opened p x) good.1 good.0
complete_state (declaring vs fs (sized p x n)) good = finish_first vs fs (sized p x n) good.1 good.0
complete_state (declaring vs fs (closed p x n)) good = finish_first vs fs (closed p x n) good.1 good.0
complete_state (parameters h) good = finish_parameters h good
complete_state (another h ps) good = more (free int_word) _ (λ w. refl) (finish_parameter h ps good)
complete_state (parameter h ps) good = finish_parameter h ps good
complete_state (parameter_end h ps) good = more (free end_round) _ (λ w. refl) (finish_signature h ps (good.0, good.1))
complete_state (signature h ps) good = finish_signature h ps good
complete_state (locals h ps ls) good = finish_locals h ps ls good
complete_state (local h ps ls d) good = finish_declaring (read_locals h ps ls) (λ v w. read_locals h ps (v ∷ ls) w) d (λ v ok. finish_locals h ps (v ∷ ls) (good.0, good.1, (ok, good.2))) (λ v w. refl)
complete_state (inside h ps ls i) good = finish_body h ps ls (read_inside i) (good.0, good.1, good.2) (finish_inside i good.3)

-- tokens that spell given words
abbrev place_of : Option ℕ → ℕ
place_of None = 0
place_of (Some p) = p

abbrev fill : List Word → List Token
fill [] = []
fill (x ∷ ws) = (x.0, place_of x.1) ∷ fill ws

fill_spells : (ws : List Word) → Spell (fill ws) ws
fill_spells [] = tt
fill_spells (x ∷ ws) = (refl, stands x.1, fill_spells ws)
  where
    stands : (o : Option ℕ) → Stands (place_of o) o
    stands None = tt
    stands (Some p) = refl

spell_append : (ts us : List Token) (ws vs : List Word) → Spell ts ws → Spell us vs → Spell (ts ++ us) (ws ++ vs)
spell_append [] us [] vs h g = g
spell_append [] us (x ∷ ws) vs h g = absurd h
spell_append (t ∷ ts) us [] vs h g = absurd h
spell_append (t ∷ ts) us (x ∷ ws) vs h g = (h.0, h.1, spell_append ts us ws vs h.2 g)

-- from a state on, the tokens begin some sheet
pub record GoesOn (s : State) (ts : List Token) : Type 0 where
  pub words : List Word
  pub rest : List Word
  pub tree : Sheet
  pub ok : OkSheet tree
  pub spelled : Spell ts words
  pub same : read s (words ++ rest) ≡ spell_sheet tree []

pub goes_on : (s : State) → GoodState s → GoesOn s []
goes_on s good =
    let c = complete_state s good in
    record {
      words = [];
      rest = c.words ++ [];
      tree = record { variables = onto c.variables []; functions = onto c.functions [] };
      ok = record { variables = all_onto OkVariable c.variables [] c.good.variables tt; functions = all_onto OkFunction c.functions [] c.good.functions tt };
      spelled = tt;
      same = c.same [] ∙ ap (before spell_variable c.variables) (before_each spell_function c.functions [] []) ∙ before_each spell_variable c.variables [] (each spell_function (onto c.functions []) []);
    }

-- one token earlier
pub earlier : (s u : State) (t : Token) (ts : List Token) → Took (read s) t.0 t.1 (read u) → GoesOn u ts → GoesOn s (t ∷ ts)
earlier s u t ts took h = record {
  words = (t.0, took.kept) ∷ h.words;
  rest = h.rest;
  tree = h.tree;
  ok = h.ok;
  spelled = (refl, took.stands, h.spelled);
  same = sym (took.same (h.words ++ h.rest)) ∙ h.same;
}

pub begins_some : (ts : List Token) → GoesOn start ts → Begins ts
begins_some ts g = (fill g.rest, (g.tree, (g.ok, subst (Spell (ts ++ fill g.rest)) (g.same ∙ sheet_is g.tree) (spell_append ts (fill g.rest) g.words g.rest g.spelled (fill_spells g.rest)))))

-- of a refusal at token i from a state on
record Stuck (s : State) (ts : List Token) (i : ℕ) : Type 0 where
  inside_list : i ≤ length ts
  begun : GoesOn s (take i ts)
  local : i < length ts → (more : List Token) → parse s (take (suc i) ts ++ more) ≡ refused i

abbrev IfRefused : State → List Token → Verdict → Type 0
IfRefused s ts (accepted u) = Unit {0}
IfRefused s ts (refused i) = Stuck s ts i

stuck_end : (s : State) → GoodState s → Stuck s [] 0
stuck_end s good = record { inside_list = omega arith; begun = goes_on s good; local = λ low. absurd (omega arith) }

ending_refused : (s : State) → GoodState s → IfRefused s [] (ending s)
ending_refused (sheet vs fs) good = tt
ending_refused (declaring vs fs d) good = stuck_end (declaring vs fs d) good
ending_refused (parameters h) good = stuck_end (parameters h) good
ending_refused (another h ps) good = stuck_end (another h ps) good
ending_refused (parameter h ps) good = stuck_end (parameter h ps) good
ending_refused (parameter_end h ps) good = stuck_end (parameter_end h ps) good
ending_refused (signature h ps) good = stuck_end (signature h ps) good
ending_refused (locals h ps ls) good = stuck_end (locals h ps ls) good
ending_refused (local h ps ls d) good = stuck_end (local h ps ls d) good
ending_refused (inside h ps ls i) good = stuck_end (inside h ps ls i) good

later_refused : (s u : State) (t : Token) (ts : List Token) (v : Verdict) → feed s t ≡ Some u → Took (read s) t.0 t.1 (read u) → IfRefused u ts v → IfRefused s (t ∷ ts) (later v)
later_refused s u t ts (accepted x) is took h = tt
later_refused s u t ts (refused i) is took h = record {
  inside_list = omega (arith, h.inside_list);
  begun = earlier s u t (take i ts) took h.begun;
  local = λ low more. ap (λ o. if_taken o (λ r. parse r (take (suc i) ts ++ more))) is ∙ ap later (h.local (omega arith) more);
}

parse_refused : (ts : List Token) (s : State) → GoodState s → IfRefused s ts (parse s ts)
parse_refused [] s good = ending_refused s good
parse_refused (t ∷ ts) s good = go (feed s t) refl (feed_fair s good t) (parse_refused ts)
  where
    go : (o : Option State) → feed s t ≡ o → FairState (read s) t.1 t.0 o → ((u : State) → GoodState u → IfRefused u ts (parse u ts)) → IfRefused s (t ∷ ts) (if_taken o (λ u. parse u ts))
    go None is fair ih = record { inside_list = omega arith; begun = goes_on s good; local = λ low more. ap (λ o. if_taken o (λ r. parse r more)) is }
    go (Some u) is fair ih = later_refused s u t ts (parse u ts) is fair.1 (ih u fair.0)

abbrev pub good_start : GoodState start
good_start = record { variables = tt; functions = tt }

stuck : (ts : List Token) (i : ℕ) → verdict ts ≡ refused i → Stuck start ts i
stuck ts i is = subst (IfRefused start ts) is (parse_refused ts start good_start)

clash : (ts : List Token) (i : ℕ) → verdict ts ≡ refused i → ¬ (IsSheet ts)
clash ts i is h = let e = accepts ts h.0 h.1 in let z : ◌≡◌ {A = ℕ} 0 1 = cc in absurd (omega arith)

take_all : {X : Type 0} (xs : List X) → take (length xs) xs ≡ xs
take_all [] = refl
take_all (x ∷ xs) = ap (λ ys. x ∷ ys) (take_all xs)

pub refuses_first : (ts : List Token) (i : ℕ) → verdict ts ≡ refused i → i < length ts → Begins (take i ts) × ¬ (Begins (take (suc i) ts))
refuses_first ts i is low =
    let h = stuck ts i is in
    (begins_some (take i ts) h.begun, λ b. clash (take (suc i) ts ++ b.0) i (h.local low b.0) b.1)

pub refuses_end : (ts : List Token) (i : ℕ) → verdict ts ≡ refused i → length ts ≤ i → (i ≡ length ts) × Begins ts × ¬ (IsSheet ts)
refuses_end ts i is high =
    let h = stuck ts i is in
    let all : i ≡ length ts = omega (arith, h.inside_list) in
    (all, begins_some ts (subst (GoesOn start) (ap (λ j. take j ts) all ∙ take_all ts) h.begun), clash ts i is)

pub unique : (ts : List Token) (u v : Sheet) → Spells ts u → Spells ts v → u ≡ v
unique ts u v g h = let e = accepts ts u g in let f = accepts ts v h in cc
