-- What parsing accepts is spelled by its tree. Assumes nothing.
use Rattle.std.proofs.Common.{◌≡◌, ℕ, ◌<◌, ◌≤◌, true, eqb, leb, List, [], ◌∷◌, get_or, Some, None, Option, sym, refl, ap, ◌∙◌, subst, arith}
use Rattle.std.specs.List.{AllByRecursion}
use Rattle.std.proofs.lemmas.Bool.{eqb-true, leb-true, leb-false, cond_both}
use Rattle.reckoning.specs.declared.Operator.{Operator}
use Rattle.reckoning.specs.declared.Operator.TheVariants.{Add, Subtract, Multiply, Divide, Remainder, Compare}
use Rattle.language.specs.Tree.{Name, Expr, number, variable, call, unary, binary, assign, brackets, plain, index, Args, no_args, argument, Stmt, if_then, if_else, while, for, Stmts, end, then, Variable, Function, Sheet}
use Rattle.grammar.specs.Lexemes.{Mark, round, end_round, square, end_square, brace, end_brace, comma, semicolon, int_word, return_word, if_word, else_word, while_word, for_word, Lexeme, numeral, identifier, operator, exclamation, equals, mark, Token, code, is}
use Rattle.grammar.specs.Words.{Word, free, placed, Stands, Spell, level, level_of, Ok, OkArgs, OkStatement, OkStatements, Shut, OkVariable, OkParameter, OkFunction, OkSheet, Spells}
use Rattle.grammar.specs.Parsing.{Stack, base, sign, left, target, bracket, element, called, Operand, need, have, Answer, no, on, out, option, settle, arguments, closes, applied, signed, empty, feed_operand, Pending, body, in_block, in_then, in_else, in_while, in_for, Part, performed, returned, if_test, while_test, for_first, for_test, for_step, Inside, statement, after, head, reading, Turn, stuck, goes, finished, statements, settled, otherwise, ends, completes, resumes, begins, feed_inside, Declaring, typed, named, opened, sized, closed, Declared, never, still, done, if_name, if_number, declare, Heading, State, sheet, declaring, parameters, another, parameter, parameter_end, signature, locals, local, inside, onto, made, declares, if_first, feed_declaring, declares_local, turns, feed, Verdict, accepted, refused, later, if_taken, ending, parse, start, verdict}
use Rattle.grammar.proofs.Spelling.{spell, spell_args, spell_more, spell_statement, spell_statements, spell_variable, spell_others, spell_parameters, spell_function, spell_sheet, each, before, before_each, sheet_is}
use Rattle.grammar.proofs.Pending.{spell_comma, pre, read_operand, pre_pending, pre_part, pre_head, read_inside, read_declaring, read_sheet, read_heading, pre_parameters, read_locals, read, floor, Good, GoodOperand, GoodPending, GoodPart, GoodHead, GoodInside, GoodDeclaring, GoodSheet, GoodState, level_bounds, floor_low}

decode : ℕ → Mark
decode n = get_or (round ∷ end_round ∷ square ∷ end_square ∷ brace ∷ end_brace ∷ comma ∷ semicolon ∷ int_word ∷ return_word ∷ if_word ∷ else_word ∷ while_word ∷ for_word ∷ []) n round

decode_code : (m : Mark) → decode (code m) ≡ m
unfolding decode
decode_code round = refl
decode_code end_round = refl
decode_code square = refl
decode_code end_square = refl
decode_code brace = refl
decode_code end_brace = refl
decode_code comma = refl
decode_code semicolon = refl
decode_code int_word = refl
decode_code return_word = refl
decode_code if_word = refl
decode_code else_word = refl
decode_code while_word = refl
decode_code for_word = refl

same_mark : (m l : Mark) → eqb (code m) (code l) ≡ true → m ≡ l
same_mark m l e = sym (decode_code m) ∙ ap decode (eqb-true (code m) (code l) e) ∙ decode_code l

-- what holds at the mark and of the other answer holds of the choice
by_option : {X : Type 0} (P : Lexeme → X → Type 0) (m : Mark) (l : Lexeme) (x y : X) → P (mark m) x → P l y → P l (option m l x y)
by_option P m (numeral n) x y p q = q
by_option P m (identifier n) x y p q = q
by_option P m (operator o) x y p q = q
by_option P m exclamation x y p q = q
by_option P m equals x y p q = q
by_option P m (mark l) x y p q = cond_both (eqb (code m) (code l)) x y (P (mark l)) (λ e. subst (λ k. P (mark k) x) (same_mark m l e) p) (λ e. q)

by_name : {X : Type 0} (P : Lexeme → X → Type 0) (l : Lexeme) (f : Name → X) (y : X) → ((x : Name) → P (identifier x) (f x)) → ((l : Lexeme) → P l y) → P l (if_name l f y)
by_name P (numeral n) f y p q = q (numeral n)
by_name P (identifier n) f y p q = p n
by_name P (operator o) f y p q = q (operator o)
by_name P exclamation f y p q = q exclamation
by_name P equals f y p q = q equals
by_name P (mark l) f y p q = q (mark l)

by_number : {X : Type 0} (P : Lexeme → X → Type 0) (l : Lexeme) (f : ℕ → X) (y : X) → ((n : ℕ) → P (numeral n) (f n)) → ((l : Lexeme) → P l y) → P l (if_number l f y)
by_number P (numeral n) f y p q = p n
by_number P (identifier n) f y p q = q (identifier n)
by_number P (operator o) f y p q = q (operator o)
by_number P exclamation f y p q = q exclamation
by_number P equals f y p q = q equals
by_number P (mark l) f y p q = q (mark l)

abbrev pub Reads : Type 0
Reads = List Word → List Word

-- what was read and this token are what is read now
pub record Took (d : Reads) (l : Lexeme) (at : ℕ) (r : Reads) : Type 0 where
  pub kept : Option ℕ
  pub stands : Stands at kept
  pub same : (w : List Word) → r w ≡ d ((l, kept) ∷ w)

loose : {d : Reads} {l : Lexeme} {at : ℕ} {r : Reads} → ((w : List Word) → r w ≡ d ((l, None) ∷ w)) → Took d l at r
loose same = record { kept = None; stands = tt; same = same }

fixed : {d : Reads} {l : Lexeme} {at : ℕ} {r : Reads} → ((w : List Word) → r w ≡ d ((l, Some at) ∷ w)) → Took d l at r
fixed same = record { kept = Some _; stands = refl; same = same }

took_in : {d : Reads} {l : Lexeme} {at : ℕ} {r : Reads} (f : Reads) → Took d l at r → Took (λ w. f (d w)) l at (λ w. f (r w))
took_in f t = record { kept = t.kept; stands = t.stands; same = λ w. ap f (t.same w) }

abbrev Fair : Reads → ℕ → Lexeme → Answer → Type 0
Fair d at l no = Unit {0}
Fair d at l (on o) = GoodOperand o × Took d l at (read_operand o)
Fair d at l (out m e) = (l ≡ mark m) × Ok e × ((w : List Word) → spell e w ≡ d w)

-- where putting together stops before a sign of level n
abbrev Stops : ℕ → Stack → Type 0
Stops n base = Unit {0}
Stops n (sign s p k) = ⊥
Stops n (left o p l k) = level o < n
Stops n (target p l k) = 0 < n
Stops n (bracket k) = Unit {0}
Stops n (element p x q k) = Unit {0}
Stops n (called p x q ds k) = Unit {0}

stops_floor : (n : ℕ) (k : Stack) → Stops n k → floor k ≤ n
stops_floor n base h = omega arith
stops_floor n (sign s p k) h = absurd h
stops_floor n (left o p l k) h = h
stops_floor n (target p l k) h = omega arith
stops_floor n (bracket k) h = omega arith
stops_floor n (element p x q k) h = omega arith
stops_floor n (called p x q ds k) h = omega arith

-- at "=" no operator is left
stops_equals : (k : Stack) → Stops 1 k → floor k ≤ 0
stops_equals base h = omega arith
stops_equals (sign s p k) h = absurd h
stops_equals (left o p l k) h = absurd (omega (arith, level_bounds o))
stops_equals (target p l k) h = omega arith
stops_equals (bracket k) h = omega arith
stops_equals (element p x q k) h = omega arith
stops_equals (called p x q ds k) h = omega arith

record Settled (n : ℕ) (d : Reads) (h : Stack × Expr) : Type 0 where
  good : Good h.0
  ok : Ok h.1
  high : n ≤ level_of h.1
  stops : Stops n h.0
  same : (w : List Word) → pre h.0 (spell h.1 w) ≡ d w

settle_fair : (n : ℕ) (k : Stack) (e : Expr) → n ≤ 5 → Good k → Ok e → floor k ≤ level_of e → n ≤ level_of e → Settled n (λ w. pre k (spell e w)) (settle n k e)
settle_fair n base e low good ok fits high = record { good = tt; ok = ok; high = high; stops = tt; same = λ w. refl }
settle_fair n (sign s p k) e low good ok fits high = settle_fair n k (unary s p e) low good (ok, fits) (floor_low k) low
settle_fair n (left o p l k) e low good ok fits high =
    cond_both (leb n (level o)) _ _ (Settled n (λ w. pre (left o p l k) (spell e w)))
    (λ t. settle_fair n k (binary o p l e) low good.0 (good.1, ok, good.2, fits) good.3 (leb-true n (level o) t))
    (λ f. record { good = good; ok = ok; high = high; stops = leb-false n (level o) f; same = λ w. refl })
settle_fair n (target p l k) e low good ok fits high =
    cond_both (leb n 0) _ _ (Settled n (λ w. pre (target p l k) (spell e w)))
    (λ t. settle_fair n k (assign p l e) low good.0 (good.1, ok, good.2) good.3 (leb-true n 0 t))
    (λ f. record { good = good; ok = ok; high = high; stops = leb-false n 0 f; same = λ w. refl })
settle_fair n (bracket k) e low good ok fits high = record { good = good; ok = ok; high = high; stops = tt; same = λ w. refl }
settle_fair n (element p x q k) e low good ok fits high = record { good = good; ok = ok; high = high; stops = tt; same = λ w. refl }
settle_fair n (called p x q ds k) e low good ok fits high = record { good = good; ok = ok; high = high; stops = tt; same = λ w. refl }

pub arguments_ok : (ds : List Expr) (e : Expr) (es : Args) → AllByRecursion Ok ds → Ok e → OkArgs es → OkArgs (arguments ds e es)
arguments_ok [] e es before ok more = (ok, more)
arguments_ok (d ∷ ds) e es before ok more = arguments_ok ds d (argument e es) before.1 before.0 (ok, more)

pub arguments_spell : (ds : List Expr) (e : Expr) (es : Args) (w : List Word) → spell_args (arguments ds e es) w ≡ before spell_comma ds (spell e (spell_more es w))
arguments_spell [] e es w = refl
arguments_spell (d ∷ ds) e es w = arguments_spell ds d (argument e es) w

closes_fair : (m : Mark) (at : ℕ) (d : Reads) (k : Stack) (e : Expr) → Settled 0 d (k, e) → Fair d at (mark m) (closes m k e)
closes_fair m at d base e h = (refl, h.ok, h.same)
closes_fair m at d (sign s p k) e h = tt
closes_fair m at d (left o p l k) e h = tt
closes_fair m at d (target p l k) e h = tt
closes_fair m at d (bracket k) e h =
    by_option (Fair d at) end_round (mark m) _ _ ((h.good, h.ok, omega arith), loose (λ w. h.same (free end_round ∷ w))) tt
closes_fair m at d (element p x q k) e h =
    by_option (Fair d at) end_square (mark m) _ _ ((h.good, (h.ok, refl), omega arith), loose (λ w. h.same (free end_square ∷ w))) tt
closes_fair m at d (called p x q ds k) e h =
    by_option (Fair d at) end_round (mark m) _ _ ((h.good.0, arguments_ok ds e no_args h.good.1 h.ok tt, omega arith), loose (λ w. ap (λ v. pre k (placed (identifier x) p ∷ placed (mark round) q ∷ v)) (arguments_spell ds e no_args (free end_round ∷ w)) ∙ h.same (free end_round ∷ w)))
    (by_option (Fair d at) comma (mark m) _ _ ((h.good.0, (h.ok, h.good.1)), loose (λ w. h.same (free comma ∷ w))) tt)

applied_by : (P : Answer → Type 0) (e : Expr) (a : ℕ → Name → Answer) → P no → ((p : ℕ) (x : Name) → e ≡ variable p x plain → P (a p x)) → P (applied e a)
applied_by P (number n) a none f = none
applied_by P (variable p x plain) a none f = f p x refl
applied_by P (variable p x (index q e is)) a none f = none
applied_by P (call p x q es) a none f = none
applied_by P (unary s p e) a none f = none
applied_by P (binary o p l r) a none f = none
applied_by P (assign p l r) a none f = none
applied_by P (brackets e) a none f = none

signed_fair : (o : Operator) (at : ℕ) (k : Stack) → Good k → Fair (pre k) at (operator o) (signed o at k)
signed_fair Add at k good = tt
signed_fair Subtract at k good = (good, fixed (λ w. refl))
signed_fair Multiply at k good = tt
signed_fair Divide at k good = tt
signed_fair Remainder at k good = tt
signed_fair (Compare c) at k good = tt

empty_fair : (at : ℕ) (k : Stack) → Good k → Fair (pre k) at (mark end_round) (empty k)
empty_fair at base good = tt
empty_fair at (sign s p k) good = tt
empty_fair at (left o p l k) good = tt
empty_fair at (target p l k) good = tt
empty_fair at (bracket k) good = tt
empty_fair at (element p x q k) good = tt
empty_fair at (called p x q [] k) good = ((good.0, tt, omega arith), loose (λ w. refl))
empty_fair at (called p x q (d ∷ ds) k) good = tt

operand_fair : (o : Operand) → GoodOperand o → (l : Lexeme) (at : ℕ) → Fair (read_operand o) at l (feed_operand o l at)
operand_fair (need k) good (numeral n) at = ((good, tt, omega arith), loose (λ w. refl))
operand_fair (need k) good (identifier x) at = ((good, tt, omega arith), fixed (λ w. refl))
operand_fair (need k) good (operator o) at = signed_fair o at k good
operand_fair (need k) good exclamation at = (good, fixed (λ w. refl))
operand_fair (need k) good equals at = tt
operand_fair (need k) good (mark m) at =
    by_option (Fair (pre k) at) round (mark m) _ _ (good, loose (λ w. refl))
    (by_option (Fair (pre k) at) end_round (mark m) _ _ (empty_fair at k good) tt)
operand_fair (have e k) good (numeral n) at = tt
operand_fair (have e k) good (identifier x) at = tt
operand_fair (have e k) good (operator o) at =
    let bounds = level_bounds o in
    let low = floor_low k in
    let h = settle_fair (level o) k e (omega arith) good.0 good.1 (omega arith) (omega arith) in
    ((h.good, h.ok, h.high, stops_floor (level o) _ h.stops), fixed (λ w. h.same (placed (operator o) at ∷ w)))
operand_fair (have e k) good exclamation at = tt
operand_fair (have e k) good equals at =
    let low = floor_low k in
    let h = settle_fair 1 k e (omega arith) good.0 good.1 (omega arith) (omega arith) in
    ((h.good, h.ok, h.high, stops_equals _ h.stops), fixed (λ w. h.same (placed equals at ∷ w)))
operand_fair (have e k) good (mark m) at =
    let d : Reads = λ w. pre k (spell e w) in
    let low = floor_low k in
    by_option (Fair d at) round (mark m) _ _ (applied_by (Fair d at (mark round)) e _ tt (λ p x is. ((good.0, tt), fixed (λ w. ap (λ f. pre k (spell f (placed (mark round) at ∷ w))) (sym is)))))
    (by_option (Fair d at) square (mark m) _ _ (applied_by (Fair d at (mark square)) e _ tt (λ p x is. (good.0, fixed (λ w. ap (λ f. pre k (spell f (placed (mark square) at ∷ w))) (sym is)))))
    (closes_fair m at d _ _ (settle_fair 0 k e (omega arith) good.0 good.1 (omega arith) (omega arith))))

abbrev FairTurn : Reads → ℕ → Lexeme → Turn → Type 0
FairTurn d at l stuck = Unit {0}
FairTurn d at l (goes i) = GoodInside i × Took d l at (read_inside i)
FairTurn d at l (finished ss) = (l ≡ mark end_brace) × OkStatements ss × ((w : List Word) → spell_statements ss w ≡ d w)

completes_fair : (at : ℕ) (d : Reads) (h : Part) (k : Pending) (m : Mark) (e : Expr) → GoodPending k → GoodPart h → Ok e → ((w : List Word) → pre_pending k (pre_part h (spell e w)) ≡ d w) → FairTurn d at (mark m) (completes h k m e)
completes_fair at d performed k m e good part ok same = by_option (FairTurn d at) semicolon (mark m) _ _ ((good, ok, tt), loose (λ w. same (free semicolon ∷ w))) tt
completes_fair at d returned k m e good part ok same = by_option (FairTurn d at) semicolon (mark m) _ _ ((good, ok, tt), loose (λ w. same (free semicolon ∷ w))) tt
completes_fair at d (if_test p) k m e good part ok same = by_option (FairTurn d at) end_round (mark m) _ _ ((good, ok), loose (λ w. same (free end_round ∷ w))) tt
completes_fair at d (while_test p) k m e good part ok same = by_option (FairTurn d at) end_round (mark m) _ _ ((good, ok), loose (λ w. same (free end_round ∷ w))) tt
completes_fair at d (for_first p) k m e good part ok same = by_option (FairTurn d at) semicolon (mark m) _ _ ((good, ok, tt), loose (λ w. same (free semicolon ∷ w))) tt
completes_fair at d (for_test p a) k m e good part ok same = by_option (FairTurn d at) semicolon (mark m) _ _ ((good, (part, ok), tt), loose (λ w. same (free semicolon ∷ w))) tt
completes_fair at d (for_step p a b) k m e good part ok same = by_option (FairTurn d at) end_round (mark m) _ _ ((good, part.0, part.1, ok), loose (λ w. same (free end_round ∷ w))) tt

resumes_fair : (at : ℕ) (d : Reads) (h : Part) (k : Pending) (l : Lexeme) (a : Answer) → GoodPending k → GoodPart h → Fair d at l a → FairTurn (λ w. pre_pending k (pre_part h (d w))) at l (resumes h k a)
resumes_fair at d h k l no good part fair = tt
resumes_fair at d h k l (on o) good part fair = ((good, part, fair.0), took_in (λ w. pre_pending k (pre_part h w)) fair.1)
resumes_fair at d h k l (out m e) good part fair =
    subst (λ x. FairTurn (λ w. pre_pending k (pre_part h (d w))) at x (completes h k m e)) (sym fair.0)
    (completes_fair at _ h k m e good part fair.1 (λ w. ap (λ v. pre_pending k (pre_part h v)) (fair.2 w)))

pub statements_ok : (before : List Stmt) (ss : Stmts) → AllByRecursion OkStatement before → OkStatements ss → OkStatements (statements before ss)
statements_ok [] ss before ok = ok
statements_ok (s ∷ more) ss before ok = statements_ok more (then s ss) before.1 (before.0, ok)

pub statements_spell : (more : List Stmt) (ss : Stmts) (w : List Word) → spell_statements (statements more ss) w ≡ before spell_statement more (spell_statements ss w)
statements_spell [] ss w = refl
statements_spell (s ∷ more) ss w = statements_spell more (then s ss) w

ends_fair : (at : ℕ) (k : Pending) → GoodPending k → FairTurn (pre_pending k) at (mark end_brace) (ends k)
ends_fair at (body ss) good = (refl, statements_ok ss end good tt, λ w. statements_spell ss end w)
ends_fair at (in_block ss k) good = ((good.0, statements_ok ss end good.1 tt, tt), loose (λ w. ap (λ v. pre_pending k (free brace ∷ v)) (statements_spell ss end (free end_brace ∷ w))))
ends_fair at (in_then p c k) good = tt
ends_fair at (in_else p c s k) good = tt
ends_fair at (in_while p c k) good = tt
ends_fair at (in_for p a b c k) good = tt

begins_fair : (k : Pending) → GoodPending k → (l : Lexeme) (at : ℕ) → FairTurn (pre_pending k) at l (begins k l at)
begins_fair k good l at =
    by_option (FairTurn (pre_pending k) at) brace l _ _ ((good, tt), loose (λ w. refl))
    (by_option (FairTurn (pre_pending k) at) end_brace l _ _ (ends_fair at k good)
    (by_option (FairTurn (pre_pending k) at) return_word l _ _ ((good, tt, tt), loose (λ w. refl))
    (by_option (FairTurn (pre_pending k) at) if_word l _ _ ((good, tt), fixed (λ w. refl))
    (by_option (FairTurn (pre_pending k) at) while_word l _ _ ((good, tt), fixed (λ w. refl))
    (by_option (FairTurn (pre_pending k) at) for_word l _ _ ((good, tt), fixed (λ w. refl))
    (resumes_fair at (pre base) performed k l _ good tt (operand_fair (need base) tt l at)))))))

settled_good : (s : Stmt) (k : Pending) → GoodPending k → OkStatement s → GoodPending (settled s k)
settled_good s (body ss) good ok = (ok, good)
settled_good s (in_block ss k) good ok = (good.0, (ok, good.1))
settled_good s (in_then p c k) good ok = settled_good (if_then p c s) k good.0 (good.1, ok)
settled_good s (in_else p c t k) good ok = settled_good (if_else p c t s) k good.0 (good.1, good.2, ok, good.3)
settled_good s (in_while p c k) good ok = settled_good (while p c s) k good.0 (good.1, ok)
settled_good s (in_for p a b c k) good ok = settled_good (for p a b c s) k good.0 (good.1, good.2, good.3, ok)

settled_reads : (s : Stmt) (k : Pending) → ◌≡◌ {A = Reads} (pre_pending (settled s k)) (λ w. pre_pending k (spell_statement s w))
settled_reads s (body ss) = refl
settled_reads s (in_block ss k) = refl
settled_reads s (in_then p c k) = settled_reads (if_then p c s) k
settled_reads s (in_else p c t k) = settled_reads (if_else p c t s) k
settled_reads s (in_while p c k) = settled_reads (while p c s) k
settled_reads s (in_for p a b c k) = settled_reads (for p a b c s) k

otherwise_fair : (at : ℕ) (s : Stmt) (k : Pending) → GoodPending k → OkStatement s → Shut s → FairTurn (λ w. pre_pending k (spell_statement s w)) at (mark else_word) (otherwise s k)
otherwise_fair at s (body ss) good ok shut = tt
otherwise_fair at s (in_block ss k) good ok shut = tt
otherwise_fair at s (in_then p c k) good ok shut = ((good.0, good.1, ok, shut), loose (λ w. refl))
otherwise_fair at s (in_else p c t k) good ok shut = otherwise_fair at (if_else p c t s) k good.0 (good.1, good.2, ok, good.3) shut
otherwise_fair at s (in_while p c k) good ok shut = otherwise_fair at (while p c s) k good.0 (good.1, ok) shut
otherwise_fair at s (in_for p a b c k) good ok shut = otherwise_fair at (for p a b c s) k good.0 (good.1, good.2, good.3, ok) shut

head_fair : (at : ℕ) (h : Part) (k : Pending) → GoodPending k → GoodHead h → FairTurn (λ w. pre_pending k (pre_head h w)) at (mark round) (goes (reading h k (need base)))
head_fair at performed k good part = absurd part
head_fair at returned k good part = absurd part
head_fair at (if_test p) k good part = ((good, tt, tt), loose (λ w. refl))
head_fair at (while_test p) k good part = ((good, tt, tt), loose (λ w. refl))
head_fair at (for_first p) k good part = ((good, tt, tt), loose (λ w. refl))
head_fair at (for_test p a) k good part = absurd part
head_fair at (for_step p a b) k good part = absurd part

inside_fair : (i : Inside) → GoodInside i → (l : Lexeme) (at : ℕ) → FairTurn (read_inside i) at l (feed_inside i l at)
inside_fair (statement k) good l at = begins_fair k good l at
inside_fair (after s k) good l at =
    by_option (FairTurn (read_inside (after s k)) at) else_word l _ _ (otherwise_fair at s k good.0 good.1 good.2)
    (subst (λ d. FairTurn d at l (begins (settled s k) l at)) (settled_reads s k) (begins_fair (settled s k) (settled_good s k good.0 good.1) l at))
inside_fair (head h k) good l at = by_option (FairTurn (read_inside (head h k)) at) round l _ _ (head_fair at h k good.0 good.1) tt
inside_fair (reading h k o) good l at = resumes_fair at (read_operand o) h k l _ good.0 good.1 (operand_fair o good.2 l at)

abbrev FairDeclared : Declaring → ℕ → Lexeme → Declared → Type 0
FairDeclared d at l never = Unit {0}
FairDeclared d at l (still e) = Took (read_declaring d) l at (read_declaring e)
FairDeclared d at l (done v) = OkVariable v × Took (λ w. free int_word ∷ read_declaring d w) l at (spell_variable v)

declare_fair : (d : Declaring) (l : Lexeme) (at : ℕ) → FairDeclared d at l (declare d l at)
declare_fair typed l at = by_name (FairDeclared typed at) l _ _ (λ x. fixed (λ w. refl)) (λ k. tt)
declare_fair (named p x) l at =
    by_option (FairDeclared (named p x) at) semicolon l _ _ (tt, loose (λ w. refl))
    (by_option (FairDeclared (named p x) at) square l _ _ (loose (λ w. refl)) tt)
declare_fair (opened p x) l at = by_number (FairDeclared (opened p x) at) l _ _ (λ n. loose (λ w. refl)) (λ k. tt)
declare_fair (sized p x n) l at = by_option (FairDeclared (sized p x n) at) end_square l _ _ (loose (λ w. refl)) tt
declare_fair (closed p x n) l at = by_option (FairDeclared (closed p x n) at) semicolon l _ _ (refl, loose (λ w. refl)) tt

abbrev pub FairState : Reads → ℕ → Lexeme → Option State → Type 0
FairState d at l None = Unit {0}
FairState d at l (Some s) = GoodState s × Took d l at (read s)

good_first : (d : Declaring) → GoodDeclaring [] d
good_first typed = tt
good_first (named p x) = tt
good_first (opened p x) = refl
good_first (sized p x n) = refl
good_first (closed p x n) = refl

abbrev read_global : List Variable → List Function → Declaring → Reads
read_global vs fs d w = read_sheet vs fs (free int_word ∷ read_declaring d w)

-- no function stands before a variable
declares_fair : (at : ℕ) (vs : List Variable) (d : Declaring) (l : Lexeme) (a : Declared) → GoodSheet vs [] → FairDeclared d at l a → FairState (read_global vs [] d) at l (declares vs [] a)
declares_fair at vs d l never good fair = tt
declares_fair at vs d l (still e) good fair = ((good, good_first e), took_in (λ w. read_sheet vs [] (free int_word ∷ w)) fair)
declares_fair at vs d l (done v) good fair = (record { variables = (fair.0, good.variables); functions = tt }, took_in (before spell_variable vs) fair.1)

declares_first : (at : ℕ) (vs : List Variable) (fs : List Function) (d : Declaring) (l : Lexeme) (a : Declared) → fs ≡ [] → GoodSheet vs fs → FairDeclared d at l a → FairState (read_global vs fs d) at l (declares vs fs a)
declares_first at vs [] d l a is good fair = declares_fair at vs d l a good fair
declares_first at vs (f ∷ fs) d l a is good fair = let z : ◌≡◌ {A = ℕ} 0 1 = cc in absurd (omega arith)

if_first_fair : (at : ℕ) (vs : List Variable) (fs : List Function) (d : Declaring) (l : Lexeme) (a : Declared) → GoodSheet vs fs → FairDeclared d at l a → FairState (read_global vs fs d) at l (if_first fs (declares vs fs a))
if_first_fair at vs [] d l a good fair = declares_fair at vs d l a good fair
if_first_fair at vs (f ∷ fs) d l a good fair = tt

declaring_fair : (vs : List Variable) (fs : List Function) (d : Declaring) → GoodSheet vs fs → GoodDeclaring fs d → (l : Lexeme) (at : ℕ) → FairState (read_global vs fs d) at l (feed_declaring vs fs d l at)
declaring_fair vs fs typed good first l at = by_name (λ k a. FairState (read_global vs fs typed) at k (declares vs fs a)) l _ _ (λ x. ((good, tt), fixed (λ w. refl))) (λ k. tt)
declaring_fair vs fs (named p x) good first l at =
    by_option (FairState (read_global vs fs (named p x)) at) round l _ _ (good, loose (λ w. refl))
    (if_first_fair at vs fs (named p x) l _ good (declare_fair (named p x) l at))
declaring_fair vs fs (opened p x) good first l at = declares_first at vs fs (opened p x) l _ first good (declare_fair (opened p x) l at)
declaring_fair vs fs (sized p x n) good first l at = declares_first at vs fs (sized p x n) l _ first good (declare_fair (sized p x n) l at)
declaring_fair vs fs (closed p x n) good first l at = declares_first at vs fs (closed p x n) l _ first good (declare_fair (closed p x n) l at)

pub all_onto : {X : Type 0} (P : X → Type 0) (xs ys : List X) → AllByRecursion P xs → AllByRecursion P ys → AllByRecursion P (onto xs ys)
all_onto P [] ys before more = more
all_onto P (x ∷ xs) ys before more = all_onto P xs (x ∷ ys) before.1 (before.0, more)

parameters_more : (v : Variable) (ps vs : List Variable) (w : List Word) → pre_parameters (v ∷ ps) (spell_others vs w) ≡ spell_parameters (onto ps (v ∷ vs)) w
parameters_more v [] vs w = refl
parameters_more v (u ∷ ps) vs w = parameters_more u ps (v ∷ vs) w

pub parameters_spell : (ps : List Variable) (w : List Word) → pre_parameters ps w ≡ spell_parameters (onto ps []) w
parameters_spell [] w = refl
parameters_spell (v ∷ ps) w = parameters_more v ps [] w

-- a whole function, put behind its heading
pub function_spell : (h : Heading) (ps ls : List Variable) (ss : Stmts) (w : List Word) → read_locals h ps ls (spell_statements ss (free end_brace ∷ w)) ≡ read_sheet h.variables h.functions (spell_function (made h ps ls ss) w)
function_spell h ps ls ss w =
    ap (read_heading h) (parameters_spell ps _)
    ∙ ap (λ v. read_heading h (spell_parameters (onto ps []) (free end_round ∷ free brace ∷ v))) (before_each spell_variable ls [] _)

local_fair : (at : ℕ) (h : Heading) (ps ls : List Variable) (d : Declaring) (l : Lexeme) (a : Declared) → GoodState (local h ps ls d) → FairDeclared d at l a → FairState (read (local h ps ls d)) at l (declares_local h ps ls a)
local_fair at h ps ls d l never good fair = tt
local_fair at h ps ls d l (still e) good fair = (good, took_in (λ w. read_locals h ps ls (free int_word ∷ w)) fair)
local_fair at h ps ls d l (done v) good fair = ((good.0, good.1, (fair.0, good.2)), took_in (read_locals h ps ls) fair.1)

turns_fair : (at : ℕ) (d : Reads) (h : Heading) (ps ls : List Variable) (l : Lexeme) (t : Turn) → GoodState (locals h ps ls) → FairTurn d at l t → FairState (λ w. read_locals h ps ls (d w)) at l (turns h ps ls t)
turns_fair at d h ps ls l stuck good fair = tt
turns_fair at d h ps ls l (goes i) good fair = ((good.0, good.1, good.2, fair.0), took_in (read_locals h ps ls) fair.1)
turns_fair at d h ps ls l (finished ss) good fair = (
  record { variables = good.0.variables; functions = (record { parameters = all_onto OkParameter ps [] good.1 tt; locals = all_onto OkVariable ls [] good.2 tt; body = fair.1 }, good.0.functions) },
  loose (λ w. sym (function_spell h ps ls ss w) ∙ ap (read_locals h ps ls) (fair.2 (free end_brace ∷ w)) ∙ ap (λ k. read_locals h ps ls (d ((k, None) ∷ w))) (sym fair.0)),
)

comma_fair : (at : ℕ) (h : Heading) (ps : List Variable) → GoodState (parameter_end h ps) → FairState (read (parameter_end h ps)) at (mark comma) (Some (another h ps))
comma_fair at h [] good = absurd good.2
comma_fair at h (v ∷ ps) good = ((good.0, good.1), loose (λ w. refl))

pub feed_fair : (s : State) → GoodState s → (t : Token) → FairState (read s) t.1 t.0 (feed s t)
feed_fair (sheet vs fs) good t = by_option (FairState (read (sheet vs fs)) t.1) int_word t.0 _ _ ((good, tt), loose (λ w. refl)) tt
feed_fair (declaring vs fs d) good t = declaring_fair vs fs d good.0 good.1 t.0 t.1
feed_fair (parameters h) good t =
    by_option (FairState (read_heading h) t.1) end_round t.0 _ _ ((good, tt), loose (λ w. refl))
    (by_option (FairState (read_heading h) t.1) int_word t.0 _ _ ((good, tt), loose (λ w. refl)) tt)
feed_fair (another h ps) good t = by_option (FairState (read (another h ps)) t.1) int_word t.0 _ _ (good, loose (λ w. refl)) tt
feed_fair (parameter h ps) good t = by_name (FairState (read (parameter h ps)) t.1) t.0 _ _ (λ x. ((good.0, (refl, good.1), tt), fixed (λ w. refl))) (λ k. tt)
feed_fair (parameter_end h ps) good t =
    by_option (FairState (read (parameter_end h ps)) t.1) comma t.0 _ _ (comma_fair t.1 h ps good)
    (by_option (FairState (read (parameter_end h ps)) t.1) end_round t.0 _ _ ((good.0, good.1), loose (λ w. refl)) tt)
feed_fair (signature h ps) good t = by_option (FairState (read (signature h ps)) t.1) brace t.0 _ _ ((good.0, good.1, tt), loose (λ w. refl)) tt
feed_fair (locals h ps ls) good t =
    by_option (FairState (read (locals h ps ls)) t.1) int_word t.0 _ _ (good, loose (λ w. refl))
    (turns_fair t.1 (pre_pending (body [])) h ps ls t.0 _ good (begins_fair (body []) tt t.0 t.1))
feed_fair (local h ps ls d) good t = local_fair t.1 h ps ls d t.0 _ good (declare_fair d t.0 t.1)
feed_fair (inside h ps ls i) good t = turns_fair t.1 (read_inside i) h ps ls t.0 _ (good.0, good.1, good.2) (inside_fair i good.3 t.0 t.1)

-- of a verdict on tokens from a state on
abbrev Sound : State → List Token → Verdict → Type 0
Sound s ts (accepted u) = OkSheet u × ((ws : List Word) × Spell ts ws × (read s ws ≡ spell_sheet u []))
Sound s ts (refused i) = Unit {0}

ending_fair : (s : State) → GoodState s → Sound s [] (ending s)
ending_fair (sheet vs fs) good = (
  record { variables = all_onto OkVariable vs [] good.variables tt; functions = all_onto OkFunction fs [] good.functions tt },
  ([], tt, ap (before spell_variable vs) (before_each spell_function fs [] []) ∙ before_each spell_variable vs [] (each spell_function (onto fs []) [])),
)
ending_fair (declaring vs fs d) good = tt
ending_fair (parameters h) good = tt
ending_fair (another h ps) good = tt
ending_fair (parameter h ps) good = tt
ending_fair (parameter_end h ps) good = tt
ending_fair (signature h ps) good = tt
ending_fair (locals h ps ls) good = tt
ending_fair (local h ps ls d) good = tt
ending_fair (inside h ps ls i) good = tt

later_fair : (s u : State) (t : Token) (ts : List Token) (v : Verdict) → Took (read s) t.0 t.1 (read u) → Sound u ts v → Sound s (t ∷ ts) (later v)
later_fair s u t ts (accepted x) took h = (h.0, ((t.0, took.kept) ∷ h.1.0, (refl, took.stands, h.1.1), sym (took.same h.1.0) ∙ h.1.2))
later_fair s u t ts (refused i) took h = tt

parse_fair : (ts : List Token) (s : State) → GoodState s → Sound s ts (parse s ts)
parse_fair [] s good = ending_fair s good
parse_fair (t ∷ ts) s good = go (feed s t) (feed_fair s good t) (parse_fair ts)
  where
    go : (o : Option State) → FairState (read s) t.1 t.0 o → ((u : State) → GoodState u → Sound u ts (parse u ts)) → Sound s (t ∷ ts) (if_taken o (λ u. parse u ts))
    go None fair ih = tt
    go (Some u) fair ih = later_fair s u t ts (parse u ts) fair.1 (ih u fair.0)

pub sound : (ts : List Token) (u : Sheet) → verdict ts ≡ accepted u → Spells ts u
sound ts u is =
    let h : Sound start ts (accepted u) = subst (Sound start ts) is (parse_fair ts start (record { variables = tt; functions = tt })) in
    (h.0, subst (Spell ts) (h.1.2 ∙ sheet_is u) h.1.1)
