-- The equations of the reading. Assumes nothing.
use Rattle.std.proofs.Common.{◌≡◌, ℕ, suc, ◌+◌, ◌*◌, ◌≤◌, cond, List, ◌∷◌, set, None, sym, refl, ap, ◌∙◌, le_refl, arith}
use Rattle.reckoning.specs.Meaning.{Meaning, applied}
use Rattle.language.specs.Resolved.{Expression, assignment, invocation, operation, Subscripts, subscript, Arguments, also, Statement, when, either, repeat, Statements, first, Routine}
use Rattle.language.specs.Reading.{Memory, Outcome, gives, stops, Reads, follow, Level, ◌>>=◌, ◌>>◌, pure, cells_in, with_cells, reckon, within, spend, admit, back_in, unless_returned, read_expression, read_subscripts, read_arguments, read_statement, read_statements, level}
use Rattle.language.specs.Readings.{expression_of, subscripts_of, arguments_of, statement_of, statements_of, call_of, Equations}
use Rattle.language.proofs.Alongside.{Alongside}
use Rattle.language.proofs.Levels.{Both, levels, expression_over, subscripts_over, arguments_over, statement_over, statements_over}

-- an outcome and then two readings, however they are grouped
pub in_turn : {Cell X Y Z : Type 0} (x : Outcome Cell X) (k : X → Reads Cell Y) (l : Y → Reads Cell Z) → follow x (λ a. k a >>= l) ≡ follow (follow x k) l
in_turn (gives a h) k l = refl
in_turn (stops e p c b) k l = refl

module _ {Cell : Type 0} (m : Meaning Cell) (rs : List Routine) where
  -- what a level does with a memory, over the level above the memory's budget
  above : {X : Type 0} (r : Level Cell → Reads Cell X) → ((n k j : ℕ) → n ≤ k → n + 0 ≤ j → Alongside n 0 (r (level m rs k)) (r (level m rs j))) → (n : ℕ) → Alongside n 0 (r (level m rs n)) (λ h. r (level m rs (suc h.budget)) h)
  above r on n = record {
    frugal = (on n n n (le_refl n) (omega arith)).frugal;
    other = λ h lt. (on (suc h.budget) (suc h.budget) (suc h.budget) (le_refl _) (omega arith)).frugal h (le_refl _);
    dry = (on n n n (le_refl n) (omega arith)).dry;
    same = λ h lt. (on (suc h.budget) n (suc (h.budget + 0)) lt (omega arith)).same h (le_refl _);
  }

  -- The level at which loops and calls are read at the budget of their own memory.
  abbrev own : Level Cell
  own = record { again = statement_of m rs; callee = call_of m rs }

  meets : (n : ℕ) → Both n 0 (level m rs n) own
  meets n = record {
    again = λ active s. above (λ L. L.again active s) (λ l k j low up. (levels m rs l 0 k j low up).again active s) n;
    callee = λ active f xs. above (λ L. L.callee active f xs) (λ l k j low up. (levels m rs l 0 k j low up).callee active f xs) n;
  }

  module _ (active : ℕ) where
    expression_is : (e : Expression) → read_expression m own active e ≡ expression_of m rs active e
    expression_is = expression_over m rs own meets active

    subscripts_is : (js : Subscripts) (at : ℕ) → read_subscripts m own active js at ≡ subscripts_of m rs active js at
    subscripts_is = subscripts_over m rs own meets active

    arguments_is : (es : Arguments) → read_arguments m own active es ≡ arguments_of m rs active es
    arguments_is = arguments_over m rs own meets active

    statement_is : (s : Statement) → read_statement m own active s ≡ statement_of m rs active s
    statement_is = statement_over m rs own meets active

    statements_is : (ss : Statements) → read_statements m own active ss ≡ statements_of m rs active ss
    statements_is = statements_over m rs own meets active

    test_is : (p : ℕ) (e : Expression) → (read_expression m own active e >>= λ v. reckon p (m.test v)) ≡ (expression_of m rs active e >>= λ v. reckon p (m.test v))
    test_is p e i = expression_is e i >>= λ v. reckon p (m.test v)

  -- the reading of a form is that over the one level, and so are those of its parts
  by : {X : Type 0} {r s t : Reads Cell X} → r ≡ s → r ≡ t → (h : Memory Cell) → s h ≡ t h
  by p q h = ap (λ z. z h) (sym p ∙ q)

  pub equations : Equations m rs
  equations = record {
    of_constant = λ active n h. refl;
    of_value = λ active r at js h. refl;
    of_assignment = λ active r at js e. by (expression_is active (assignment r at js e)) (λ i. expression_is active e i >>= λ v. subscripts_is active js at i >>= λ a g. gives v (with_cells r (set (cells_in r g) a v) g));
    of_invocation = λ active f p es. by (expression_is active (invocation f p es)) (λ i. arguments_is active es i >>= λ xs. admit active p >> λ g. back_in g.frame (call_of m rs (active + 1) f xs g));
    of_negation = λ active p e h. refl;
    of_inversion = λ active p e h. in_turn (expression_of m rs active e h) (λ v. reckon p (m.test v)) (λ yes. pure (m.whole (cond yes 0 1)));
    of_operation = λ active o p l r. by (expression_is active (operation o p l r)) (λ i. expression_is active l i >>= λ x. expression_is active r i >>= λ y. reckon p (applied m o x y));
    of_whole = λ active at h. refl;
    of_subscript = λ active p n each e js at. by (subscripts_is active (subscript p n each e js) at) (λ i. expression_is active e i >>= λ v. within p n (m.place v) >>= λ j. subscripts_is active js (at + j * each) i);
    of_none = λ active h. refl;
    of_also = λ active e es. by (arguments_is active (also e es)) (λ i. expression_is active e i >>= λ x. arguments_is active es i >>= λ xs. pure (x ∷ xs));
    of_perform = λ active e h. refl;
    of_sequence = λ active ss h. refl;
    of_give = λ active e h. refl;
    of_when = λ active p e s. by (statement_is active (when p e s)) (λ i. test_is active p e i >>= λ yes. cond yes (statement_is active s i) (pure None));
    of_either = λ active p e s t. by (statement_is active (either p e s t)) (λ i. test_is active p e i >>= λ yes. cond yes (statement_is active s i) (statement_is active t i));
    of_repeat = λ active p e s. by (statement_is active (repeat p e s)) (λ i. test_is active p e i >>= λ yes. cond yes (statement_is active s i >>= unless_returned (spend p >> statement_of m rs active (repeat p e s))) (pure None));
    of_finish = λ active h. refl;
    of_first = λ active s ss. by (statements_is active (first s ss)) (λ i. statement_is active s i >>= unless_returned (statements_is active ss i));
    of_call = λ active f r xs h is. rw is;
    of_no_call = λ active f xs h is. rw is;
  }
