-- Readings that obey the equations are the reading. Assumes nothing.
use Rattle.std.proofs.Common.{◌≡◌, ℕ, zero, suc, ◌+◌, ◌*◌, cond, List, ◌∷◌, ◌++◌, get_or, set, replicate, Some, None, Option, unwrap_or, sym, refl, ◌∙◌, subst, le_refl}
use mathlib.Core.Path.{fun_ext}
use Rattle.std.specs.List.{slice_get}
use Rattle.reckoning.specs.Meaning.{Meaning, applied}
use Rattle.language.specs.Resolved.{Expression, constant, value, assignment, invocation, negation, inversion, operation, Subscripts, whole_of, subscript, Arguments, none, also, Statement, perform, sequence, give, when, either, repeat, Statements, finish, first, Routine}
use Rattle.language.specs.Reading.{gives, Level, ◌>>=◌, ◌>>◌, pure, cells_in, with_cells, with_frame, reckon, within, spend, admit, back_in, unless_returned, read_expression, read_subscripts, read_arguments, read_statement, read_statements, read_routine, level}
use Rattle.language.specs.Readings.{Readings, readings, Obeys, Only}
use Rattle.language.proofs.Alongside.{Alongside, purely, alone}
use Rattle.language.proofs.Equations.{in_turn}
use Rattle.language.proofs.Levels.{Both, statement, routine, nothing, expression_over, subscripts_over, arguments_over, statement_over, statements_over}

module _ {Cell : Type 0} (m : Meaning Cell) (rs : List Routine) (R : Readings Cell) (obeys : Obeys m rs R) where
  -- the level of these readings themselves
  abbrev own : Level Cell
  own = record { again = R.statement; callee = R.call }

  module _ (active : ℕ) where
    mutual
      expression_is : (e : Expression) → R.expression active e ≡ read_expression m own active e
      expression_is (constant n) = fun_ext (obeys.of_constant active n)
      expression_is (value r at js) = fun_ext (obeys.of_value active r at js) ∙ (λ i. subscripts_is js at i >>= λ a g. gives (get_or (cells_in r g) a (m.whole 0)) g)
      expression_is (assignment r at js e) = fun_ext (obeys.of_assignment active r at js e) ∙ (λ i. expression_is e i >>= λ v. subscripts_is js at i >>= λ a g. gives v (with_cells r (set (cells_in r g) a v) g))
      expression_is (invocation f p es) = fun_ext (obeys.of_invocation active f p es) ∙ (λ i. arguments_is es i >>= λ xs. admit active p >> λ g. back_in g.frame (R.call (active + 1) f xs g))
      expression_is (negation p e) = fun_ext (obeys.of_negation active p e) ∙ (λ i. expression_is e i >>= λ v. reckon p (m.negate v))
      expression_is (inversion p e) = fun_ext (obeys.of_inversion active p e) ∙ (λ i. (expression_is e i >>= λ v. reckon p (m.test v)) >>= λ yes. pure (m.whole (cond yes 0 1))) ∙ fun_ext (λ h. sym (in_turn (read_expression m own active e h) (λ v. reckon p (m.test v)) (λ yes. pure (m.whole (cond yes 0 1)))))
      expression_is (operation o p l r) = fun_ext (obeys.of_operation active o p l r) ∙ (λ i. expression_is l i >>= λ x. expression_is r i >>= λ y. reckon p (applied m o x y))

      subscripts_is : (js : Subscripts) (at : ℕ) → R.subscripts active js at ≡ read_subscripts m own active js at
      subscripts_is whole_of at = fun_ext (obeys.of_whole active at)
      subscripts_is (subscript p n each e js) at = fun_ext (obeys.of_subscript active p n each e js at) ∙ (λ i. expression_is e i >>= λ v. within p n (m.place v) >>= λ j. subscripts_is js (at + j * each) i)

      arguments_is : (es : Arguments) → R.arguments active es ≡ read_arguments m own active es
      arguments_is none = fun_ext (obeys.of_none active)
      arguments_is (also e es) = fun_ext (obeys.of_also active e es) ∙ (λ i. expression_is e i >>= λ x. arguments_is es i >>= λ xs. pure (x ∷ xs))

    test_is : (p : ℕ) (e : Expression) → (R.expression active e >>= λ v. reckon p (m.test v)) ≡ (read_expression m own active e >>= λ v. reckon p (m.test v))
    test_is p e i = expression_is e i >>= λ v. reckon p (m.test v)

    mutual
      statement_is : (s : Statement) → R.statement active s ≡ read_statement m own active s
      statement_is (perform e) = fun_ext (obeys.of_perform active e) ∙ (λ i. expression_is e i >> pure None)
      statement_is (sequence ss) = fun_ext (obeys.of_sequence active ss) ∙ statements_is ss
      statement_is (give e) = fun_ext (obeys.of_give active e) ∙ (λ i. expression_is e i >>= λ v. pure (Some v))
      statement_is (when p e s) = fun_ext (obeys.of_when active p e s) ∙ (λ i. test_is p e i >>= λ yes. cond yes (statement_is s i) (pure None))
      statement_is (either p e s t) = fun_ext (obeys.of_either active p e s t) ∙ (λ i. test_is p e i >>= λ yes. cond yes (statement_is s i) (statement_is t i))
      statement_is (repeat p e s) = fun_ext (obeys.of_repeat active p e s) ∙ (λ i. test_is p e i >>= λ yes. cond yes (statement_is s i >>= unless_returned (spend p >> R.statement active (repeat p e s))) (pure None))

      statements_is : (ss : Statements) → R.statements active ss ≡ read_statements m own active ss
      statements_is finish = fun_ext (obeys.of_finish active)
      statements_is (first s ss) = fun_ext (obeys.of_first active s ss) ∙ (λ i. statement_is s i >>= unless_returned (statements_is ss i))

    routine_is : (f : ℕ) (r : Routine) (xs : List Cell) → slice_get rs f ≡ Some r → R.call active f xs ≡ read_routine m own active r xs
    routine_is f r xs is = fun_ext (λ h. obeys.of_call active f r xs h is) ∙ (λ i h. (statements_is r.body i >>= λ v. pure (unwrap_or v (m.whole 0))) (with_frame (xs ++ replicate r.locals (m.whole 0)) h))

    no_routine_is : (f : ℕ) (xs : List Cell) → slice_get rs f ≡ None → R.call active f xs ≡ pure (m.whole 0)
    no_routine_is f xs is = fun_ext (λ h. obeys.of_no_call active f xs h is)

  meets : (n : ℕ) → Both n 0 (level m rs n) own
  meets zero = record { again = λ _ _. nothing; callee = λ _ _ _. nothing }
  meets (suc n) = record {
    again = λ active s. subst (Alongside (suc n) 0 (read_statement m (level m rs n) active s)) (sym (statement_is active s)) (statement m (meets n) active s);
    callee = λ active f xs. go (meets n) active f xs (slice_get rs f) refl;
  }
    where
      go : Both n 0 (level m rs n) own → (active f : ℕ) (xs : List Cell) (o : Option Routine) → slice_get rs f ≡ o → Alongside (suc n) 0 ((level m rs (suc n)).callee active f xs) (R.call active f xs)
      go both active f xs (Some r) is = rw (is, routine_is active f r xs is) (routine m both active r xs)
      go both active f xs None is = rw (is, no_routine_is active f xs is) (purely (m.whole 0))

  call_is : (active f : ℕ) (xs : List Cell) → R.call active f xs ≡ (readings m rs).call active f xs
  call_is active f xs = fun_ext (λ h. alone ((meets (suc h.budget)).callee active f xs) h (le_refl (suc h.budget)))

  solved : R ≡ readings m rs
  solved i = record {
    expression = λ active e. (expression_is active e ∙ expression_over m rs own meets active e) i;
    subscripts = λ active js at. (subscripts_is active js at ∙ subscripts_over m rs own meets active js at) i;
    arguments = λ active es. (arguments_is active es ∙ arguments_over m rs own meets active es) i;
    statement = λ active s. (statement_is active s ∙ statement_over m rs own meets active s) i;
    statements = λ active ss. (statements_is active ss ∙ statements_over m rs own meets active ss) i;
    call = λ active f xs. call_is active f xs i;
  }

pub only : {Cell : Type 0} (m : Meaning Cell) (rs : List Routine) → Only m rs
only m rs = solved m rs
