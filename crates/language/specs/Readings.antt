-- What holds of every reading, whatever the reckoning. Assumes nothing.
use Rattle.std.specs.Prelude.{◌≡◌, ℕ, suc, ◌+◌, ◌*◌, ◌<◌, ◌≤◌, Bool, cond, List, [], ◌∷◌, ◌++◌, replicate, Some, None, Option, slice_index_or, slice_set}
use Rattle.std.specs.Option.{unwrap_or}
use Rattle.std.specs.List.{slice_get}
use Rattle.reckoning.specs.Meaning.{Meaning, applied}
use Rattle.reckoning.specs.declared.Operator.{Operator}
use Rattle.instructions.specs.declared.Stop.{Stop}
use Rattle.instructions.specs.declared.Stop.TheVariants.{Budget}
use Rattle.language.specs.Resolved.{Region, Expression, constant, value, assignment, invocation, negation, inversion, operation, Subscripts, whole_of, subscript, Arguments, none, also, Statement, perform, sequence, give, when, either, repeat, Statements, finish, first, Routine}
use Rattle.language.specs.Stopping.{StopsSo}
use Rattle.language.specs.Reading.{Memory, Outcome, gives, stops, Reads, ◌>>=◌, ◌>>◌, pure, with_budget, with_frame, with_cells, cells_in, reckon, within, spend, admit, back_in, unless_returned, read_expression, read_subscripts, read_arguments, read_statement, read_statements, read_routine, level, reading}

-- Readings of every form, each while so many functions are active.
pub record Readings (Cell : Type 0) : Type 0 where
  pub expression : ℕ → Expression → Reads Cell Cell
  pub subscripts : ℕ → Subscripts → ℕ → Reads Cell ℕ
  pub arguments : ℕ → Arguments → Reads Cell (List Cell)
  pub statement : ℕ → Statement → Reads Cell (Option Cell)
  pub statements : ℕ → Statements → Reads Cell (Option Cell)
  -- the function of a number, with its arguments
  pub call : ℕ → ℕ → List Cell → Reads Cell Cell

module _ {Cell : Type 0} (m : Meaning Cell) (rs : List Routine) where
  -- What each form leads to from a memory, over the level of the memory's own budget.
  abbrev pub expression_of : ℕ → Expression → Reads Cell Cell
  expression_of active e h = read_expression m (level m rs h.budget) active e h

  abbrev pub subscripts_of : ℕ → Subscripts → ℕ → Reads Cell ℕ
  subscripts_of active js at h = read_subscripts m (level m rs h.budget) active js at h

  abbrev pub arguments_of : ℕ → Arguments → Reads Cell (List Cell)
  arguments_of active es h = read_arguments m (level m rs h.budget) active es h

  abbrev pub statement_of : ℕ → Statement → Reads Cell (Option Cell)
  statement_of active s h = read_statement m (level m rs h.budget) active s h

  abbrev pub statements_of : ℕ → Statements → Reads Cell (Option Cell)
  statements_of active ss h = read_statements m (level m rs h.budget) active ss h

  abbrev pub routine_of : ℕ → Routine → List Cell → Reads Cell Cell
  routine_of active r xs h = read_routine m (level m rs h.budget) active r xs h

  abbrev pub call_of : ℕ → ℕ → List Cell → Reads Cell Cell
  call_of active f xs h = (level m rs (suc h.budget)).callee active f xs h

  abbrev pub readings : Readings Cell
  readings = record { expression = expression_of; subscripts = subscripts_of; arguments = arguments_of; statement = statement_of; statements = statements_of; call = call_of }

  -- Levels do not matter: over every level from the budget on, each form gives the same.
  pub record LevelsAgree : Type 0 where
    pub expression : (k active : ℕ) (e : Expression) (h : Memory Cell) → h.budget ≤ k → read_expression m (level m rs k) active e h ≡ expression_of active e h
    pub subscripts : (k active : ℕ) (js : Subscripts) (at : ℕ) (h : Memory Cell) → h.budget ≤ k → read_subscripts m (level m rs k) active js at h ≡ subscripts_of active js at h
    pub arguments : (k active : ℕ) (es : Arguments) (h : Memory Cell) → h.budget ≤ k → read_arguments m (level m rs k) active es h ≡ arguments_of active es h
    pub statement : (k active : ℕ) (s : Statement) (h : Memory Cell) → h.budget ≤ k → read_statement m (level m rs k) active s h ≡ statement_of active s h
    pub statements : (k active : ℕ) (ss : Statements) (h : Memory Cell) → h.budget ≤ k → read_statements m (level m rs k) active ss h ≡ statements_of active ss h
    pub routine : (k active : ℕ) (r : Routine) (xs : List Cell) (h : Memory Cell) → h.budget ≤ k → read_routine m (level m rs k) active r xs h ≡ routine_of active r xs h
    pub call : (k active f : ℕ) (xs : List Cell) (h : Memory Cell) → h.budget < k → (level m rs k).callee active f xs h ≡ call_of active f xs h
    pub reads : (active f : ℕ) (xs cells : List Cell) (b : ℕ) → reading m rs active f xs cells b ≡ call_of active f xs (record { sheet = cells; frame = []; budget = b })

  module _ (R : Readings Cell) where
    abbrev test_of : ℕ → ℕ → Expression → Reads Cell Bool
    test_of active p e = R.expression active e >>= λ v. reckon p (m.test v)

    -- What each form does, said by its parts, with no level in sight.
    pub record Obeys : Type 0 where
      -- Operands are read from left to right; of an assignment the right side is read first.
      pub of_constant : (active n : ℕ) (h : Memory Cell) → R.expression active (constant n) h ≡ pure (m.whole n) h
      pub of_value : (active : ℕ) (r : Region) (at : ℕ) (js : Subscripts) (h : Memory Cell) → R.expression active (value r at js) h ≡ (R.subscripts active js at >>= λ a g. gives (slice_index_or (cells_in r g) a (m.whole 0)) g) h
      pub of_assignment : (active : ℕ) (r : Region) (at : ℕ) (js : Subscripts) (e : Expression) (h : Memory Cell) → R.expression active (assignment r at js e) h ≡ (R.expression active e >>= λ v. R.subscripts active js at >>= λ a g. gives v (with_cells r (slice_set (cells_in r g) a v) g)) h
      -- A call is its arguments, a unit, and its function, with one more active; then the caller's variables are back.
      pub of_invocation : (active f p : ℕ) (es : Arguments) (h : Memory Cell) → R.expression active (invocation f p es) h ≡ (R.arguments active es >>= λ xs. admit active p >> λ g. back_in g.frame (R.call (active + 1) f xs g)) h
      pub of_negation : (active p : ℕ) (e : Expression) (h : Memory Cell) → R.expression active (negation p e) h ≡ (R.expression active e >>= λ v. reckon p (m.negate v)) h
      pub of_inversion : (active p : ℕ) (e : Expression) (h : Memory Cell) → R.expression active (inversion p e) h ≡ (test_of active p e >>= λ yes. pure (m.whole (cond yes 0 1))) h
      pub of_operation : (active : ℕ) (o : Operator) (p : ℕ) (l r : Expression) (h : Memory Cell) → R.expression active (operation o p l r) h ≡ (R.expression active l >>= λ x. R.expression active r >>= λ y. reckon p (applied m o x y)) h
      -- An index has its place below the number of elements, and each counts so many cells.
      pub of_whole : (active at : ℕ) (h : Memory Cell) → R.subscripts active whole_of at h ≡ pure at h
      pub of_subscript : (active p n each : ℕ) (e : Expression) (js : Subscripts) (at : ℕ) (h : Memory Cell) → R.subscripts active (subscript p n each e js) at h ≡ (R.expression active e >>= λ v. within p n (m.place v) >>= λ i. R.subscripts active js (at + i * each)) h
      -- Arguments are read from left to right.
      pub of_none : (active : ℕ) (h : Memory Cell) → R.arguments active none h ≡ pure [] h
      pub of_also : (active : ℕ) (e : Expression) (es : Arguments) (h : Memory Cell) → R.arguments active (also e es) h ≡ (R.expression active e >>= λ x. R.arguments active es >>= λ xs. pure (x ∷ xs)) h
      -- A statement returns a value, or none and goes on.
      pub of_perform : (active : ℕ) (e : Expression) (h : Memory Cell) → R.statement active (perform e) h ≡ (R.expression active e >> pure None) h
      pub of_sequence : (active : ℕ) (ss : Statements) (h : Memory Cell) → R.statement active (sequence ss) h ≡ R.statements active ss h
      pub of_give : (active : ℕ) (e : Expression) (h : Memory Cell) → R.statement active (give e) h ≡ (R.expression active e >>= λ v. pure (Some v)) h
      pub of_when : (active p : ℕ) (e : Expression) (s : Statement) (h : Memory Cell) → R.statement active (when p e s) h ≡ (test_of active p e >>= λ yes. cond yes (R.statement active s) (pure None)) h
      pub of_either : (active p : ℕ) (e : Expression) (s t : Statement) (h : Memory Cell) → R.statement active (either p e s t) h ≡ (test_of active p e >>= λ yes. cond yes (R.statement active s) (R.statement active t)) h
      -- A loop is its test, its body, a unit, and itself again.
      pub of_repeat : (active p : ℕ) (e : Expression) (s : Statement) (h : Memory Cell) → R.statement active (repeat p e s) h ≡ (test_of active p e >>= λ yes. cond yes (R.statement active s >>= unless_returned (spend p >> R.statement active (repeat p e s))) (pure None)) h
      -- After a statement that returned, the rest is passed over.
      pub of_finish : (active : ℕ) (h : Memory Cell) → R.statements active finish h ≡ pure None h
      pub of_first : (active : ℕ) (s : Statement) (ss : Statements) (h : Memory Cell) → R.statements active (first s ss) h ≡ (R.statement active s >>= unless_returned (R.statements active ss)) h
      -- A function is its body, over its arguments and its own variables.
      pub of_call : (active f : ℕ) (r : Routine) (xs : List Cell) (h : Memory Cell) → slice_get rs f ≡ Some r → R.call active f xs h ≡ (R.statements active r.body >>= λ v. pure (unwrap_or v (m.whole 0))) (with_frame (xs ++ replicate r.locals (m.whole 0)) h)
      -- the names of a sheet lead to no other number
      pub of_no_call : (active f : ℕ) (xs : List Cell) (h : Memory Cell) → slice_get rs f ≡ None → R.call active f xs h ≡ pure (m.whole 0) h

  -- The reading obeys them.
  abbrev pub Equations : Type 0
  Equations = Obeys readings

  -- They leave no choice: whatever obeys them is the reading.
  abbrev pub Only : Type 0
  Only = (R : Readings Cell) → Obeys R → R ≡ readings

-- the budget left
abbrev pub left : {Cell X : Type 0} → Outcome Cell X → ℕ
left (gives x h) = h.budget
left (stops e p c b) = b

-- the same memory, with d units more
abbrev pub lifted : {Cell : Type 0} → ℕ → Memory Cell → Memory Cell
lifted d h = with_budget (h.budget + d) h

-- the same outcome, with d units more left
abbrev pub raised : {Cell X : Type 0} → ℕ → Outcome Cell X → Outcome Cell X
raised d (gives x h) = gives x (lifted d h)
raised d (stops e p c b) = stops e p c (b + d)

module _ {Cell : Type 0} (m : Meaning Cell) (rs : List Routine) where
  -- A reading never leaves more budget than it had.
  abbrev pub NeverMore : Type 0
  NeverMore = (active f : ℕ) (xs cells : List Cell) (b : ℕ) → left (reading m rs active f xs cells b) ≤ b

  -- A reading that stops for want of a unit leaves none.
  abbrev pub NoneLeft : Type 0
  NoneLeft = (active f : ℕ) (xs cells : List Cell) (b p : ℕ) (c : List Cell) (n : ℕ) → reading m rs active f xs cells b ≡ stops Budget p c n → n ≡ 0

  -- Any other reading answers the same with d units more, and spends the same.
  pub record Larger : Type 0 where
    pub value : (active f : ℕ) (xs cells : List Cell) (b d : ℕ) (v : Cell) (h : Memory Cell) → reading m rs active f xs cells b ≡ gives v h → reading m rs active f xs cells (b + d) ≡ gives v (lifted d h)
    pub stopped : (active f : ℕ) (xs cells : List Cell) (b d : ℕ) (e : Stop) (p : ℕ) (c : List Cell) (n : ℕ) → ¬ (e ≡ Budget) → reading m rs active f xs cells b ≡ stops e p c n → reading m rs active f xs cells (b + d) ≡ stops e p c (n + d)

  -- Units that are left in the end were not wanted: without them a reading answers the same, and spends the same.
  abbrev pub Smaller : Type 0
  Smaller = (active f : ℕ) (xs cells : List Cell) (b d : ℕ) → d ≤ left (reading m rs active f xs cells (b + d)) → reading m rs active f xs cells (b + d) ≡ raised d (reading m rs active f xs cells b)

-- What holds of the readings of every sheet.
pub record ReadingLaws {Cell : Type 0} (m : Meaning Cell) : Type 0 where
  pub levels_agree : (rs : List Routine) → LevelsAgree m rs
  pub equations : (rs : List Routine) → Equations m rs
  pub only : (rs : List Routine) → Only m rs
  pub never_more : (rs : List Routine) → NeverMore m rs
  pub none_left : (rs : List Routine) → NoneLeft m rs
  pub larger : (rs : List Routine) → Larger m rs
  pub smaller : (rs : List Routine) → Smaller m rs
  pub stops_so : (rs : List Routine) → StopsSo m rs
