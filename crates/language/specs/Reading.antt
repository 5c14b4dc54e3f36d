-- The reading: what a sheet means, said on its tree, without any code. Assumes nothing.
use Rattle.std.specs.Prelude.{ℕ, zero, suc, ◌+◌, ◌*◌, Bool, cond, List, [], ◌∷◌, ◌++◌, replicate, Some, None, Ok, Err, Option, Result, nat_le, nat_lt, slice_index_or, slice_set}
use Rattle.std.specs.Option.{unwrap_or}
use Rattle.std.specs.List.{slice_get}
use Rattle.reckoning.specs.declared.Stop.{Stop as ReckoningStop}
use Rattle.reckoning.specs.Meaning.{Meaning, applied}
use Rattle.instructions.specs.declared.Stop.{Stop}
use Rattle.instructions.specs.declared.Stop.TheVariants.{Index, Budget, Depth, Reckoned}
use Rattle.language.specs.Resolved.{Region, on_sheet, in_frame, Expression, constant, value, assignment, invocation, negation, inversion, operation, Subscripts, whole_of, subscript, Arguments, none, also, Statement, perform, sequence, give, when, either, repeat, Statements, finish, first, Routine}

-- What a reading knows: the sheet's cells, those of the active function (parameters, then its own variables), and the units of budget left.
pub record Memory (Cell : Type 0) : Type 0 where
  pub sheet : List Cell
  pub frame : List Cell
  pub budget : ℕ

-- A reading gives something, or stops at a place of the text, with the sheet's cells as they then stand and the budget left.
pub data Outcome (Cell X : Type 0) : Type 0 where
  gives : X → Memory Cell → Outcome Cell X
  stops : Stop → ℕ → List Cell → ℕ → Outcome Cell X

abbrev pub Reads : Type 0 → Type 0 → Type 0
Reads Cell X = Memory Cell → Outcome Cell X

abbrev pub follow : {Cell X Y : Type 0} → Outcome Cell X → (X → Reads Cell Y) → Outcome Cell Y
follow (gives x h) k = k x h
follow (stops e p c b) k = stops e p c b

-- The first stop ends a reading.
infixl 1 ◌>>=◌
abbrev pub ◌>>=◌ : {Cell X Y : Type 0} → Reads Cell X → (X → Reads Cell Y) → Reads Cell Y
◌>>=◌ r k h = follow (r h) k

infixl 1 ◌>>◌
abbrev pub ◌>>◌ : {Cell X Y : Type 0} → Reads Cell X → Reads Cell Y → Reads Cell Y
◌>>◌ r k = r >>= λ _. k

abbrev pub pure : {Cell X : Type 0} → X → Reads Cell X
pure x h = gives x h

abbrev pub stop : {Cell X : Type 0} → Stop → ℕ → Reads Cell X
stop e p h = stops e p h.sheet h.budget

abbrev pub with_budget : {Cell : Type 0} → ℕ → Memory Cell → Memory Cell
with_budget b h = record { sheet = h.sheet; frame = h.frame; budget = b }

abbrev pub with_frame : {Cell : Type 0} → List Cell → Memory Cell → Memory Cell
with_frame f h = record { sheet = h.sheet; frame = f; budget = h.budget }

abbrev pub cells_in : {Cell : Type 0} → Region → Memory Cell → List Cell
cells_in on_sheet h = h.sheet
cells_in in_frame h = h.frame

abbrev pub with_cells : {Cell : Type 0} → Region → List Cell → Memory Cell → Memory Cell
with_cells on_sheet cs h = record { sheet = cs; frame = h.frame; budget = h.budget }
with_cells in_frame cs h = record { sheet = h.sheet; frame = cs; budget = h.budget }

-- An operation of the reckoning, whose stop has the place of its sign, or of the word of the statement that tests.
abbrev pub reckon : {Cell X : Type 0} → ℕ → Result X ReckoningStop → Reads Cell X
reckon p (Ok x) = pure x
reckon p (Err e) = stop (Reckoned e) p

-- An index has a place below the number of elements.
abbrev pub within : {Cell : Type 0} → ℕ → ℕ → Option ℕ → Reads Cell ℕ
within p n (Some i) = cond (nat_lt i n) (pure i) (stop Index p)
within p n None = stop Index p

-- one unit of the budget
abbrev pub pay : {Cell : Type 0} → ℕ → ℕ → Reads Cell (Unit {0})
pay p zero h = stop Budget p h
pay p (suc b) h = gives tt (with_budget b h)

abbrev pub spend : {Cell : Type 0} → ℕ → Reads Cell (Unit {0})
spend p h = pay p h.budget h

-- A call costs one unit, unless 24 functions are active or no unit is left.
abbrev pub admit : {Cell : Type 0} → ℕ → ℕ → Reads Cell (Unit {0})
admit active p = cond (nat_le 24 active) (stop Depth p) (spend p)

-- The caller's variables are back after a call.
abbrev pub back_in : {Cell X : Type 0} → List Cell → Outcome Cell X → Outcome Cell X
back_in f (gives x h) = gives x (with_frame f h)
back_in f (stops e p c b) = stops e p c b

-- After a statement that returned, the rest is passed over.
abbrev pub unless_returned : {Cell : Type 0} → Reads Cell (Option Cell) → Option Cell → Reads Cell (Option Cell)
unless_returned k (Some v) = pure (Some v)
unless_returned k None = k

-- The two readings that are no readings of a part, each for a unit: a loop again, and a function's body. Both go by the number of active functions.
pub record Level (Cell : Type 0) : Type 0 where
  pub again : ℕ → Statement → Reads Cell (Option Cell)
  pub callee : ℕ → ℕ → List Cell → Reads Cell Cell

module _ {Cell : Type 0} (m : Meaning Cell) where
  module _ (L : Level Cell) (active : ℕ) where
    abbrev mutual
      -- Operands are read left to right, then the operator acts; of an assignment the right side is read first, then the index on its left.
      pub read_expression : Expression → Reads Cell Cell
      read_expression (constant n) = pure (m.whole n)
      read_expression (value r at js) = read_subscripts js at >>= λ a h. gives (slice_index_or (cells_in r h) a (m.whole 0)) h
      read_expression (assignment r at js e) = read_expression e >>= λ v. read_subscripts js at >>= λ a h. gives v (with_cells r (slice_set (cells_in r h) a v) h)
      read_expression (invocation f p es) = read_arguments es >>= λ xs. admit active p >> λ h. back_in h.frame (L.callee (active + 1) f xs h)
      read_expression (negation p e) = read_expression e >>= λ v. reckon p (m.negate v)
      read_expression (inversion p e) = read_expression e >>= λ v. reckon p (m.test v) >>= λ yes. pure (m.whole (cond yes 0 1))
      read_expression (operation o p l r) = read_expression l >>= λ x. read_expression r >>= λ y. reckon p (applied m o x y)

      -- the offset of an element, from that of its array
      pub read_subscripts : Subscripts → ℕ → Reads Cell ℕ
      read_subscripts whole_of at = pure at
      read_subscripts (subscript p n each e js) at = read_expression e >>= λ v. within p n (m.place v) >>= λ i. read_subscripts js (at + i * each)

      pub read_arguments : Arguments → Reads Cell (List Cell)
      read_arguments none = pure []
      read_arguments (also e es) = read_expression e >>= λ x. read_arguments es >>= λ xs. pure (x ∷ xs)

    abbrev pub tested : ℕ → Expression → Reads Cell Bool
    tested p e = read_expression e >>= λ v. reckon p (m.test v)

    -- A statement returns a value or goes on. Each return to the test of a loop costs one unit.
    abbrev mutual
      pub read_statement : Statement → Reads Cell (Option Cell)
      read_statement (perform e) = read_expression e >> pure None
      read_statement (sequence ss) = read_statements ss
      read_statement (give e) = read_expression e >>= λ v. pure (Some v)
      read_statement (when p e s) = tested p e >>= λ yes. cond yes (read_statement s) (pure None)
      read_statement (either p e s t) = tested p e >>= λ yes. cond yes (read_statement s) (read_statement t)
      read_statement (repeat p e s) = tested p e >>= λ yes. cond yes (read_statement s >>= unless_returned (spend p >> L.again active (repeat p e s))) (pure None)

      pub read_statements : Statements → Reads Cell (Option Cell)
      read_statements finish = pure None
      read_statements (first s ss) = read_statement s >>= unless_returned (read_statements ss)

    -- A function's own variables start at whole(0), and its value is that of the first return reached, or whole(0).
    abbrev pub read_routine : Routine → List Cell → Reads Cell Cell
    read_routine r xs h = follow (read_statements r.body (with_frame (xs ++ replicate r.locals (m.whole 0)) h)) (λ v. pure (unwrap_or v (m.whole 0)))

  module _ (rs : List Routine) where
    -- the function of a number; the names of a sheet lead to no other
    abbrev pub read_numbered : Level Cell → ℕ → Option Routine → List Cell → Reads Cell Cell
    read_numbered L active (Some r) xs = read_routine L active r xs
    read_numbered L active None xs = pure (m.whole 0)

    -- What loops and calls lead to while at most so many units are left.
    abbrev pub level : ℕ → Level Cell
    level zero = record { again = λ _ _. stop Budget 0; callee = λ _ _ _. stop Budget 0 }
    level (suc k) = record { again = read_statement (level k); callee = λ active f xs. read_numbered (level k) active (slice_get rs f) xs }

    -- The reading of the function of a number, with its arguments, while so many functions are active, itself among them.
    abbrev pub reading : ℕ → ℕ → List Cell → List Cell → ℕ → Outcome Cell Cell
    reading active f xs cells budget = (level (suc budget)).callee active f xs (record { sheet = cells; frame = []; budget = budget })
