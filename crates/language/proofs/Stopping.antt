-- A reading stops only as a rule can. Assumes nothing.
use Rattle.std.proofs.Common.{ℕ, zero, suc, ◌+◌, ◌*◌, Bool, true, false, cond, ltb, leb, List, [], ◌++◌, replicate, Some, None, Ok, Err, Option, Result}
use Rattle.std.specs.List.{slice_get}
use Rattle.reckoning.specs.Meaning.{Meaning, applied}
use Rattle.reckoning.specs.declared.Stop.{Stop as ReckoningStop}
use Rattle.instructions.specs.declared.Stop.TheVariants.{Index, Depth}
use Rattle.language.specs.Resolved.{Expression, constant, value, assignment, invocation, negation, inversion, operation, Subscripts, whole_of, subscript, Arguments, none, also, Statement, perform, sequence, give, when, either, repeat, Statements, finish, first, Routine}
use Rattle.language.specs.Reading.{Memory, Outcome, gives, stops, Reads, follow, pure, stop, with_frame, reckon, within, pay, spend, admit, back_in, unless_returned, Level, read_expression, read_subscripts, read_arguments, tested, read_statement, read_statements, read_numbered, level}
use Rattle.language.specs.Stopping.{Clean, StopsSo}

module _ {Cell : Type 0} where
  then : {X Y : Type 0} (o : Outcome Cell X) (k : X → Reads Cell Y) → Clean o → ((x : X) (h : Memory Cell) → Clean (k x h)) → Clean (follow o k)
  then (gives x h) k clean more = more x h
  then (stops e p c b) k clean more = clean

  reckoned : {X : Type 0} (p : ℕ) (x : Result X ReckoningStop) (h : Memory Cell) → Clean (reckon p x h)
  reckoned p (Ok x) h = tt
  reckoned p (Err e) h = tt

  either_way : {X : Type 0} (b : Bool) (on off : Reads Cell X) (h : Memory Cell) → Clean (on h) → Clean (off h) → Clean (cond b on off h)
  either_way true on off h a b = a
  either_way false on off h a b = b

  indexed : (p n : ℕ) (o : Option ℕ) (h : Memory Cell) → Clean (within p n o h)
  indexed p n (Some i) h = either_way (ltb i n) (pure i) (stop Index p) h tt tt
  indexed p n None h = tt

  paid : (p b : ℕ) (h : Memory Cell) → Clean (pay p b h)
  paid p zero h = tt
  paid p (suc b) h = tt

  admitted : (active p : ℕ) (h : Memory Cell) → Clean (admit active p h)
  admitted active p h = either_way (leb 24 active) (stop Depth p) (spend p) h tt (paid p h.budget h)

  back : {X : Type 0} (cs : List Cell) (o : Outcome Cell X) → Clean o → Clean (back_in cs o)
  back cs (gives x h) clean = tt
  back cs (stops e p c b) clean = clean

  unless : (k : Reads Cell (Option Cell)) (o : Option Cell) (h : Memory Cell) → Clean (k h) → Clean (unless_returned k o h)
  unless k (Some v) h clean = tt
  unless k None h clean = clean

module _ {Cell : Type 0} (m : Meaning Cell) where
  pub record CleanLevel (L : Level Cell) : Type 0 where
    pub again : (active : ℕ) (s : Statement) (h : Memory Cell) → Clean (L.again active s h)
    pub callee : (active f : ℕ) (xs : List Cell) (h : Memory Cell) → Clean (L.callee active f xs h)

  module _ (L : Level Cell) (clean : CleanLevel L) (active : ℕ) where
    mutual
      expression : (e : Expression) (h : Memory Cell) → Clean (read_expression m L active e h)
      expression (constant n) h = tt
      expression (value r at js) h = then (read_subscripts m L active js at h) _ (subscripts js at h) (λ a g. tt)
      expression (assignment r at js e) h = then (read_expression m L active e h) _ (expression e h) (λ v g. then (read_subscripts m L active js at g) _ (subscripts js at g) (λ a i. tt))
      expression (invocation f p es) h = then (read_arguments m L active es h) _ (arguments es h) (λ xs g. then (admit active p g) _ (admitted active p g) (λ _ i. back i.frame (L.callee (active + 1) f xs i) (clean.callee (active + 1) f xs i)))
      expression (negation p e) h = then (read_expression m L active e h) _ (expression e h) (λ v g. reckoned p (m.negate v) g)
      expression (inversion p e) h = then (read_expression m L active e h) _ (expression e h) (λ v g. then (reckon p (m.test v) g) _ (reckoned p (m.test v) g) (λ so i. tt))
      expression (operation o p l r) h = then (read_expression m L active l h) _ (expression l h) (λ x g. then (read_expression m L active r g) _ (expression r g) (λ y i. reckoned p (applied m o x y) i))

      subscripts : (js : Subscripts) (at : ℕ) (h : Memory Cell) → Clean (read_subscripts m L active js at h)
      subscripts whole_of at h = tt
      subscripts (subscript p n each e js) at h = then (read_expression m L active e h) _ (expression e h) (λ v g. then (within p n (m.place v) g) _ (indexed p n (m.place v) g) (λ i j. subscripts js (at + i * each) j))

      arguments : (es : Arguments) (h : Memory Cell) → Clean (read_arguments m L active es h)
      arguments none h = tt
      arguments (also e es) h = then (read_expression m L active e h) _ (expression e h) (λ x g. then (read_arguments m L active es g) _ (arguments es g) (λ xs i. tt))

    test : (p : ℕ) (e : Expression) (h : Memory Cell) → Clean (tested m L active p e h)
    test p e h = then (read_expression m L active e h) _ (expression e h) (λ v g. reckoned p (m.test v) g)

    mutual
      statement : (s : Statement) (h : Memory Cell) → Clean (read_statement m L active s h)
      statement (perform e) h = then (read_expression m L active e h) _ (expression e h) (λ v g. tt)
      statement (sequence ss) h = statements ss h
      statement (give e) h = then (read_expression m L active e h) _ (expression e h) (λ v g. tt)
      statement (when p e s) h = then (tested m L active p e h) _ (test p e h) (λ so g. either_way so (read_statement m L active s) (pure None) g (statement s g) tt)
      statement (either p e s t) h = then (tested m L active p e h) _ (test p e h) (λ so g. either_way so (read_statement m L active s) (read_statement m L active t) g (statement s g) (statement t g))
      statement (repeat p e s) h = then (tested m L active p e h) _ (test p e h) (λ so g. either_way so (λ h. follow (read_statement m L active s h) (unless_returned (λ h. follow (spend p h) (λ _. L.again active (repeat p e s))))) (pure None) g (then (read_statement m L active s g) _ (statement s g) (λ r i. unless (λ h. follow (spend p h) (λ _. L.again active (repeat p e s))) r i (then (spend p i) _ (paid p i.budget i) (λ _ j. clean.again active (repeat p e s) j)))) tt)

      statements : (ss : Statements) (h : Memory Cell) → Clean (read_statements m L active ss h)
      statements finish h = tt
      statements (first s ss) h = then (read_statement m L active s h) _ (statement s h) (λ r g. unless (read_statements m L active ss) r g (statements ss g))

    numbered : (rs : List Routine) (o : Option Routine) (xs : List Cell) (h : Memory Cell) → Clean (read_numbered m rs L active o xs h)
    numbered rs (Some r) xs h = then (read_statements m L active r.body (with_frame (xs ++ replicate r.locals (m.whole 0)) h)) _ (statements r.body _) (λ v g. tt)
    numbered rs None xs h = tt

  pub levels : (rs : List Routine) (k : ℕ) → CleanLevel (level m rs k)
  levels rs zero = record { again = λ _ _ _. tt; callee = λ _ _ _ _. tt }
  levels rs (suc k) = go (levels rs k)
    where
      go : CleanLevel (level m rs k) → CleanLevel (level m rs (suc k))
      go clean = record { again = λ active s h. statement (level m rs k) clean active s h; callee = λ active f xs h. numbered (level m rs k) clean active rs (slice_get rs f) xs h }

  pub stops_so : (rs : List Routine) → StopsSo m rs
  stops_so rs active f xs cells budget = (levels rs (suc budget)).callee active f xs (record { sheet = cells; frame = []; budget = budget })
