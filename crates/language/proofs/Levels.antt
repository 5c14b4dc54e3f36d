-- Readings over two levels go alongside. Assumes nothing.
use Rattle.std.proofs.Common.{◌≡◌, ℕ, zero, suc, ◌+◌, ◌*◌, ◌≤◌, cond, List, [], ◌∷◌, ◌++◌, replicate, Some, None, Option, unwrap_or, refl, le_refl, arith}
use mathlib.Core.Path.{fun_ext}
use Rattle.std.specs.List.{slice_get}
use Rattle.reckoning.specs.Meaning.{Meaning, applied}
use Rattle.language.specs.Resolved.{Expression, constant, value, assignment, invocation, negation, inversion, operation, Subscripts, whole_of, subscript, Arguments, none, also, Statement, perform, sequence, give, when, either, repeat, Statements, finish, first, Routine}
use Rattle.language.specs.Reading.{Memory, Reads, Level, ◌>>=◌, reckon, read_expression, read_subscripts, read_arguments, read_statement, read_statements, read_routine, level}
use Rattle.language.specs.Readings.{expression_of, subscripts_of, arguments_of, statement_of, statements_of, LevelsAgree}
use Rattle.language.proofs.Alongside.{Alongside, afterwards, purely, reckoned, chosen, inside, fetched, stored, unreturned, alone, framed, returned, spent, admitted}

module _ {Cell : Type 0} where
  -- Two levels whose loops and calls go alongside.
  pub record Both (n d : ℕ) (L M : Level Cell) : Type 0 where
    pub again : (active : ℕ) (s : Statement) → Alongside n d (L.again active s) (M.again active s)
    pub callee : (active f : ℕ) (xs : List Cell) → Alongside n d (L.callee active f xs) (M.callee active f xs)

module _ {Cell : Type 0} (m : Meaning Cell) {n d : ℕ} {L M : Level Cell} (both : Both n d L M) (active : ℕ) where
  mutual
    pub expression : (e : Expression) → Alongside (suc n) d (read_expression m L active e) (read_expression m M active e)
    expression (constant k) = purely (m.whole k)
    expression (value r at js) = afterwards (subscripts js at) (λ a. fetched r a (m.whole 0))
    expression (assignment r at js e) = afterwards (expression e) (λ v. afterwards (subscripts js at) (λ a. stored r a v))
    expression (invocation f p es) = afterwards (arguments es) (λ xs. admitted active p (returned (both.callee (active + 1) f xs)))
    expression (negation p e) = afterwards (expression e) (λ v. reckoned p (m.negate v))
    expression (inversion p e) = afterwards (expression e) (λ v. afterwards (reckoned p (m.test v)) (λ yes. purely (m.whole (cond yes 0 1))))
    expression (operation o p l r) = afterwards (expression l) (λ x. afterwards (expression r) (λ y. reckoned p (applied m o x y)))

    pub subscripts : (js : Subscripts) (at : ℕ) → Alongside (suc n) d (read_subscripts m L active js at) (read_subscripts m M active js at)
    subscripts whole_of at = purely at
    subscripts (subscript p k each e js) at = afterwards (expression e) (λ v. afterwards (inside p k (m.place v)) (λ i. subscripts js (at + i * each)))

    pub arguments : (es : Arguments) → Alongside (suc n) d (read_arguments m L active es) (read_arguments m M active es)
    arguments none = purely []
    arguments (also e es) = afterwards (expression e) (λ x. afterwards (arguments es) (λ xs. purely (x ∷ xs)))

  tests : (p : ℕ) (e : Expression) → Alongside (suc n) d (read_expression m L active e >>= λ v. reckon p (m.test v)) (read_expression m M active e >>= λ v. reckon p (m.test v))
  tests p e = afterwards (expression e) (λ v. reckoned p (m.test v))

  mutual
    pub statement : (s : Statement) → Alongside (suc n) d (read_statement m L active s) (read_statement m M active s)
    statement (perform e) = afterwards (expression e) (λ _. purely None)
    statement (sequence ss) = statements ss
    statement (give e) = afterwards (expression e) (λ v. purely (Some v))
    statement (when p e s) = afterwards (tests p e) (λ yes. chosen yes (statement s) (purely None))
    statement (either p e s t) = afterwards (tests p e) (λ yes. chosen yes (statement s) (statement t))
    statement (repeat p e s) = afterwards (tests p e) (λ yes. chosen yes (afterwards (statement s) (unreturned (spent p (both.again active (repeat p e s))))) (purely None))

    pub statements : (ss : Statements) → Alongside (suc n) d (read_statements m L active ss) (read_statements m M active ss)
    statements finish = purely None
    statements (first s ss) = afterwards (statement s) (unreturned (statements ss))

  pub routine : (r : Routine) (xs : List Cell) → Alongside (suc n) d (read_routine m L active r xs) (read_routine m M active r xs)
  routine r xs = framed (xs ++ replicate r.locals (m.whole 0)) (afterwards (statements r.body) (λ v. purely (unwrap_or v (m.whole 0))))

-- Where the first reading has no units to spend, only the second counts.
none_first : {Cell X : Type 0} {d : ℕ} {q r s : Reads Cell X} → Alongside 1 d r s → Alongside 0 (suc d) q s
none_first on = record {
  frugal = λ h lt. absurd (omega arith);
  other = λ h lt. on.other h (omega arith);
  dry = λ h lt. absurd (omega arith);
  same = λ h lt. absurd (omega arith);
}

pub nothing : {Cell X : Type 0} {r s : Reads Cell X} → Alongside 0 0 r s
nothing = record {
  frugal = λ h lt. absurd (omega arith);
  other = λ h lt. absurd (omega arith);
  dry = λ h lt. absurd (omega arith);
  same = λ h lt. absurd (omega arith);
}

module _ {Cell : Type 0} (m : Meaning Cell) (rs : List Routine) where
  -- A level's loops and calls are readings over the level below.
  next : {n d : ℕ} (k j : ℕ) → Both n d (level m rs k) (level m rs j) → Both (suc n) d (level m rs (suc k)) (level m rs (suc j))
  next {n = n} {d = d} k j both = record { again = statement m both; callee = λ active f xs. go active f xs (slice_get rs f) refl }
    where
      go : (active f : ℕ) (xs : List Cell) (o : Option Routine) → slice_get rs f ≡ o → Alongside (suc n) d ((level m rs (suc k)).callee active f xs) ((level m rs (suc j)).callee active f xs)
      go active f xs (Some r) is = rw is (routine m both active r xs)
      go active f xs None is = rw is (purely (m.whole 0))

  -- Two levels with room for n units, the second for d more, go alongside for so many. The lowest is never reached: a unit is spent first.
  pub levels : (n d k j : ℕ) → n ≤ k → n + d ≤ j → Both n d (level m rs k) (level m rs j)
  levels zero zero k j low up = record { again = λ _ _. nothing; callee = λ _ _ _. nothing }
  levels zero (suc d) k zero low up = absurd (omega arith)
  levels zero (suc d) k (suc j) low up =
      let on = next k j (levels zero d k j (omega arith) (omega arith)) in
      record { again = λ active s. none_first (on.again active s); callee = λ active f xs. none_first (on.callee active f xs) }
  levels (suc n) d zero j low up = absurd (omega arith)
  levels (suc n) d (suc k) zero low up = absurd (omega arith)
  levels (suc n) d (suc k) (suc j) low up = next k j (levels n d k j (omega arith) (omega arith))

  -- A reading by levels, which goes alongside itself over two levels that do.
  abbrev Even : {X : Type 0} → (Level Cell → Reads Cell X) → Type 0
  Even r = (n : ℕ) (L M : Level Cell) → Both n 0 L M → Alongside (suc n) 0 (r L) (r M)

  suffices : {X : Type 0} (r : Level Cell → Reads Cell X) → Even r → (k : ℕ) (h : Memory Cell) → h.budget ≤ k → r (level m rs k) h ≡ r (level m rs h.budget) h
  suffices r even k h low = alone (even h.budget _ _ (levels h.budget 0 h.budget k (le_refl h.budget) (omega arith))) h (le_refl (suc h.budget))

  pub levels_agree : LevelsAgree m rs
  levels_agree = record {
    expression = λ k active e. suffices (λ L. read_expression m L active e) (λ n L M both. expression m both active e) k;
    subscripts = λ k active js at. suffices (λ L. read_subscripts m L active js at) (λ n L M both. subscripts m both active js at) k;
    arguments = λ k active es. suffices (λ L. read_arguments m L active es) (λ n L M both. arguments m both active es) k;
    statement = λ k active s. suffices (λ L. read_statement m L active s) (λ n L M both. statement m both active s) k;
    statements = λ k active ss. suffices (λ L. read_statements m L active ss) (λ n L M both. statements m both active ss) k;
    routine = λ k active r xs. suffices (λ L. read_routine m L active r xs) (λ n L M both. routine m both active r xs) k;
    call = λ k active f xs h low. alone ((levels (suc h.budget) 0 (suc h.budget) k (le_refl _) (omega arith)).callee active f xs) h (le_refl _);
    reads = λ active f xs cells b. refl;
  }

  -- A level that every level goes alongside, up to its own number, has the readings of them all.
  module _ (M : Level Cell) (meets : (n : ℕ) → Both n 0 (level m rs n) M) where
    at_last : {X : Type 0} (r : Level Cell → Reads Cell X) → Even r → r M ≡ (λ h. r (level m rs h.budget) h)
    at_last r even = fun_ext (λ h. alone (even h.budget _ _ (meets h.budget)) h (le_refl (suc h.budget)))

    pub expression_over : (active : ℕ) (e : Expression) → read_expression m M active e ≡ expression_of m rs active e
    expression_over active e = at_last (λ L. read_expression m L active e) (λ n L K both. expression m both active e)

    pub subscripts_over : (active : ℕ) (js : Subscripts) (at : ℕ) → read_subscripts m M active js at ≡ subscripts_of m rs active js at
    subscripts_over active js at = at_last (λ L. read_subscripts m L active js at) (λ n L K both. subscripts m both active js at)

    pub arguments_over : (active : ℕ) (es : Arguments) → read_arguments m M active es ≡ arguments_of m rs active es
    arguments_over active es = at_last (λ L. read_arguments m L active es) (λ n L K both. arguments m both active es)

    pub statement_over : (active : ℕ) (s : Statement) → read_statement m M active s ≡ statement_of m rs active s
    statement_over active s = at_last (λ L. read_statement m L active s) (λ n L K both. statement m both active s)

    pub statements_over : (active : ℕ) (ss : Statements) → read_statements m M active ss ≡ statements_of m rs active ss
    statements_over active ss = at_last (λ L. read_statements m L active ss) (λ n L K both. statements m both active ss)
