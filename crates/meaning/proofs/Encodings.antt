-- Every instruction of a sheet's code has a word. Assumes nothing.
use Rattle.std.proofs.Common.{◌≡◌, ℕ, ◌+◌, ◌*◌, ◌<◌, ◌≤◌, ◌&&◌, List, [], ◌∷◌, ◌++◌, length, get_or, pos, negsuc, Some, sym, refl, ap, ◌∙◌, arith, le-leb}
use Rattle.std.specs.List.{slice_get, AllByRecursion}
use Rattle.std.proofs.ByRecursion.{All-append}
use Rattle.std.proofs.lemmas.List.{length-append}
use Rattle.reckoning.specs.Meaning.{largest}
use Rattle.reckoning.specs.declared.Operator.TheVariants.{Add, Multiply}
use Rattle.instructions.specs.declared.Instruction.{Instruction}
use Rattle.instructions.specs.declared.Instruction.TheVariants.{Halt, LoadConstant, LoadRelative, Load, Store, Pop, Operate, Negate, Not, Jump, JumpZero, Mark, Call, Enter, Allocate, Return, Check}
use lib.Signed.{le_z}
use Rattle.instructions.specs.Words.{operand, encoded}
use Rattle.instructions.proofs.RoundTrip.{encoded_is}
use Rattle.language.specs.Resolved.{Region, on_sheet, in_frame, Expression, constant, value, assignment, invocation, negation, inversion, operation, Subscripts, whole_of, subscript, Arguments, none, also, arity, Statement, perform, sequence, give, when, either, repeat, Statements, finish, first, Routine}
use Rattle.language.proofs.Fitting.{room, Fits, Inside, FitArgs, FitStatement, FitStatements, FitRoutines, starts_inside}
use Rattle.language.proofs.Resolution.{fit, cells_kept, parameters_few}
use Rattle.translation.specs.Translation.{Line, base, code_expression, code_subscripts, code_arguments, code_statement, code_statements, need, code_routine, code_routines, size, starts}
use Rattle.translation.proofs.Lengths.{long_routine}
use Rattle.meaning.specs.Agreement.{Encodable}
use Rattle.meaning.proofs.Loading.{starts_small, all_nth}

-- an instruction that has a word
abbrev HasWord : Line → Type 0
HasWord l = (w : ℕ) × (encoded l.0 ≡ Some w)

-- one whose operand is a number that 23 bits hold
small : (i : Instruction) (n p : ℕ) → operand i ≡ pos n → n ≤ 8388607 → HasWord (i, p)
small i n p is low = (_, sym (encoded_is i _ (ap (λ z. le_z (negsuc 8388607) z && le_z z (pos 8388607)) is ∙ le-leb n 8388607 low) refl))

based : (r : Region) (at : ℕ) → at < 16384 → HasWord (base r at, 0)
based on_sheet at low = small (LoadConstant (pos (at + 1))) (at + 1) 0 refl (omega arith)
based in_frame at low = small (LoadRelative (pos (at + 1))) (at + 1) 0 refl (omega arith)

module _ (rs : List Routine) (g n : ℕ) (few : (r : Region) → room g n r ≤ 16384) (st : List ℕ) (near : (f : ℕ) → get_or st f 0 ≤ largest) (arguments-few : (f : ℕ) (r : Routine) → slice_get rs f ≡ Some r → r.parameters ≤ 8) where
  starts_low : (r : Region) (js : Subscripts) (at : ℕ) → Inside rs g n (room g n r) js at → at < 16384
  starts_low r js at inside = omega (arith, starts_inside rs g n (room g n r) js at inside, few r)

  mutual
    expression : (e : Expression) → Fits rs g n e → AllByRecursion HasWord (code_expression st e)
    expression (constant k) fits = (small (LoadConstant (pos k)) k 0 refl (omega arith), tt)
    expression (value r at js) fits = (based r at (starts_low r js at fits), All-append HasWord (code_subscripts st js) _ (subscripts (room g n r) js at fits) (small Load 0 0 refl (omega arith), tt))
    expression (assignment r at js e) fits = All-append HasWord (code_expression st e) _ (expression e fits.1) (based r at (starts_low r js at fits.0), All-append HasWord (code_subscripts st js) _ (subscripts (room g n r) js at fits.0) (small Store 0 0 refl (omega arith), tt))
    expression (invocation f p es) fits =
        let few-of = arguments-few f fits.0.0 fits.0.1 in (
          small Mark 0 0 refl (omega arith),
          All-append HasWord (code_arguments st es) _ (arguments es fits.1)
              (small (LoadConstant (pos (get_or st f 0))) (get_or st f 0) 0 refl (omega (arith, near f)), (small (Call (pos (arity es))) (arity es) p refl (omega (arith, few-of, fits.0.2)), tt)),
        )
    expression (negation p e) fits = All-append HasWord (code_expression st e) _ (expression e fits) (small Negate 0 p refl (omega arith), tt)
    expression (inversion p e) fits = All-append HasWord (code_expression st e) _ (expression e fits) (small Not 0 p refl (omega arith), tt)
    expression (operation o p l r) fits = All-append HasWord (code_expression st l) _ (expression l fits.0) (All-append HasWord (code_expression st r) _ (expression r fits.1) (small (Operate o) 0 p refl (omega arith), tt))

    subscripts : (limit : ℕ) (js : Subscripts) (at : ℕ) → Inside rs g n limit js at → AllByRecursion HasWord (code_subscripts st js)
    subscripts limit whole_of at inside = tt
    subscripts limit (subscript p k each e js) at inside =
        All-append HasWord (code_expression st e) _ (expression e inside.0)
        (small (Check (pos k)) k p refl (omega (arith, inside.5)), (small (LoadConstant (pos each)) each 0 refl (omega (arith, inside.2)), (small (Operate Multiply) 0 0 refl (omega arith), (small (Operate Add) 0 0 refl (omega arith), subscripts limit js (at + 0 * each) (inside.3 0 inside.4).1))))

    arguments : (es : Arguments) → FitArgs rs g n es → AllByRecursion HasWord (code_arguments st es)
    arguments none fits = tt
    arguments (also e es) fits = All-append HasWord (code_expression st e) _ (expression e fits.0) (arguments es fits.1)

  -- up to an address that code may reach
  mutual
    statement : (s : Statement) (at : ℕ) → FitStatement rs g n s → at + length (code_statement st at s) ≤ 16384 → AllByRecursion HasWord (code_statement st at s)
    statement (perform e) at fits low = All-append HasWord (code_expression st e) _ (expression e fits) (small Pop 0 0 refl (omega arith), tt)
    statement (sequence ss) at fits low = statements ss at fits low
    statement (give e) at fits low = All-append HasWord (code_expression st e) _ (expression e fits) ((_, sym (encoded_is (LoadRelative (negsuc 2)) _ refl refl)), (small Store 0 0 refl (omega arith), (small Return 0 0 refl (omega arith), tt)))
    statement (when p e s) at fits low =
        let ce = code_expression st e in
        let body = code_statement st (at + length ce + 1) s in
        let past : ℕ = at + length ce + 1 + length body in
        let sizes : length (ce ++ (JumpZero (pos past), p) ∷ body) ≡ length ce + length body + 1 = simp length-append (omega arith) in
        All-append HasWord ce _ (expression e fits.0) (small (JumpZero (pos past)) past p refl (omega arith), statement s (at + length ce + 1) fits.1 (omega arith))
    statement (either p e s t) at fits low =
        let ce = code_expression st e in
        let body = code_statement st (at + length ce + 1) s in
        let past : ℕ = at + length ce + 1 + length body + 1 in
        let other = code_statement st past t in
        let sizes : length (ce ++ (((JumpZero (pos past), p) ∷ body) ++ (Jump (pos (past + length other)), 0) ∷ other)) ≡ length ce + length body + length other + 2 = simp length-append (omega arith) in
        All-append HasWord ce _ (expression e fits.0) (small (JumpZero (pos past)) past p refl (omega arith), All-append HasWord body _ (statement s (at + length ce + 1) fits.1 (omega arith)) (small (Jump (pos (past + length other))) (past + length other) 0 refl (omega arith), statement t past fits.2 (omega arith)))
    statement (repeat p e s) at fits low =
        let ce = code_expression st e in
        let body = code_statement st (at + length ce + 1) s in
        let past : ℕ = at + length ce + 1 + length body + 1 in
        let sizes : length (ce ++ (((JumpZero (pos past), p) ∷ body) ++ (Jump (pos at), p) ∷ [])) ≡ length ce + length body + 2 = simp length-append (omega arith) in
        All-append HasWord ce _ (expression e fits.0) (small (JumpZero (pos past)) past p refl (omega arith), All-append HasWord body _ (statement s (at + length ce + 1) fits.1 (omega arith)) (small (Jump (pos at)) at p refl (omega arith), tt))

    statements : (ss : Statements) (at : ℕ) → FitStatements rs g n ss → at + length (code_statements st at ss) ≤ 16384 → AllByRecursion HasWord (code_statements st at ss)
    statements finish at fits low = tt
    statements (first s ss) at fits low =
        let one = code_statement st at s in
        let rest = code_statements st (at + length one) ss in
        let sizes = length-append one rest in
        All-append HasWord one rest (statement s at fits.0 (omega arith)) (statements ss (at + length one) fits.1 (omega arith))

module _ (rs : List Routine) (g : ℕ) (st : List ℕ) (near : (f : ℕ) → get_or st f 0 ≤ largest) (arguments-few : (f : ℕ) (r : Routine) → slice_get rs f ≡ Some r → r.parameters ≤ 8) (g-few : g ≤ 512) where
  routines : (qs : List Routine) (at : ℕ) → FitRoutines rs g qs → AllByRecursion (λ r. need r ≤ 300) qs → AllByRecursion (λ r. r.parameters ≤ 8) qs → at + length (code_routines st at qs) ≤ 16384 → AllByRecursion HasWord (code_routines st at qs)
  routines [] at fits needs few low = tt
  routines (q ∷ qs) at fits needs few low =
      let sizes = length-append (code_routine st at q) (code_routines st (at + size q) qs) in
      let body = code_statements st (at + 2) q.body in
      let long = length-append body ((Return, 0) ∷ []) in
      let size_is = long_routine st at q in
      All-append HasWord (code_routine st at q) (code_routines st (at + size q) qs) (
        small (Enter (pos (need q))) (need q) 0 refl (omega (arith, needs.0)),
        (
          small (Allocate (pos q.locals)) q.locals 0 refl (omega (arith, needs.0)),
          All-append HasWord body ((Return, 0) ∷ []) (statements rs g (q.parameters + q.locals) (region q few.0 needs.0) st near arguments-few q.body (at + 2) fits.0 (omega arith)) (small Return 0 0 refl (omega arith), tt),
        ),
      )
      (routines qs (at + size q) fits.1 needs.1 few.1 (omega arith))
    where
      region : (q : Routine) → q.parameters ≤ 8 → need q ≤ 300 → (r : Region) → room g (q.parameters + q.locals) r ≤ 16384
      region q few-of needs-of on_sheet = omega arith
      region q few-of needs-of in_frame = omega arith

pub encodable : Encodable
encodable s p is limited compact = (
  small Halt 0 0 refl (omega arith),
  routines p.routines p.cells (starts p) (starts_small p compact.words) (all_nth _ p.routines (parameters_few s p limited is)) (omega (arith, cells_kept s p is, limited.cells)) p.routines 1 (fit s p limited is) compact.needs (parameters_few s p limited is) (omega (arith, compact.words)),
)
