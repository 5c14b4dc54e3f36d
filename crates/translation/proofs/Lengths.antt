-- How many words code has, whatever its address. Assumes nothing.
use Rattle.std.proofs.Common.{◌≡◌, ℕ, ◌+◌, List, [], length, refl, arith}
use Rattle.std.proofs.lemmas.List.{length-append}
use Rattle.language.specs.Resolved.{Expression, constant, value, assignment, invocation, negation, inversion, operation, Subscripts, whole_of, subscript, Arguments, none, also, Statement, perform, sequence, give, when, either, repeat, Statements, finish, first}
use Rattle.translation.specs.Translation.{code_expression, code_subscripts, code_arguments, code_statement, code_statements}
use Rattle.translation.specs.Layout.{SameSize}

-- No address changes the length of code.
module _ (st st' : List ℕ) where
  mutual
    long_expression : (e : Expression) → length (code_expression st e) ≡ length (code_expression st' e)
    long_expression (constant n) = refl
    long_expression (value r at js) = let j = long_subscripts js in simp length-append (omega arith)
    long_expression (assignment r at js e) = let j = long_subscripts js in let i = long_expression e in simp length-append (omega arith)
    long_expression (invocation f p es) = let j = long_arguments es in simp length-append (omega arith)
    long_expression (negation p e) = let i = long_expression e in simp length-append (omega arith)
    long_expression (inversion p e) = let i = long_expression e in simp length-append (omega arith)
    long_expression (operation o p l r) = let i = long_expression l in let j = long_expression r in simp length-append (omega arith)

    long_subscripts : (js : Subscripts) → length (code_subscripts st js) ≡ length (code_subscripts st' js)
    long_subscripts whole_of = refl
    long_subscripts (subscript p n each e js) = let i = long_expression e in let j = long_subscripts js in simp length-append (omega arith)

    long_arguments : (es : Arguments) → length (code_arguments st es) ≡ length (code_arguments st' es)
    long_arguments none = refl
    long_arguments (also e es) = let i = long_expression e in let j = long_arguments es in simp length-append (omega arith)

  mutual
    long_statement : (s : Statement) (at at' : ℕ) → length (code_statement st at s) ≡ length (code_statement st' at' s)
    long_statement (perform e) at at' = let i = long_expression e in simp length-append (omega arith)
    long_statement (sequence ss) at at' = long_statements ss at at'
    long_statement (give e) at at' = let i = long_expression e in simp length-append (omega arith)
    long_statement (when p e s) at at' =
        let i = long_expression e in
        let j = long_statement s (at + length (code_expression st e) + 1) (at' + length (code_expression st' e) + 1) in
        simp length-append (omega arith)
    long_statement (either p e s t) at at' =
        let i = long_expression e in
        let a : ℕ = at + length (code_expression st e) + 1 in
        let a' : ℕ = at' + length (code_expression st' e) + 1 in
        let j = long_statement s a a' in
        let l = long_statement t (a + length (code_statement st a s) + 1) (a' + length (code_statement st' a' s) + 1) in
        simp length-append (omega arith)
    long_statement (repeat p e s) at at' =
        let i = long_expression e in
        let j = long_statement s (at + length (code_expression st e) + 1) (at' + length (code_expression st' e) + 1) in
        simp length-append (omega arith)

    long_statements : (ss : Statements) (at at' : ℕ) → length (code_statements st at ss) ≡ length (code_statements st' at' ss)
    long_statements finish at at' = refl
    long_statements (first s ss) at at' =
        let i = long_statement s at at' in
        let j = long_statements ss (at + length (code_statement st at s)) (at' + length (code_statement st' at' s)) in
        simp length-append (omega arith)

pub long_routine : SameSize
long_routine st at r = let i = long_statements st [] r.body (at + 2) (0 + 2) in simp length-append (omega arith)
