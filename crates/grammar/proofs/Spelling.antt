-- The words of a tree with the words behind them, which make most equations compute. Assumes nothing.
use Rattle.std.proofs.Common.{◌≡◌, ℕ, List, [], ◌∷◌, ◌++◌, None, sym, refl, ap, ◌∙◌, append_assoc, append-nil}
use Rattle.language.specs.Tree.{Expr, number, variable, call, unary, binary, assign, brackets, Indices, plain, index, Args, no_args, argument, Stmt, expr, block, return, if_then, if_else, while, for, Stmts, end, then, Variable, Function, Sheet}
use Rattle.grammar.specs.Lexemes.{round, end_round, square, end_square, brace, end_brace, comma, semicolon, int_word, return_word, if_word, else_word, while_word, for_word, numeral, identifier, operator, equals, mark}
use Rattle.grammar.specs.Words.{Word, free, placed, sign_lexeme, words, words_indices, words_args, words_more, words_statement, words_statements, words_sizes, words_variables, words_others, words_parameters, words_function, words_functions, words_sheet}
use Rattle.grammar.specs.Parsing.{onto}

abbrev mutual
  pub spell : Expr → List Word → List Word
  spell (number n) w = (numeral n, None) ∷ w
  spell (variable p x is) w = placed (identifier x) p ∷ spell_indices is w
  spell (call p x q es) w = placed (identifier x) p ∷ placed (mark round) q ∷ spell_args es (free end_round ∷ w)
  spell (unary s p e) w = placed (sign_lexeme s) p ∷ spell e w
  spell (binary o p l r) w = spell l (placed (operator o) p ∷ spell r w)
  spell (assign p l r) w = spell l (placed equals p ∷ spell r w)
  spell (brackets e) w = free round ∷ spell e (free end_round ∷ w)

  pub spell_indices : Indices → List Word → List Word
  spell_indices plain w = w
  spell_indices (index p e is) w = placed (mark square) p ∷ spell e (free end_square ∷ spell_indices is w)

  pub spell_args : Args → List Word → List Word
  spell_args no_args w = w
  spell_args (argument e es) w = spell e (spell_more es w)

  pub spell_more : Args → List Word → List Word
  spell_more no_args w = w
  spell_more (argument e es) w = free comma ∷ spell e (spell_more es w)

abbrev mutual
  pub spell_statement : Stmt → List Word → List Word
  spell_statement (expr e) w = spell e (free semicolon ∷ w)
  spell_statement (block ss) w = free brace ∷ spell_statements ss (free end_brace ∷ w)
  spell_statement (return e) w = free return_word ∷ spell e (free semicolon ∷ w)
  spell_statement (if_then p c s) w = placed (mark if_word) p ∷ free round ∷ spell c (free end_round ∷ spell_statement s w)
  spell_statement (if_else p c s t) w = placed (mark if_word) p ∷ free round ∷ spell c (free end_round ∷ spell_statement s (free else_word ∷ spell_statement t w))
  spell_statement (while p c s) w = placed (mark while_word) p ∷ free round ∷ spell c (free end_round ∷ spell_statement s w)
  spell_statement (for p a b c s) w = placed (mark for_word) p ∷ free round ∷ spell a (free semicolon ∷ spell b (free semicolon ∷ spell c (free end_round ∷ spell_statement s w)))

  pub spell_statements : Stmts → List Word → List Word
  spell_statements end w = w
  spell_statements (then s ss) w = spell_statement s (spell_statements ss w)

abbrev pub spell_sizes : List ℕ → List Word → List Word
spell_sizes [] w = w
spell_sizes (n ∷ ns) w = free square ∷ (numeral n, None) ∷ free end_square ∷ spell_sizes ns w

abbrev pub spell_typed : Variable → List Word → List Word
spell_typed v w = free int_word ∷ placed (identifier v.name) v.place ∷ spell_sizes v.sizes w

abbrev pub spell_variable : Variable → List Word → List Word
spell_variable v w = spell_typed v (free semicolon ∷ w)

-- in their order, and latest first
abbrev pub each : {X : Type 0} → (X → List Word → List Word) → List X → List Word → List Word
each f [] w = w
each f (x ∷ xs) w = f x (each f xs w)

abbrev pub before : {X : Type 0} → (X → List Word → List Word) → List X → List Word → List Word
before f [] w = w
before f (x ∷ xs) w = before f xs (f x w)

pub before_each : {X : Type 0} (f : X → List Word → List Word) (xs ys : List X) (w : List Word) → before f xs (each f ys w) ≡ each f (onto xs ys) w
before_each f [] ys w = refl
before_each f (x ∷ xs) ys w = before_each f xs (x ∷ ys) w

abbrev pub spell_others : List Variable → List Word → List Word
spell_others [] w = w
spell_others (v ∷ vs) w = free comma ∷ spell_typed v (spell_others vs w)

abbrev pub spell_parameters : List Variable → List Word → List Word
spell_parameters [] w = w
spell_parameters (v ∷ vs) w = spell_typed v (spell_others vs w)

abbrev pub spell_function : Function → List Word → List Word
spell_function f w = free int_word ∷ placed (identifier f.name) f.place ∷ free round ∷ spell_parameters f.parameters (free end_round ∷ free brace ∷ each spell_variable f.locals (spell_statements f.body (free end_brace ∷ w)))

abbrev pub spell_sheet : Sheet → List Word → List Word
spell_sheet s w = each spell_variable s.variables (each spell_function s.functions w)

mutual
  spell_is : (e : Expr) (w : List Word) → spell e w ≡ words e ++ w
  spell_is (number n) w = refl
  spell_is (variable p x is) w = ap (λ v. placed (identifier x) p ∷ v) (indices_are is w)
  spell_is (call p x q es) w = simp (args_are es, append_assoc)
  spell_is (unary s p e) w = ap (λ v. placed (sign_lexeme s) p ∷ v) (spell_is e w)
  spell_is (binary o p l r) w = simp (spell_is l, spell_is r, append_assoc)
  spell_is (assign p l r) w = simp (spell_is l, spell_is r, append_assoc)
  spell_is (brackets e) w = simp (spell_is e, append_assoc)

  indices_are : (is : Indices) (w : List Word) → spell_indices is w ≡ words_indices is ++ w
  indices_are plain w = refl
  indices_are (index p e is) w = simp (spell_is e, indices_are is, append_assoc)

  args_are : (es : Args) (w : List Word) → spell_args es w ≡ words_args es ++ w
  args_are no_args w = refl
  args_are (argument e es) w = simp (spell_is e, more_are es, append_assoc)

  more_are : (es : Args) (w : List Word) → spell_more es w ≡ words_more es ++ w
  more_are no_args w = refl
  more_are (argument e es) w = simp (spell_is e, more_are es, append_assoc)

mutual
  statement_is : (s : Stmt) (w : List Word) → spell_statement s w ≡ words_statement s ++ w
  statement_is (expr e) w = simp (spell_is, append_assoc)
  statement_is (block ss) w = simp (statements_are ss, append_assoc)
  statement_is (return e) w = simp (spell_is, append_assoc)
  statement_is (if_then p c s) w = simp (spell_is, statement_is s, append_assoc)
  statement_is (if_else p c s t) w = simp (spell_is, statement_is s, statement_is t, append_assoc)
  statement_is (while p c s) w = simp (spell_is, statement_is s, append_assoc)
  statement_is (for p a b c s) w = simp (spell_is, statement_is s, append_assoc)

  statements_are : (ss : Stmts) (w : List Word) → spell_statements ss w ≡ words_statements ss ++ w
  statements_are end w = refl
  statements_are (then s ss) w = simp (statement_is s, statements_are ss, append_assoc)

sizes_are : (ns : List ℕ) (w : List Word) → spell_sizes ns w ≡ words_sizes ns ++ w
sizes_are [] w = refl
sizes_are (n ∷ ns) w = simp (sizes_are ns)

variables_are : (vs : List Variable) (w : List Word) → each spell_variable vs w ≡ words_variables vs ++ w
variables_are [] w = refl
variables_are (v ∷ vs) w = simp (sizes_are, variables_are vs, append_assoc)

others_are : (vs : List Variable) (w : List Word) → spell_others vs w ≡ words_others vs ++ w
others_are [] w = refl
others_are (v ∷ vs) w = simp (sizes_are, others_are vs, append_assoc)

parameters_are : (vs : List Variable) (w : List Word) → spell_parameters vs w ≡ words_parameters vs ++ w
parameters_are [] w = refl
parameters_are (v ∷ vs) w = simp (sizes_are, others_are, append_assoc)

function_is : (f : Function) (w : List Word) → spell_function f w ≡ words_function f ++ w
function_is f w = simp (parameters_are, variables_are, statements_are, append_assoc)

functions_are : (fs : List Function) (w : List Word) → each spell_function fs w ≡ words_functions fs ++ w
functions_are [] w = refl
functions_are (f ∷ fs) w = function_is f (each spell_function fs w) ∙ ap (λ v. words_function f ++ v) (functions_are fs w) ∙ sym (append_assoc (words_function f) (words_functions fs) w)

pub sheet_is : (s : Sheet) → spell_sheet s [] ≡ words_sheet s
sheet_is s = variables_are s.variables (each spell_function s.functions []) ∙ ap (λ v. words_variables s.variables ++ v) (functions_are s.functions [] ∙ append-nil (words_functions s.functions))
