-- Worked examples of parsing: each line has what the definitions give, and what that should be. Assumes nothing.
use Rattle.std.specs.Prelude.{◌≡◌, ℕ, zero, suc, List, [], ◌∷◌, ◌++◌, map, replicate}
use Rattle.reckoning.specs.declared.Operator.TheVariants.{Add, Subtract, Multiply, Compare}
use Rattle.reckoning.specs.declared.Comparison.TheVariants.{Equal, Less}
use Rattle.language.specs.Tree.{minus, Expr, number, variable, call, unary, binary, assign, brackets, plain, index, no_args, argument, Stmt, expr, block, return, if_then, if_else, while, for, Stmts, end, then}
use Rattle.grammar.specs.Lexemes.{round, end_round, square, end_square, brace, end_brace, comma, semicolon, int_word, return_word, if_word, else_word, while_word, for_word, Lexeme, numeral, identifier, operator, equals, mark, Token}
use Rattle.grammar.specs.Limits.{Judgement, right, wrong, judgement}

-- Here the place of a token is its number in the list.
abbrev numbered : ℕ → List Lexeme → List Token
numbered n [] = []
numbered n (l ∷ ls) = (l, n) ∷ numbered (suc n) ls

abbrev judged : List Lexeme → Judgement
judged ls = judgement (numbered 0 ls)

abbrev name : ℕ → Lexeme
name b = identifier (b ∷ [])

abbrev value : ℕ → ℕ → Expr
value p b = variable p (b ∷ []) plain

-- int f(){ .. }: what stands in the braces begins at 5
abbrev within : List Lexeme → List Lexeme
within ls = mark int_word ∷ name 102 ∷ mark round ∷ mark end_round ∷ mark brace ∷ (ls ++ (mark end_brace ∷ []))

abbrev function : Stmts → Judgement
function ss = right (record { variables = []; functions = record { place = 1; name = 102 ∷ []; parameters = []; locals = []; body = ss } ∷ [] })

abbrev one : Stmt → Judgement
one s = function (then s end)

-- int f(int n){return n+1;}
abbrev successor : List Lexeme
successor = mark int_word ∷ name 102 ∷ mark round ∷ mark int_word ∷ name 110 ∷ mark end_round ∷ mark brace ∷ mark return_word ∷ name 110 ∷ operator Add ∷ numeral 1 ∷ mark semicolon ∷ mark end_brace ∷ []

abbrev successor_tree : Judgement
successor_tree = right (record { variables = []; functions = record { place = 1; name = 102 ∷ []; parameters = record { place = 4; name = 110 ∷ []; sizes = [] } ∷ []; locals = []; body = then (return (binary Add 9 (value 8 110) (number 1))) end } ∷ [] })

-- int a[3]; int b; int f(int x, int y){int c[2];}
abbrev declarations : List Lexeme
declarations = mark int_word ∷ name 97 ∷ mark square ∷ numeral 3 ∷ mark end_square ∷ mark semicolon ∷ mark int_word ∷ name 98 ∷ mark semicolon ∷ mark int_word ∷ name 102 ∷ mark round ∷ mark int_word ∷ name 120 ∷ mark comma ∷ mark int_word ∷ name 121 ∷ mark end_round ∷ mark brace ∷ mark int_word ∷ name 99 ∷ mark square ∷ numeral 2 ∷ mark end_square ∷ mark semicolon ∷ mark end_brace ∷ []

abbrev declarations_tree : Judgement
declarations_tree = right (record { variables = record { place = 1; name = 97 ∷ []; sizes = 3 ∷ [] } ∷ record { place = 7; name = 98 ∷ []; sizes = [] } ∷ []; functions = record { place = 10; name = 102 ∷ []; parameters = record { place = 13; name = 120 ∷ []; sizes = [] } ∷ record { place = 16; name = 121 ∷ []; sizes = [] } ∷ []; locals = record { place = 20; name = 99 ∷ []; sizes = 2 ∷ [] } ∷ []; body = end } ∷ [] })

-- if(a)if(b)c;else d;
abbrev dangling : List Lexeme
dangling = mark if_word ∷ mark round ∷ name 97 ∷ mark end_round ∷ mark if_word ∷ mark round ∷ name 98 ∷ mark end_round ∷ name 99 ∷ mark semicolon ∷ mark else_word ∷ name 100 ∷ mark semicolon ∷ []

-- a=b=c;
abbrev chain : List Lexeme
chain = name 97 ∷ equals ∷ name 98 ∷ equals ∷ name 99 ∷ mark semicolon ∷ []

-- -a*b+c<d==e;
abbrev levels : List Lexeme
levels = operator Subtract ∷ name 97 ∷ operator Multiply ∷ name 98 ∷ operator Add ∷ name 99 ∷ operator (Compare Less) ∷ name 100 ∷ operator (Compare Equal) ∷ name 101 ∷ mark semicolon ∷ []

-- a-b-c;
abbrev grouped : List Lexeme
grouped = name 97 ∷ operator Subtract ∷ name 98 ∷ operator Subtract ∷ name 99 ∷ mark semicolon ∷ []

-- g(a,b[1],h());
abbrev calls : List Lexeme
calls = name 103 ∷ mark round ∷ name 97 ∷ mark comma ∷ name 98 ∷ mark square ∷ numeral 1 ∷ mark end_square ∷ mark comma ∷ name 104 ∷ mark round ∷ mark end_round ∷ mark end_round ∷ mark semicolon ∷ []

-- for(a;b;c){while(1)return 2;}
abbrev loops : List Lexeme
loops = mark for_word ∷ mark round ∷ name 97 ∷ mark semicolon ∷ name 98 ∷ mark semicolon ∷ name 99 ∷ mark end_round ∷ mark brace ∷ mark while_word ∷ mark round ∷ numeral 1 ∷ mark end_round ∷ mark return_word ∷ numeral 2 ∷ mark semicolon ∷ mark end_brace ∷ []

-- n times "(", 0, n times ")", ";"
abbrev nested : ℕ → List Lexeme
nested n = replicate n (mark round) ++ (numeral 0 ∷ replicate n (mark end_round)) ++ (mark semicolon ∷ [])

-- n times "{", 0; , n times "}"
abbrev blocks : ℕ → List Lexeme
blocks n = replicate n (mark brace) ++ (numeral 0 ∷ mark semicolon ∷ replicate n (mark end_brace))

abbrev bracketed : ℕ → Expr
bracketed zero = number 0
bracketed (suc n) = brackets (bracketed n)

abbrev enclosed : ℕ → Stmt
enclosed zero = expr (number 0)
enclosed (suc n) = block (then (enclosed n) end)

abbrev pub examples : List (Judgement × Judgement)
examples =
    (judged [], right (record { variables = []; functions = [] }))
    ∷ (judged successor, successor_tree)
    ∷ (judged declarations, declarations_tree)
    ∷ (judged (within dangling), one (if_then 5 (value 7 97) (if_else 9 (value 11 98) (expr (value 13 99)) (expr (value 16 100)))))
    ∷ (judged (within chain), one (expr (assign 6 (value 5 97) (assign 8 (value 7 98) (value 9 99)))))
    ∷ (judged (within levels), one (expr (binary (Compare Equal) 13 (binary (Compare Less) 11 (binary Add 9 (binary Multiply 7 (unary minus 5 (value 6 97)) (value 8 98)) (value 10 99)) (value 12 100)) (value 14 101))))
    ∷ (judged (within grouped), one (expr (binary Subtract 8 (binary Subtract 6 (value 5 97) (value 7 98)) (value 9 99))))
    ∷ (judged (within calls), one (expr (call 5 (103 ∷ []) 6 (argument (value 7 97) (argument (variable 9 (98 ∷ []) (index 10 (number 1) plain)) (argument (call 14 (104 ∷ []) 15 no_args) no_args))))))
    ∷ (judged (within loops), one (for 5 (value 7 97) (value 9 98) (value 11 99) (block (then (while 14 (number 1) (return (number 2))) end))))
    -- 1=2; is a sheet here
    ∷ (judged (within (numeral 1 ∷ equals ∷ numeral 2 ∷ mark semicolon ∷ [])), one (expr (assign 6 (number 1) (number 2))))
    -- a=; and a b; and a[1][2]; and 1(2); and else; and ;
    ∷ (judged (within (name 97 ∷ equals ∷ mark semicolon ∷ [])), wrong 6 7)
    ∷ (judged (within (name 97 ∷ name 98 ∷ mark semicolon ∷ [])), wrong 6 6)
    ∷ (judged (within (name 97 ∷ mark square ∷ numeral 1 ∷ mark end_square ∷ mark square ∷ [])), wrong 6 9)
    ∷ (judged (within (numeral 1 ∷ mark round ∷ [])), wrong 6 6)
    ∷ (judged (within (mark else_word ∷ [])), wrong 6 5)
    ∷ (judged (within (mark semicolon ∷ [])), wrong 6 5)
    -- int f(){} int a; is refused at its ";", and int f at the end
    ∷ (judged (within [] ++ (mark int_word ∷ name 97 ∷ mark semicolon ∷ [])), wrong 6 8)
    ∷ (judged (mark int_word ∷ name 102 ∷ []), wrong 6 2)
    -- 8 and 9 brackets, 32 and 33 statements
    ∷ (judged (within (nested 8)), one (expr (bracketed 8)))
    ∷ (judged (within (nested 9)), wrong 7 13)
    ∷ (judged (within (blocks 31)), one (enclosed 31))
    ∷ (judged (within (blocks 32)), wrong 7 37)
    -- a token that no sheet can go on with is refused 6 also where it would be too deep
    ∷ (judged (within (replicate 8 (mark round) ++ (mark semicolon ∷ []))), wrong 6 13)
    ∷ (judged (within (replicate 32 (mark brace) ++ (mark else_word ∷ []))), wrong 6 37)
    ∷ []

-- each gives what it should
abbrev pub Agree : Type 0
Agree = map (λ e. e.0) examples ≡ map (λ e. e.1) examples
