-- The limits of a sheet's depth. Assumes nothing.
use Rattle.std.specs.Prelude.{◌≡◌, ℕ, suc, pred, Bool, true, false, cond, ◌||◌, List, [], ◌∷◌, Some, None, Option, nat_lt}
use Rattle.language.specs.Tree.{Sheet}
use Rattle.grammar.specs.Lexemes.{Token}
use Rattle.grammar.specs.Parsing.{Stack, base, sign, left, target, bracket, element, called, Operand, need, have, Pending, body, in_block, in_then, in_else, in_while, in_for, Inside, statement, after, head, reading, State, sheet, declaring, parameters, another, parameter, parameter_end, signature, locals, local, inside, feed, Verdict, accepted, refused, ending, start}

-- the brackets of expressions that are open
abbrev pub opens : Stack → ℕ
opens base = 0
opens (sign s p k) = opens k
opens (left o p l k) = opens k
opens (target p l k) = opens k
opens (bracket k) = suc (opens k)
opens (element p x q k) = suc (opens k)
opens (called p x q ds k) = suc (opens k)

abbrev pub opens_in : Operand → ℕ
opens_in (need k) = opens k
opens_in (have e k) = opens k

-- How deep a statement is that goes there: one of the function's own is at depth 1.
abbrev pub depth : Pending → ℕ
depth (body ss) = 1
depth (in_block ss k) = suc (depth k)
depth (in_then p c k) = suc (depth k)
depth (in_else p c t k) = suc (depth k)
depth (in_while p c k) = suc (depth k)
depth (in_for p a b c k) = suc (depth k)

-- the statements that have begun, one inside another: of a statement that is wanted, those around it
abbrev pub begun : Inside → ℕ
begun (statement k) = pred (depth k)
begun (after s k) = depth k
begun (head h k) = depth k
begun (reading h k o) = depth k

abbrev pub opens_inside : Inside → ℕ
opens_inside (statement k) = 0
opens_inside (after s k) = 0
opens_inside (head h k) = 0
opens_inside (reading h k o) = opens_in o

-- more than 8 brackets are open, or more than 32 statements one inside another
abbrev pub deep : State → Bool
deep (sheet vs fs) = false
deep (declaring vs fs d) = false
deep (parameters h) = false
deep (another h ps) = false
deep (parameter h ps) = false
deep (parameter_end h ps) = false
deep (signature h ps) = false
deep (locals h ps ls) = false
deep (local h ps ls d) = false
deep (inside h ps ls i) = nat_lt 8 (opens_inside i) || nat_lt 32 (begun i)

-- Accepted, or refused with a number at a token, counted from 0.
pub data Judgement : Type 0 where
  right : Sheet → Judgement
  wrong : ℕ → ℕ → Judgement

abbrev pub postponed : Judgement → Judgement
postponed (right s) = right s
postponed (wrong n i) = wrong n (suc i)

abbrev pub finally : Verdict → Judgement
finally (accepted s) = right s
finally (refused i) = wrong 6 i

-- A token that is refused 6 is not asked for its depth.
abbrev pub if_shallow : Option State → (State → Judgement) → Judgement
if_shallow None f = wrong 6 0
if_shallow (Some s) f = cond (deep s) (wrong 7 0) (postponed (f s))

abbrev pub judge : State → List Token → Judgement
judge s [] = finally (ending s)
judge s (t ∷ ts) = if_shallow (feed s t) (λ u. judge u ts)

-- the verdict of the grammar and its limits on a list of tokens
abbrev pub judgement : List Token → Judgement
judgement ts = judge start ts

abbrev pub if_any : Option State → (State → Option State) → Option State
if_any None f = None
if_any (Some s) f = f s

-- the state behind tokens that are all taken
abbrev pub reached : State → List Token → Option State
reached s [] = Some s
reached s (t ∷ ts) = if_any (feed s t) (λ u. reached u ts)

-- all these tokens are taken, and behind the last the sheet is too deep
abbrev pub DeepFrom : State → List Token → Type 0
DeepFrom s ts = (r : State) × (reached s ts ≡ Some r) × (deep r ≡ true)

abbrev pub Deep : List Token → Type 0
Deep ts = DeepFrom start ts
