-- What is proved of the questions. Assumes nothing.
use Rattle.std.specs.Prelude.{◌≡◌, ℕ, ◌+◌, ◌<◌, ◌≤◌, ◌≢◌, ◌⊎◌, ◌↔◌, List, [], ◌∷◌, length, Some}
use Rattle.std.specs.List.{slice_get, AllByRecursion}
use Rattle.reckoning.specs.Meaning.{largest}
use Rattle.language.specs.Tree.{Name, Expr, number, variable, call, unary, binary, assign, brackets, Indices, Args, Variable, Function, Sheet}
use Rattle.language.specs.Resolved.{Routine, Program}
use Rattle.language.specs.Scope.{cells_of, Slot, variable_at, function_at, own, looked_up, count, resolved}
use Rattle.language.specs.Scoping.{offset_of}
use Rattle.language.specs.Limits.{Plain, Limited}
use Rattle.translation.specs.Limits.{Compact}
use Rattle.translation.specs.Translation.{code, need}
use Rattle.names.specs.Questions.{Fault, parts_statements, Declaration, on_the_sheet, in_function, depth, name_faults, code_faults, Layer, names, codes, accepted, refused, asked}

abbrev pub Among : {X : Type 0} → X → List X → Type 0
Among x [] = ⊥
Among x (y ∷ ys) = (x ≡ y) ⊎ Among x ys

-- an expression of a function of the sheet
abbrev pub Stands : Sheet → Function → Expr → Type 0
Stands s f e = Among f s.functions × Among e (parts_statements f.body)

-- What a reader of texts sees to: each number has a cell, and no parameter is an array.
abbrev pub Small : Expr → Type 0
Small (number n) = n ≤ largest
Small (variable p x is) = Unit {0}
Small (call p x q es) = Unit {0}
Small (unary g p e) = Unit {0}
Small (binary o p l r) = Unit {0}
Small (assign p l r) = Unit {0}
Small (brackets e) = Unit {0}

abbrev pub SmallNumbers : Sheet → Type 0
SmallNumbers s = AllByRecursion (λ f. AllByRecursion Small (parts_statements f.body)) s.functions

abbrev pub PlainParameters : Sheet → Type 0
PlainParameters s = AllByRecursion (λ f. Plain f.parameters) s.functions

pub record Readable (s : Sheet) : Type 0 where
  pub numbers : SmallNumbers s
  pub parameters : PlainParameters s

-- Two declarations of one name are one.
abbrev pub Once : List Declaration → Type 0
Once ds = (i j : ℕ) (d e : Declaration) → slice_get ds i ≡ Some d → slice_get ds j ≡ Some e → d.1 ≡ e.1 → i ≡ j

pub record DeclaredOnce (s : Sheet) : Type 0 where
  pub sheet : Once (on_the_sheet s)
  pub functions : AllByRecursion (λ f. Once (in_function f)) s.functions

-- A sheet that may be translated: names resolve, limits are kept, and every name is declared once.
pub record Sound (s : Sheet) (p : Program) : Type 0 where
  pub resolves : resolved s ≡ Some p
  pub limited : Limited s
  pub once : DeclaredOnce s

-- Names have no fault exactly when the sheet is such.
abbrev pub Exact : Type 0
Exact = (s : Sheet) → Readable s → (name_faults s ≡ []) ↔ ((p : Program) × Sound s p)

-- 8: some "=" there has a left side that is no variable.
abbrev pub Eight : Type 0
Eight = (s : Sheet) (p : ℕ) → Among (p, 8) (name_faults s) ↔ ((f : Function) × (l : Expr) × (r : Expr) × Stands s f (assign p l r) × ((q : ℕ) (x : Name) (is : Indices) → l ≢ variable q x is))

-- A declaration there has the name of one before it.
abbrev pub Second : List Declaration → ℕ → Type 0
Second ds p = (i : ℕ) × (j : ℕ) × (d : Declaration) × (e : Declaration) × (i < j) × (slice_get ds i ≡ Some d) × (slice_get ds j ≡ Some e) × (d.1 ≡ e.1) × (e.0 ≡ p)

-- 9: on the sheet or in a function.
abbrev pub Nine : Type 0
Nine = (s : Sheet) (p : ℕ) → Among (p, 9) (name_faults s) ↔ (Second (on_the_sheet s) p ⊎ ((f : Function) × Among f s.functions × Second (in_function f) p))

-- 10: a name there stands for no variable with as many sizes as there are indices behind it, or, before "(", for no function.
abbrev pub Ten : Type 0
Ten = (s : Sheet) (p : ℕ) → Among (p, 10) (name_faults s) ↔ ((f : Function) × (x : Name) × (((is : Indices) × Stands s f (variable p x is) × ((v : Slot) → looked_up s (own f) x ≡ Some (variable_at v) → depth is ≢ length v.sizes)) ⊎ ((q : ℕ) × (es : Args) × Stands s f (call p x q es) × ((i k : ℕ) → looked_up s (own f) x ≢ Some (function_at i k)))))

-- 11: a function called there has another number of parameters.
abbrev pub Eleven : Type 0
Eleven = (s : Sheet) (q : ℕ) → Among (q, 11) (name_faults s) ↔ ((f : Function) × (p : ℕ) × (x : Name) × (es : Args) × (i : ℕ) × (k : ℕ) × Stands s f (call p x q es) × (looked_up s (own f) x ≡ Some (function_at i k)) × (count es ≢ k))

-- A variable there whose cells pass a limit that those before it keep, or of which a size is 0.
abbrev pub Passes : ℕ → List Variable → ℕ → Type 0
Passes limit vs p = (i : ℕ) × (v : Variable) × (slice_get vs i ≡ Some v) × (v.place ≡ p) × (offset_of vs i ≤ limit) × (limit < offset_of vs i + cells_of v.sizes)

abbrev pub Empty : List Variable → ℕ → Type 0
Empty vs p = (v : Variable) × Among v vs × (v.place ≡ p) × Among 0 v.sizes

-- 12: the 65th function, or a variable of the sheet, or the ninth parameter or a variable of a function.
abbrev pub Twelve : Type 0
Twelve = (s : Sheet) (p : ℕ) → Among (p, 12) (name_faults s) ↔ (
    (((f : Function) × (slice_get s.functions 64 ≡ Some f) × (f.place ≡ p)) ⊎ (Passes 512 s.variables p ⊎ Empty s.variables p))
    ⊎ ((f : Function) × Among f s.functions × (((v : Variable) × (slice_get f.parameters 8 ≡ Some v) × (v.place ≡ p)) ⊎ (Passes 128 f.locals p ⊎ Empty f.locals p))))

-- 13: a function there needs more than 300 cells.
abbrev pub Thirteen : Type 0
Thirteen = (s : Sheet) (n : ℕ) (q : Program) (p : ℕ) → Among (p, 13) (code_faults s n q) ↔ ((i : ℕ) × (f : Function) × (r : Routine) × (slice_get s.functions i ≡ Some f) × (slice_get q.routines i ≡ Some r) × (f.place ≡ p) × (300 < need r))

-- 14: the code has more than 16,384 words, at the end of the text.
abbrev pub Fourteen : Type 0
Fourteen = (s : Sheet) (n : ℕ) (q : Program) (p : ℕ) → Among (p, 14) (code_faults s n q) ↔ ((p ≡ n) × (16384 < length (code q)))

-- There are no other numbers.
abbrev pub NoOthers : Type 0
NoOthers = ((s : Sheet) (p k : ℕ) → Among (p, k) (name_faults s) → (8 ≤ k) × (k ≤ 12)) × ((s : Sheet) (n : ℕ) (q : Program) (p k : ℕ) → Among (p, k) (code_faults s n q) → (13 ≤ k) × (k ≤ 14))

-- What is accepted is a sheet that may be translated, with compact code, and the other way round.
abbrev pub Accepts : Type 0
Accepts = (s : Sheet) (n : ℕ) (p : Program) → Readable s → (asked s n ≡ accepted p) ↔ (Sound s p × Compact p)

-- a fault of which none is earlier, nor at the same place with a lower number
abbrev pub NoLater : Fault → Fault → Type 0
NoLater f g = (f.0 < g.0) ⊎ ((f.0 ≡ g.0) × (f.1 ≤ g.1))

pub record Least (fs : List Fault) (f : Fault) : Type 0 where
  pub among : Among f fs
  pub first : (g : Fault) → Among g fs → NoLater f g

-- what refuses: the least fault of names, or of code where names have none
abbrev pub RefusesBy : Sheet → ℕ → Layer → Fault → Type 0
RefusesBy s n names f = Least (name_faults s) f
RefusesBy s n codes f = (p : Program) × Sound s p × Least (code_faults s n p) f

abbrev pub Refuses : Type 0
Refuses = (s : Sheet) (n k place : ℕ) (l : Layer) → Readable s → (asked s n ≡ refused k l place) ↔ RefusesBy s n l (place, k)

-- A readable sheet has a verdict.
abbrev pub Decides : Type 0
Decides = (s : Sheet) (n : ℕ) → Readable s → ((p : Program) × (asked s n ≡ accepted p)) ⊎ ((k : ℕ) × (l : Layer) × (place : ℕ) × (asked s n ≡ refused k l place))

pub record QuestionLaws : Type 0 where
  pub exact : Exact
  pub eight : Eight
  pub nine : Nine
  pub ten : Ten
  pub eleven : Eleven
  pub twelve : Twelve
  pub thirteen : Thirteen
  pub fourteen : Fourteen
  pub no_others : NoOthers
  pub accepts : Accepts
  pub refuses : Refuses
  pub decides : Decides
