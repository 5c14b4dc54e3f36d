-- What scope means, in the words of a sheet's reader: which declaration a name stands for, and which cell an element is. Assumes nothing.
use Rattle.std.specs.Prelude.{◌≡◌, ℕ, ◌+◌, ◌*◌, ◌<◌, ◌≤◌, true, ◌≢◌, ◌⊎◌, ◌↔◌, List, [], ◌∷◌, length, take, Some, None, Option}
use Rattle.std.specs.List.{slice_get}
use Rattle.language.specs.Tree.{Name, Expr, variable, call, assign, Indices, Args, Variable, Function, Sheet}
use Rattle.language.specs.Resolved.{Region, on_sheet, in_frame, Expression, value, assignment, invocation, Subscripts, whole_of, subscript, Arguments, arity}
use Rattle.language.specs.Scope.{same, cells_of, total, Slot, variable_at, function_at, looked_up, count, expression}

module _ {X : Type 0} (name : X → Name) (ds : List X) (x : Name) where
  -- The i-th declaration, d, has the name, and none before it has.
  pub record First (i : ℕ) (d : X) : Type 0 where
    pub there : slice_get ds i ≡ Some d
    pub named : name d ≡ x
    pub before : (j : ℕ) (e : X) → j < i → slice_get ds j ≡ Some e → name e ≢ x

  abbrev pub Declared : Type 0
  Declared = (i : ℕ) × (d : X) × First i d

  abbrev pub Absent : Type 0
  Absent = (j : ℕ) (e : X) → slice_get ds j ≡ Some e → name e ≢ x

abbrev pub variable_name : Variable → Name
variable_name v = v.name

abbrev pub function_name : Function → Name
function_name f = f.name

-- The offset of the i-th variable: the cells of those before it.
abbrev pub offset_of : List Variable → ℕ → ℕ
offset_of vs i = total (take i vs)

abbrev pub slot_in : Region → List Variable → ℕ → Variable → Slot
slot_in r vs i v = record { region = r; offset = offset_of vs i; sizes = v.sizes }

-- an index below each size
abbrev pub Below : List ℕ → List ℕ → Type 0
Below [] [] = Unit {0}
Below [] (n ∷ ns) = ⊥
Below (i ∷ is) [] = ⊥
Below (i ∷ is) (n ∷ ns) = (i < n) × Below is ns

-- The offset of the element with such indices, from that of its array: each index passes over as many elements as it says.
abbrev pub reached : ℕ → List ℕ → List ℕ → ℕ
reached at [] is = at
reached at (n ∷ ns) [] = at
reached at (n ∷ ns) (i ∷ is) = reached (at + i * cells_of ns) ns is

-- Subscripts that go by such sizes: an index for each, which passes over that many cells for each element.
abbrev pub Goes : Subscripts → List ℕ → Type 0
Goes whole_of [] = Unit {0}
Goes whole_of (n ∷ ns) = ⊥
Goes (subscript p k each e js) [] = ⊥
Goes (subscript p k each e js) (n ∷ ns) = (k ≡ n) × (each ≡ cells_of ns) × Goes js ns

module _ (s : Sheet) (vs : List Variable) (x : Name) where
  -- The variable that a name stands for, at its offset in its region, with an index for each of its sizes.
  pub record Element (r : Region) (at : ℕ) (js : Subscripts) : Type 0 where
    pub sizes : List ℕ
    pub known : looked_up s vs x ≡ Some (variable_at (record { region = r; offset = at; sizes = sizes }))
    pub goes : Goes js sizes

  -- What reads such an element,
  abbrev pub Reads : Expression → Type 0
  Reads e = (r : Region) × (at : ℕ) × (js : Subscripts) × (e ≡ value r at js) × Element r at js

  -- what assigns to it the value of the right side,
  abbrev pub Assigns : Option Expression → Expression → Type 0
  Assigns right e = (r : Region) × (at : ℕ) × (js : Subscripts) × (b : Expression) × (e ≡ assignment r at js b) × Element r at js × (right ≡ Some b)

  -- and what calls, from the place q, the function that a name stands for, with as many arguments as it has parameters.
  abbrev pub Calls : ℕ → ℕ → Expression → Type 0
  Calls q n e = (f : ℕ) × (xs : Arguments) × (e ≡ invocation f q xs) × (looked_up s vs x ≡ Some (function_at f n)) × (arity xs ≡ n)

pub record Scoping : Type 0 where
  -- Two names are the same exactly when their bytes are.
  pub names : (x y : Name) → (same x y ≡ true) ↔ (x ≡ y)
  -- A name that one of a function's variables has stands for the first of them that has it, whatever the sheet declares.
  pub local : (s : Sheet) (vs : List Variable) (x : Name) (j : ℕ) (w : Variable) → slice_get vs j ≡ Some w → w.name ≡ x → (i : ℕ) × (v : Variable) × First variable_name vs x i v × (looked_up s vs x ≡ Some (variable_at (slot_in in_frame vs i v)))
  -- Another name stands for the sheet's first variable that has it,
  pub global : (s : Sheet) (vs : List Variable) (x : Name) (i : ℕ) (v : Variable) → Absent variable_name vs x → First variable_name s.variables x i v → looked_up s vs x ≡ Some (variable_at (slot_in on_sheet s.variables i v))
  -- else for the sheet's first function that has it,
  pub function : (s : Sheet) (vs : List Variable) (x : Name) (i : ℕ) (f : Function) → Absent variable_name vs x → Absent variable_name s.variables x → First function_name s.functions x i f → looked_up s vs x ≡ Some (function_at i (length f.parameters))
  -- else for nothing.
  pub nothing : (s : Sheet) (vs : List Variable) (x : Name) → Absent variable_name vs x → Absent variable_name s.variables x → Absent function_name s.functions x → looked_up s vs x ≡ None
  -- Of any name there is a first declaration, or none.
  pub variables : (vs : List Variable) (x : Name) → Declared variable_name vs x ⊎ Absent variable_name vs x
  pub functions : (fs : List Function) (x : Name) → Declared function_name fs x ⊎ Absent function_name fs x
  -- A name that resolves resolves to what it stands for, whether it is read, assigned to or called.
  pub read : (s : Sheet) (vs : List Variable) (p : ℕ) (x : Name) (is : Indices) (e : Expression) → expression s vs (variable p x is) ≡ Some e → Reads s vs x e
  pub assigned : (s : Sheet) (vs : List Variable) (p q : ℕ) (x : Name) (is : Indices) (r : Expr) (e : Expression) → expression s vs (assign p (variable q x is) r) ≡ Some e → Assigns s vs x (expression s vs r) e
  pub called : (s : Sheet) (vs : List Variable) (p : ℕ) (x : Name) (q : ℕ) (es : Args) (e : Expression) → expression s vs (call p x q es) ≡ Some e → Calls s vs x q (count es) e
  -- A variable ends before the next begins, and inside its region.
  pub apart : (vs : List Variable) (i j : ℕ) (v : Variable) → i < j → slice_get vs i ≡ Some v → offset_of vs i + cells_of v.sizes ≤ offset_of vs j
  pub within : (vs : List Variable) (i : ℕ) (v : Variable) → slice_get vs i ≡ Some v → offset_of vs i + cells_of v.sizes ≤ total vs
  -- An element lies in its own array,
  pub inside : (at : ℕ) (ns is : List ℕ) → Below is ns → (at ≤ reached at ns is) × (reached at ns is < at + cells_of ns)
  -- and no other element lies where it does,
  pub alone : (at : ℕ) (ns is js : List ℕ) → Below is ns → Below js ns → reached at ns is ≡ reached at ns js → is ≡ js
  -- so that a cell is one element of one variable.
  pub one : (vs : List Variable) (i j : ℕ) (v w : Variable) (is js : List ℕ) → slice_get vs i ≡ Some v → slice_get vs j ≡ Some w → Below is v.sizes → Below js w.sizes → reached (offset_of vs i) v.sizes is ≡ reached (offset_of vs j) w.sizes js → (i ≡ j) × (is ≡ js)
