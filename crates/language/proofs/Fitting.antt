-- Trees that keep inside: every constant has a cell, every element lies in its region, and every call has its function. Assumes nothing.
use Rattle.std.proofs.Common.{◌≡◌, ℕ, ◌+◌, ◌*◌, ◌<◌, ◌≤◌, List, [], ◌∷◌, Some}
use Rattle.std.specs.List.{slice_get}
use Rattle.reckoning.specs.Meaning.{largest}
use Rattle.language.specs.Resolved.{Region, on_sheet, in_frame, Expression, constant, value, assignment, invocation, negation, inversion, operation, Subscripts, whole_of, subscript, Arguments, none, also, arity, Statement, perform, sequence, give, when, either, repeat, Statements, finish, first, Routine}

-- a function with so many parameters
abbrev pub Callable : List Routine → ℕ → ℕ → Type 0
Callable rs f n = (r : Routine) × (slice_get rs f ≡ Some r) × (r.parameters ≡ n)

-- The cells of a region: g on the sheet, n in the frame.
abbrev pub room : ℕ → ℕ → Region → ℕ
room g n on_sheet = g
room g n in_frame = n

module _ (rs : List Routine) (g n : ℕ) where
  abbrev mutual
    pub Fits : Expression → Type 0
    Fits (constant k) = k ≤ largest
    Fits (value r at js) = Inside (room g n r) js at
    Fits (assignment r at js e) = Inside (room g n r) js at × Fits e
    Fits (invocation f p es) = Callable rs f (arity es) × FitArgs es
    Fits (negation p e) = Fits e
    Fits (inversion p e) = Fits e
    Fits (operation o p l r) = Fits l × Fits r

    -- from an offset, every element that the subscripts lead to
    pub Inside : ℕ → Subscripts → ℕ → Type 0
    Inside limit whole_of at = at < limit
    Inside limit (subscript p k each e js) at = Fits e × (at < limit) × (each ≤ largest) × ((i : ℕ) → i < k → (at + i * each < limit) × Inside limit js (at + i * each)) × (0 < k) × (k ≤ largest)

    pub FitArgs : Arguments → Type 0
    FitArgs none = Unit {0}
    FitArgs (also e es) = Fits e × FitArgs es

  abbrev mutual
    pub FitStatement : Statement → Type 0
    FitStatement (perform e) = Fits e
    FitStatement (sequence ss) = FitStatements ss
    FitStatement (give e) = Fits e
    FitStatement (when p e s) = Fits e × FitStatement s
    FitStatement (either p e s t) = Fits e × FitStatement s × FitStatement t
    FitStatement (repeat p e s) = Fits e × FitStatement s

    pub FitStatements : Statements → Type 0
    FitStatements finish = Unit {0}
    FitStatements (first s ss) = FitStatement s × FitStatements ss

  pub starts_inside : (limit : ℕ) (js : Subscripts) (at : ℕ) → Inside limit js at → at < limit
  starts_inside limit whole_of at h = h
  starts_inside limit (subscript p k each e js) at h = h.1

-- every function of a program
abbrev pub FitRoutines : List Routine → ℕ → List Routine → Type 0
FitRoutines rs g [] = Unit {0}
FitRoutines rs g (r ∷ more) = FitStatements rs g (r.parameters + r.locals) r.body × FitRoutines rs g more
