-- The limits of a sheet's declarations. Assumes nothing.
use Rattle.std.specs.Prelude.{◌≡◌, ℕ, ◌≤◌, List, [], length}
use Rattle.std.specs.List.{AllByRecursion}
use Rattle.language.specs.Tree.{Variable, Function, Sheet}
use Rattle.language.specs.Scope.{total}

-- every size is at least 1
abbrev pub Sized : List ℕ → Type 0
Sized ns = AllByRecursion (λ n. 1 ≤ n) ns

-- no array of 0 cells
abbrev pub Positive : List Variable → Type 0
Positive vs = AllByRecursion (λ v. Sized v.sizes) vs

-- no array at all
abbrev pub Plain : List Variable → Type 0
Plain vs = AllByRecursion (λ v. v.sizes ≡ []) vs

-- at most 8 parameters, none of them an array, and at most 128 cells of local variables
pub record Within (f : Function) : Type 0 where
  pub plain : Plain f.parameters
  pub parameters : length f.parameters ≤ 8
  pub positive : Positive f.locals
  pub locals : total f.locals ≤ 128

-- at most 512 cells of the sheet's variables and 64 functions
pub record Limited (s : Sheet) : Type 0 where
  pub positive : Positive s.variables
  pub cells : total s.variables ≤ 512
  pub few : length s.functions ≤ 64
  pub functions : AllByRecursion Within s.functions
