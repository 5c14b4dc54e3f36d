-- The limits of a sheet's code. Assumes nothing.
use Rattle.std.specs.Prelude.{◌≤◌, length}
use Rattle.std.specs.List.{AllByRecursion}
use Rattle.language.specs.Resolved.{Program}
use Rattle.translation.specs.Translation.{need, code}

-- Every function needs at most 300 cells, and the code has at most 16,384 words.
pub record Compact (p : Program) : Type 0 where
  pub needs : AllByRecursion (λ r. need r ≤ 300) p.routines
  pub words : length (code p) ≤ 16384
