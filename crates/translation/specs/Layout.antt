-- Where code lies. Assumes nothing.
use Rattle.std.specs.Prelude.{◌≡◌, ℕ, List, ◌++◌, length, Some, slice_index}
use Rattle.std.specs.List.{slice_get}
use Rattle.language.specs.Resolved.{Routine, Program}
use Rattle.translation.specs.Translation.{Line, code_routine, code, size, starts}

-- No address changes how many words a function's code has.
abbrev pub SameSize : Type 0
SameSize = (starts : List ℕ) (at : ℕ) (r : Routine) → length (code_routine starts at r) ≡ size r

-- The code of each function stands in one piece, at its start.
abbrev pub InOnePiece : Type 0
InOnePiece = (p : Program) (f : ℕ) (r : Routine) → slice_get p.routines f ≡ Some r
    → (before : List Line) × (after : List Line) × (code p ≡ before ++ (code_routine (starts p) (slice_index (starts p) f) r ++ after)) × (slice_index (starts p) f ≡ length before)
