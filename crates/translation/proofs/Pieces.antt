-- Where the code of a function stands in that of its sheet. Assumes nothing.
use Rattle.std.proofs.Common.{◌≡◌, ℕ, zero, suc, ◌+◌, List, [], ◌∷◌, ◌++◌, length, get_or, Some, sym, ap, ◌∙◌, add-zero, arith}
use Rattle.std.specs.List.{slice_get}
use Rattle.std.proofs.lemmas.List.{length-append, append_assoc}
use Rattle.instructions.specs.declared.Instruction.TheVariants.{Halt}
use Rattle.language.specs.Resolved.{Routine}
use Rattle.translation.specs.Translation.{Line, code_routine, code_routines, size, starts_from, starts}
use Rattle.translation.specs.Layout.{InOnePiece}
use Rattle.translation.proofs.Lengths.{long_routine}

-- among functions of which the first stands at an address
record Piece (st : List ℕ) (at : ℕ) (rs : List Routine) (f : ℕ) (r : Routine) : Type 0 where
  before : List Line
  after : List Line
  all : code_routines st at rs ≡ before ++ (code_routine st (get_or (starts_from at rs) f 0) r ++ after)
  here : get_or (starts_from at rs) f 0 ≡ at + length before

piece : (st : List ℕ) (at : ℕ) (rs : List Routine) (f : ℕ) (r : Routine) → slice_get rs f ≡ Some r → Piece st at rs f r
piece st at [] f r is = absurd (let clash : ◌≡◌ {A = ℕ} 0 1 = cc in omega arith)
piece st at (q ∷ rs) zero r is = record {
  before = [];
  after = code_routines st (at + size q) rs;
  all = ap (λ r. code_routine st at r ++ code_routines st (at + size q) rs) (let same : q ≡ r = cc in same);
  here = sym (add-zero at);
}
piece st at (q ∷ rs) (suc f) r is = go (piece st (at + size q) rs f r is)
  where
    go : Piece st (at + size q) rs f r → Piece st at (q ∷ rs) (suc f) r
    go rest = record {
      before = code_routine st at q ++ rest.before;
      after = rest.after;
      all = ap (λ c. code_routine st at q ++ c) rest.all ∙ sym (append_assoc (code_routine st at q) rest.before _);
      here = rest.here ∙ omega (arith, long_routine st at q, length-append (code_routine st at q) rest.before);
    }

pub in_one_piece : InOnePiece
in_one_piece p f r is =
    let found = piece (starts p) 1 p.routines f r is in
    ((Halt, 0) ∷ found.before, found.after, ap (λ c. (Halt, 0) ∷ c) found.all, found.here ∙ omega arith)
