-- One record after another gives the records of a text's tokens. Assumes nothing.
use Rattle.std.proofs.Common.{◌≡◌, ℕ, suc, ◌+◌, ◌-◌, ◌<◌, List, [], ◌∷◌, ◌++◌, Some, None, Ok, Err, Option, Result, sym, refl, ap, ◌∙◌, append_assoc, append-nil, arith}
use Rattle.tokens.specs.declared.fault.Cause.TheVariants.{Count}
use Rattle.tokens.specs.declared.fault.Fault.{Fault}
use Rattle.tokens.specs.Answers.{Found}
use Rattle.tokens.specs.declared.stream.Tokens.{Tokens}
use Rattle.tokens.specs.Answers.{piece_of}
use Rattle.tokens.specs.Stream.{Gives}
use Rattle.tokens.specs.Tokens.{Piece, before}
use Rattle.tokens.proofs.Turns.{coming, came, coming_is}
use Rattle.sheet.specs.Nodes.{Node}
use Rattle.sheet.specs.Nodes.{record_of, filled}

-- records before those that come
abbrev pub ahead : List Node → Result (List Node) Fault → Result (List Node) Fault
ahead ns (Ok ms) = Ok (ns ++ ms)
ahead ns (Err e) = Err e

ahead_before : (ns : List Node) (x : Piece) (r : Result (List Piece) Fault) → ahead ns (filled (before x r)) ≡ ahead (ns ++ (record_of x ∷ [])) (filled r)
ahead_before ns x (Ok xs) = ap Ok (sym (append_assoc ns (record_of x ∷ []) _))
ahead_before ns x (Err e) = refl

-- The turns of a walk over a text's tokens, so many of which may come.
module _ (s t : Tokens) (r : Option (Result Found Fault)) (gives : Gives s r t) (limit count : ℕ) (ns : List Node) (goal : Result (List Node) Fault) (so_far : ahead ns (filled (coming s (limit - count))) ≡ goal) where
  turn : (q : Option (Result Found Fault)) → r ≡ q → ahead ns (filled (came q (coming t) (limit - count))) ≡ goal
  turn q e = ap (λ x. ahead ns (filled (came x (coming t) (limit - count)))) (sym e) ∙ ap (λ x. ahead ns (filled x)) (sym (coming_is s t r gives (limit - count))) ∙ so_far

  pub at_end : r ≡ None → Ok ns ≡ goal
  at_end e = ap Ok (sym (append-nil ns)) ∙ turn None e

  pub at_fault : (f : Fault) → r ≡ Some (Err f) → Err f ≡ goal
  at_fault f e = turn (Some (Err f)) e

  pub at_limit : (f : Found) → r ≡ Some (Ok f) → count ≡ limit → Err (record { cause = Count; place = f.place }) ≡ goal
  at_limit f e same =
      let none : limit - count ≡ 0 = omega arith in
      ap (λ l. ahead ns (filled (came (Some (Ok f)) (coming t) l))) (sym none) ∙ turn (Some (Ok f)) e

  pub at_token : (f : Found) (ms : List Node) → ms ≡ ns ++ (record_of (piece_of f) ∷ []) → r ≡ Some (Ok f) → count < limit → ahead ms (filled (coming t (limit - (count + 1)))) ≡ goal
  at_token f ms more e below =
      let some : suc (limit - (count + 1)) ≡ limit - count = omega arith in
      ap (λ l. ahead l (filled (coming t (limit - (count + 1))))) more
      ∙ sym (ahead_before ns (piece_of f) (coming t (limit - (count + 1))))
      ∙ ap (λ l. ahead ns (filled (came (Some (Ok f)) (coming t) l))) some ∙ turn (Some (Ok f)) e
