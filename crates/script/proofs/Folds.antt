-- The fold over the lines of a script, a line at a time. Assumes nothing.
use Rattle.std.proofs.Common.{◌≡◌, ℕ, ◌+◌, Bool, true, false, cond, ◌⊎◌, List, [], ◌∷◌, ◌++◌, Some, None, Ok, Err, Option, Result, MatchResult, IsErrAnd, sym, refl, ap, ◌∙◌, subst, inl, inr, append_assoc, append-nil}
use Rattle.reckoning.specs.Meaning.{Meaning}
use Rattle.wording.specs.Pieces.{words}
use Rattle.commands.specs.declared.Cause.{Cause}
use Rattle.commands.specs.declared.Cause.TheVariants.{NoEnd, NoMemory}
use Rattle.commands.specs.declared.Command.{Command}
use Rattle.commands.specs.declared.Command.TheVariants.{Nothing, Store, Cell, Code, Word, End, Registers, Run, Show}
use Rattle.commands.specs.Commands.{command}
use Rattle.script.specs.declared.fault.Fault.{Fault}
use Rattle.script.specs.Sessions.{State, context, executed, reported}
use Rattle.script.specs.Scripts.{Fails, fault, fails, ended, told, carried, Begins, Comes, Stepped}

all_of : (xs : List ℕ) → Begins xs xs
all_of xs = ([], sym (append-nil xs))

begins_trans : (xs ys zs : List ℕ) → Begins xs ys → Begins ys zs → Begins xs zs
begins_trans xs ys zs a b = (a.0 ++ b.0, b.1 ∙ ap (λ l. l ++ b.0) a.1 ∙ append_assoc xs a.0 b.0)

begins_at : (xs ys zs : List ℕ) → xs ≡ ys → Begins ys zs → Begins xs zs
begins_at xs ys zs e b = (b.0, b.1 ∙ ap (λ l. l ++ b.0) (sym e))

ended_begins : {C : Type 0} (n : ℕ) (s : State C) → Begins s.output (ended n s).0
ended_begins n s = by s.listing
  where
    by : (b : Bool) → Begins s.output (cond {A = List ℕ × Option Fails} b (s.output, Some (fault n NoEnd)) ((reported s).output, None)).0
    by true = all_of s.output
    by false = (_, refl)

comes_at : (out : List ℕ) (f : Option Fails) (d e : List ℕ × Option Fails) → d ≡ e → Comes out f d → Comes out f e
comes_at out f d e p h = subst (λ x. Comes out f x) p h

-- the fault that a cause is made into
raised : {X : Type 0} (post : Cause → Fault → Type 0) (k : ℕ) (r : Result X Cause) (m : Result X Fault) (y : Fault) → MatchResult r (λ x. m ≡ Ok x) (λ e. IsErrAnd m (post e)) → m ≡ Err y → ((e : Cause) → post e y → fails y ≡ fault k e) → (e : Cause) × (r ≡ Err e) × (fails y ≡ fault k e)
raised post k (Ok x) m y h q g = absurd (cc)
raised post k (Err e) m y h q g = (e, refl, g e (subst (λ z. IsErrAnd z (post e)) q h))

module _ {C : Type 0} (m : Meaning C) (reads : List ℕ → Option C) (writes : C → List ℕ) where
  grows : (s : State C) (c : Command C) → Begins s.output (executed m writes s c).output
  grows s Nothing = all_of s.output
  grows s (Store n) = all_of s.output
  grows s (Cell at c) = all_of s.output
  grows s Code = all_of s.output
  grows s (Word w place) = all_of s.output
  grows s End = all_of s.output
  grows s (Registers r) = all_of s.output
  grows s (Run r) = (_, refl)
  grows s (Show first count) = (_, refl)

  told_begins : (others : State C → List ℕ × Option Fails) → ((t : State C) → Begins t.output (others t).0) → (n : ℕ) (s : State C) (d : Result (Command C) Cause) → Begins s.output (told m reads writes others n s d).0
  told_begins others h n s (Ok c) = begins_trans s.output (executed m writes s c).output _ (grows s c) (h (executed m writes s c))
  told_begins others h n s (Err e) = all_of s.output

  carried_begins : (n : ℕ) (ls : List (List ℕ)) (s : State C) → Begins s.output (carried m reads writes n ls s).0
  carried_begins n [] s = ended_begins n s
  carried_begins n (l ∷ ls) s = told_begins (carried m reads writes (n + 1) ls) (carried_begins (n + 1) ls) n s (command reads (context s) (words l))

  stops : (n : ℕ) (line : List ℕ) (after : List (List ℕ)) (s : State C) (e : Cause) (out : List ℕ) → (command reads (context s) (words line) ≡ Err e) ⊎ (e ≡ NoMemory) → out ≡ s.output → Comes out (Some (fault (n + 1) e)) (carried m reads writes n (line ∷ after) s)
  stops n line after s e out (inl x) o = inl (ap (λ l. (l, Some (fault (n + 1) e))) o ∙ sym (ap (told m reads writes (carried m reads writes (n + 1) after) n s) x))
  stops n line after s e out (inr x) o = inr ((n + 1, ap (λ k. Some (fault (n + 1) k)) x), begins_at out s.output _ o (carried_begins n (line ∷ after) s))

  pub step_fails : (n : ℕ) (ls : List (List ℕ)) (line : List ℕ) (after : List (List ℕ)) (s t : State C) (e : Cause) → ls ≡ line ∷ after → Stepped (executed m writes) (Err e) s t (command reads (context s) (words line)) → Comes t.output (Some (fault (n + 1) e)) (carried m reads writes n ls s)
  step_fails n ls line after s t e h p = subst (λ k. Comes t.output (Some (fault (n + 1) e)) (carried m reads writes n k s)) (sym h) (stops n line after s e t.output p.0 p.1)

  -- the same where the cause is made into the fault of a line
  pub step_raises : (n i : ℕ) (ls : List (List ℕ)) (line : List ℕ) (after : List (List ℕ)) (s t : State C) (post : Cause → Fault → Type 0) (r : Result (Unit {0}) Cause) (a : Result (Unit {0}) Fault) (y : Fault) (d : List ℕ × Option Fails) → ls ≡ line ∷ after → i ≡ n → Stepped (executed m writes) r s t (command reads (context s) (words line)) → MatchResult r (λ x. a ≡ Ok x) (λ e. IsErrAnd a (post e)) → a ≡ Err y → ((e : Cause) → post e y → fails y ≡ fault (i + 1) e) → carried m reads writes n ls s ≡ d → Comes t.output (Some (fails y)) d
  step_raises n i ls line after s t post r a y d h same p cases was made inv =
      let q = raised post (i + 1) r a y cases was made in
      subst (λ x. Comes t.output (Some x) d) (sym (q.2 ∙ ap (λ k. fault (k + 1) q.0) same))
      (comes_at t.output (Some (fault (n + 1) q.0)) (carried m reads writes n ls s) d inv
      (step_fails n ls line after s t q.0 h (subst (λ z. Stepped (executed m writes) z s t (command reads (context s) (words line))) q.1 p)))
