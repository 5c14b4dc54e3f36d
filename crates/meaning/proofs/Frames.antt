-- Instructions in the frame of a function: the store is seen as cell 0, the sheet's cells, what lies under the frame, the four cells that a call saves,
-- the function's variables, what its body holds above them, and the rest. Assumes nothing.
use Rattle.std.proofs.Common.{◌≡◌, ℕ, ◌+◌, ◌-◌, ◌*◌, ◌≤◌, List, [], ◌∷◌, ◌++◌, length, take, drop, pos, Some, sym, ap, subst, add-zero, arith}
use Rattle.std.specs.List.{slice_get}
use Rattle.std.proofs.lemmas.List.{length-append, append_assoc, take_at}
use Rattle.reckoning.specs.Meaning.{Meaning, largest}
use Rattle.instructions.specs.Words.{decoded}
use Rattle.machine.specs.Steps.{beside}
use Rattle.language.specs.Reading.{Memory}
use Rattle.translation.specs.Translation.{Line}

-- An instruction with its place stands at an address.
pub record Has (words places : List ℕ) (pc : ℕ) (l : Line) : Type 0 where
  pub word : ℕ
  pub there : slice_get words pc ≡ Some word
  pub known : decoded word ≡ Some l.0
  pub place : beside places (pos pc) ≡ l.1

abbrev pub Stands : List ℕ → List ℕ → ℕ → List Line → Type 0
Stands words places pc [] = Unit {0}
Stands words places pc (l ∷ ls) = Has words places pc l × Stands words places (pc + 1) ls

module _ (words places : List ℕ) where
  pub stands_left : (pc : ℕ) (xs ys : List Line) → Stands words places pc (xs ++ ys) → Stands words places pc xs
  stands_left pc [] ys h = tt
  stands_left pc (x ∷ xs) ys h = (h.0, stands_left (pc + 1) xs ys h.1)

  pub stands_right : (pc : ℕ) (xs ys : List Line) → Stands words places pc (xs ++ ys) → Stands words places (pc + length xs) ys
  stands_right pc [] ys h = subst (λ i. Stands words places i ys) (sym (add-zero pc)) h
  stands_right pc (x ∷ xs) ys h =
      let along : pc + 1 + length xs ≡ pc + length (x ∷ xs) = omega arith in
      subst (λ i. Stands words places i ys) along (stands_right (pc + 1) xs ys h.1)

-- An active function: what lies between the sheet's cells and the cells that its call saved, the numbers in those (return address, frame pointer and extreme pointer of the caller),
-- the cells of its variables, its own extreme pointer, and how many functions are active below it.
pub record Frame (Cell : Type 0) : Type 0 where
  pub under : List Cell
  pub back : ℕ
  pub old_fp : ℕ
  pub old_ep : ℕ
  pub size : ℕ
  pub ep : ℕ
  pub callers : ℕ

pub record Sound {Cell : Type 0} (F : Frame Cell) : Type 0 where
  pub back_small : F.back ≤ largest
  pub fp_small : F.old_fp ≤ largest
  pub ep_small : F.old_ep ≤ largest
  pub own_small : F.ep ≤ largest

-- The memory of a reading fits the frame, and its budget a level.
pub record Sized {Cell : Type 0} (g k : ℕ) (F : Frame Cell) (h : Memory Cell) : Type 0 where
  pub sheet_long : length h.sheet ≡ g
  pub frame_long : length h.frame ≡ F.size
  pub low : h.budget ≤ k

-- So many cells of the store, and of those free so many for what comes and 300 for each function that may yet be called.
pub record Room {Cell : Type 0} (g N : ℕ) (F : Frame Cell) (q : ℕ) (ts free : List Cell) : Type 0 where
  pub total : g + length F.under + F.size + length ts + length free + 5 ≡ N
  pub room : q + (24 - (F.callers + 1)) * 300 ≤ length free

module _ {Cell : Type 0} (m : Meaning Cell) (first : Cell) (F : Frame Cell) where
  -- the store, above the function's variables with `rest`
  abbrev pub flat : Memory Cell → List Cell → List Cell
  flat h rest = first ∷ (h.sheet ++ (F.under ++ (m.whole 0 ∷ m.whole F.old_ep ∷ m.whole F.old_fp ∷ m.whole F.back ∷ (h.frame ++ rest))))

  pub flat_split : (h : Memory Cell) (ts xs : List Cell) → flat h (ts ++ xs) ≡ flat h ts ++ xs
  flat_split h ts xs = simp append_assoc

  pub flat_push : (h : Memory Cell) (ts xs : List Cell) (c : Cell) → flat h ((ts ++ c ∷ []) ++ xs) ≡ flat h (ts ++ c ∷ xs)
  flat_push h ts xs c = ap (flat h) (append_assoc ts (c ∷ []) xs)

module _ {Cell : Type 0} (g k : ℕ) (m : Meaning Cell) (first : Cell) (F : Frame Cell) (h : Memory Cell) (sized : Sized g k F h) where
  pub flat_long : (ts : List Cell) → length (flat m first F h ts) ≡ g + length F.under + F.size + length ts + 5
  flat_long ts = simp length-append (omega arith)

  pub flat_sheet : (xs : List Cell) → take g (drop 1 (flat m first F h xs)) ≡ h.sheet
  flat_sheet xs = take_at h.sheet _ g sized.sheet_long
