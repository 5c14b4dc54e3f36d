-- Cells of the store at signed addresses. Assumes nothing.
use Rattle.std.proofs.Common.{◌≡◌, ℕ, zero, suc, ◌+◌, ◌<◌, ◌≤◌, true, false, ltb, ◌≢◌, ◌⊎◌, List, length, get_or, set, ℤ, pos, negsuc, ◌+ℤ◌, ◌-ℤ◌, nat_abs, Some, None, Option, Ok, Err, Result, cond, ◌&&◌, Bool, nat_lt, slice_set, sym, refl, ap, ◌∙◌, inl, inr, ⊎_elim, arith, length-set, get_or-set_other, get_or-set_same, le-ltb, lt-ltb, le-leb, w32, SFits, ◌-◌, ◌++◌, take, drop, le_refl}
use borrow.Rule.Slice.PartMut.{put_mid}
use Rattle.std.proofs.lemmas.List.{length-set, length-drop, length-take-le, take-append-drop, set-append_left, set-append_right}
use borrow.Author.Tests.{apart_eqb}
use lib.Signed.{le_z}
use Rattle.std.specs.Option.{ok_or}
use Rattle.std.specs.List.{slice_get}
use Rattle.std.proofs.lemmas.Option.{slice_get_read, slice_get_past, slice_get-get_or}
use Rattle.std.proofs.lemmas.Int.{ints}
use Rattle.std.proofs.str.Laws.{order}
use Rattle.instructions.specs.declared.Stop.{Stop}
use Rattle.instructions.specs.declared.Stop.TheVariants.{Broken}
use Rattle.machine.specs.Instructions.{◌>>=◌, register, cell, put, read_after, natural, tops, pushed, cleared, clear}
use Rattle.machine.specs.Seen.{after}

module _ {Cell : Type 0} (s : List Cell) where
  pub cell_inside : (at : ℤ) (x : Cell) → le_z (pos 0) at ≡ true → nat_abs at < length s → x ≡ get_or s (nat_abs at) x → Ok x ≡ cell s at
  cell_inside (pos a) x high low is = sym (ap (λ o. ok_or o Broken) (slice_get_read s (length s) a x refl low is))
  cell_inside (negsuc a) x high low is = cc

  pub cell_past : (at : ℤ) → le_z (pos 0) at ≡ true → length s ≤ nat_abs at → Err Broken ≡ cell s at
  cell_past (pos a) high past = sym (ap (λ o. ok_or o Broken) (slice_get_past s a past))
  cell_past (negsuc a) high past = refl

  pub cell_before : (at : ℤ) → le_z (pos 0) at ≡ false → Err Broken ≡ cell s at
  cell_before (pos a) low = grind (arith, ints)
  cell_before (negsuc a) low = refl

  -- there is a cell at i, or i is past the store
  pub inside_or_past : (i : ℕ) (d : Cell) → ((x : Cell) × (cell s (pos i) ≡ Ok x) × (ltb i (length s) ≡ true) × (i < length s)) ⊎ ((cell s (pos i) ≡ Err Broken) × (ltb i (length s) ≡ false))
  inside_or_past i d =
      ⊎_elim
      (λ lt. inl (get_or s i d, ap (λ o. ok_or o Broken) (slice_get-get_or s i d lt), lt-ltb i (length s) lt, lt))
      (λ ge. inr (sym (cell_past (pos i) (le-leb 0 i (omega arith)) ge), le-ltb i (length s) ge))
      (order i (length s))

  set_same : (i : ℕ) (v : Cell) → i < length s → cell (set s i v) (pos i) ≡ Ok v
  set_same i v lt =
      let long : i < length (set s i v) = simp length-set lt in
      ap (λ o. ok_or o Broken) (slice_get-get_or (set s i v) i v long ∙ ap Some (get_or-set_same s i v v lt))

  set_other : (i j : ℕ) (v : Cell) → j ≢ i → cell (set s i v) (pos j) ≡ cell s (pos j)
  set_other i j v apart =
      ⊎_elim
      (λ lt.
      let long : j < length (set s i v) = simp length-set lt in
      ap (λ o. ok_or o Broken) (slice_get-get_or (set s i v) j v long ∙ ap Some (get_or-set_other s i j v v apart) ∙ sym (slice_get-get_or s j v lt)))
      (λ ge.
      let long : length (set s i v) ≤ j = simp length-set ge in
      ap (λ o. ok_or o Broken) (slice_get_past (set s i v) j long ∙ sym (slice_get_past s j ge)))
      (order j (length s))

  pub read_after_outside : (at : ℤ) (v : Cell) (a : ℤ) (e : Stop) → cell s at ≡ Err e → Err e ≡ read_after s at v a
  unfolding read_after
  read_after_outside (pos i) v a e none = ⊎_elim (λ here. cc here.1) (λ out. rw out.1 (cc out.0)) (inside_or_past i v)
  read_after_outside (negsuc i) v a e none = cc

  read_after_here : (at : ℤ) (v x : Cell) → cell s at ≡ Ok x → Ok v ≡ read_after s at v at
  unfolding read_after
  read_after_here (pos i) v x some = ⊎_elim (λ here. rw here.2 (sym (set_same i v here.3))) (λ out. cc out.0) (inside_or_past i v)
  read_after_here (negsuc i) v x some = cc

  pub read_after_same : (at : ℤ) (v x : Cell) (a : ℤ) → cell s at ≡ Ok x → a ≡ at → Ok v ≡ read_after s at v a
  read_after_same at v x a some same = rw same (read_after_here at v x some)

  pub read_after_other : (at : ℤ) (v x : Cell) (a : ℤ) → cell s at ≡ Ok x → (a ≡ at → ⊥) → cell s a ≡ read_after s at v a
  unfolding read_after
  read_after_other (pos i) v x (pos a) some apart = ⊎_elim (λ here. rw here.2 (sym (set_other i a v (λ e. apart (ap pos e))))) (λ out. cc out.0) (inside_or_past i v)
  read_after_other (pos i) v x (negsuc a) some apart = ⊎_elim (λ here. rw here.2) (λ out. rw out.1) (inside_or_past i v)
  read_after_other (negsuc i) v x a some apart = cc

  pub clear_done : (c : Cell) (t : List Cell) (below : ℤ) (a k : ℕ) → (k ≡ 0 → ⊥) → natural (below +ℤ pos 1) ≡ Ok a → a + k ≤ length s → t ≡ cleared c s a k → (Ok tt, t) ≡ after s (clear c s below k)
  unfolding clear
  clear_done c t below a k some at fits is = rw (apart_eqb k 0 some, at, le-leb (a + k) (length s) fits) (ap (λ u. (Ok tt, u)) is)

  natural_is : (z : ℤ) (b : ℕ) → natural z ≡ Ok b → z ≡ pos b
  natural_is (pos n) b is = cc
  natural_is (negsuc n) b is = cc

  top_is : (sp : ℤ) (b : ℕ) → natural (sp -ℤ pos 1) ≡ Ok b → sp ≡ pos (b + 1)
  top_is sp b is = let below = natural_is (sp -ℤ pos 1) b is in omega (arith, ints)

  cell_at : (a : ℕ) (x : Cell) → a < length s → x ≡ get_or s a x → cell s (pos a) ≡ Ok x
  cell_at a x low is = ap (λ o. ok_or o Broken) (slice_get_read s (length s) a x refl low is)

  -- the two topmost cells, where the lower one is in the store, or the upper one past it
  pub tops_inside : (sp : ℤ) (b : ℕ) (x y : Cell) → natural (sp -ℤ pos 1) ≡ Ok b → b + 1 < length s → x ≡ get_or s b x → y ≡ get_or s (b + 1) y → Ok (pos b, x, y) ≡ tops s sp
  unfolding tops
  tops_inside sp b x y below high left right =
      rw (below, top_is sp b below, cell_at (b + 1) y high right, cell_at b x (omega arith) left)

  pub tops_past : (sp : ℤ) (b : ℕ) → natural (sp -ℤ pos 1) ≡ Ok b → length s ≤ b + 1 → Err Broken ≡ tops s sp
  unfolding tops
  tops_past sp b below past =
      let none : cell s (pos (b + 1)) ≡ Err Broken = ap (λ o. ok_or o Broken) (slice_get_past s (b + 1) past) in
      rw (below, top_is sp b below, none)

  broken_first : (o : Option Cell) → ◌≡◌ {A = Result (ℤ × Cell × Cell) Stop} (Err Broken) (ok_or o Broken >>= λ c. Err Broken)
  broken_first (Some c) = refl
  broken_first None = refl

  -- the two topmost cells, by an address at a time
  pub tops_by : (sp : ℤ) → SFits w32 sp → tops s sp ≡ (cell s sp >>= λ right. register (sp -ℤ pos 1) >>= λ below. cell s below >>= λ left. Ok (below, left, right))
  unfolding tops
  tops_by (pos zero) f = broken_first (slice_get s 0)
  tops_by (pos (suc n)) f =
      let below : pos (suc n) -ℤ pos 1 ≡ pos n = omega (arith, ints) in
      let fits : register (pos n) ≡ Ok (pos n) = rw (le-leb n 2147483647 (omega (arith, f.sfits))) refl in
      rw (below, fits)
  tops_by (negsuc n) f = refl

  abbrev topped : Result ℤ Stop → List Cell → Result (ℤ × List Cell) Stop
  topped a t = a >>= λ top. Ok (top, t)

  abbrev placed : Cell → Result ℤ Stop → Result (ℤ × List Cell) Stop
  placed c a = a >>= λ top. put s top c >>= topped (Ok top)

  put_first : (b : Bool) (t : List Cell) → (cond b (Ok t) (Err Broken) >>= topped (Err Broken)) ≡ Err Broken
  put_first true t = refl
  put_first false t = refl

  -- the cell at n is written before n is known to be an address, or after
  pushed_at : (c : Cell) (n : ℕ) (b : Bool) → (put s (pos n) c >>= topped (cond b (Ok (pos n)) (Err Broken))) ≡ placed c (cond b (Ok (pos n)) (Err Broken))
  pushed_at c n true = refl
  pushed_at c n false = put_first (nat_lt n (length s)) (slice_set s n c)

  before : (c : Cell) (n : ℕ) (b : Bool) → placed c (cond b (Ok (negsuc n)) (Err Broken)) ≡ Err Broken
  before c n true = refl
  before c n false = refl

  -- a cell on top of the stack, by its address
  pub pushed_by : (c : Cell) (sp : ℤ) → pushed c s sp ≡ (register (sp +ℤ pos 1) >>= λ top. put s top c >>= λ t. Ok (top, t))
  unfolding pushed
  pushed_by c (pos n) = pushed_at c (n + 1) (le_z (negsuc 2147483647) (pos (n + 1)) && le_z (pos (n + 1)) (pos 2147483647))
  pushed_by c (negsuc zero) = refl
  pushed_by c (negsuc (suc n)) =
      let below : negsuc (suc n) +ℤ pos 1 ≡ negsuc n = omega (arith, ints) in
      rw below (sym (before c n (le_z (negsuc 2147483647) (negsuc n) && le_z (negsuc n) (pos 2147483647))))

-- Clearing a part of the cells clears them in the whole.
module _ {Cell : Type 0} (c : Cell) where
  cleared_long : (s : List Cell) (a k : ℕ) → length (cleared c s a k) ≡ length s
  cleared_long s a zero = refl
  cleared_long s a (suc k) = length-set (cleared c s a k) (a + k) c ∙ cleared_long s a k

  part_cleared : (s : List Cell) (a n k : ℕ) → k ≤ n → a + n ≤ length s → take a s ++ (cleared c (take n (drop a s)) 0 k ++ drop n (drop a s)) ≡ cleared c s a k
  part_cleared s a n zero less fits = ap (λ t. take a s ++ t) (take-append-drop n (drop a s)) ∙ take-append-drop a s
  part_cleared s a n (suc k) less fits =
      let ys : List Cell = cleared c (take n (drop a s)) 0 k in
      let rest : List Cell = drop n (drop a s) in
      let front : length (take a s) ≡ a = length-take-le a s (omega arith) in
      let part : n ≤ length (drop a s) = omega (arith, length-drop a s) in
      let long : length ys ≡ n = cleared_long (take n (drop a s)) 0 k ∙ length-take-le n (drop a s) part in
      let low : 0 + k < length ys = omega arith in
      let at : a + k - a ≡ 0 + k = omega arith in
      ap (λ t. take a s ++ t) (sym (set-append_left ys rest (0 + k) c low))
      ∙ ap (λ i. take a s ++ set (ys ++ rest) i c) (sym at)
      ∙ sym (set-append_right (take a s) (ys ++ rest) a (a + k) c front (omega arith))
      ∙ ap (λ t. set t (a + k) c) (part_cleared s a n k (omega arith) fits)

  pub clears : (s ys : List Cell) (a n k : ℕ) → a + k ≤ length s → n ≡ k → ys ≡ cleared c (take n (drop a s)) 0 k → put_mid a n s ys ≡ cleared c s a k
  clears s ys a n k fits same is = rw (is, same) (part_cleared s a k k (le_refl k) fits)
