-- Two readings side by side, the second with so many units more. Assumes nothing.
use Rattle.std.proofs.Common.{◌≡◌, ℕ, zero, suc, ◌+◌, ◌<◌, ◌≤◌, Bool, true, false, cond, ltb, leb, ◌⊎◌, List, get_or, set, Some, None, Ok, Err, Option, Result, sym, refl, ap, ◌∙◌, subst, inl, inr, le_of_eq, le_refl, add-zero, suc-add, zero-add, arith}
use Rattle.reckoning.specs.declared.Stop.{Stop as ReckoningStop}
use Rattle.instructions.specs.declared.Stop.{Stop}
use Rattle.instructions.specs.declared.Stop.TheVariants.{Index, Budget, Depth, Reckoned}
use Rattle.language.specs.Resolved.{Region, on_sheet, in_frame}
use Rattle.language.specs.Reading.{Memory, Outcome, gives, stops, Reads, follow, ◌>>=◌, ◌>>◌, pure, stop, with_budget, with_frame, with_cells, cells_in, reckon, within, spend, admit, back_in, unless_returned}
use Rattle.language.specs.Readings.{left, lifted, raised}

module _ {Cell : Type 0} where
  -- an outcome for want of a unit
  abbrev pub Wants : {X : Type 0} → Outcome Cell X → Type 0
  Wants (gives x h) = ⊥
  Wants (stops e p c b) = e ≡ Budget

  -- y is x with d units more left, or x wants a unit that y spent of the d.
  abbrev pub Same : {X : Type 0} → ℕ → Outcome Cell X → Outcome Cell X → Type 0
  Same d x y = (y ≡ raised d x) ⊎ (Wants x × (left y < d))

  -- While fewer than so many units are left, a reading leaves no more than it had.
  abbrev pub Frugal : {X : Type 0} → ℕ → Reads Cell X → Type 0
  Frugal n r = (h : Memory Cell) → h.budget < n → left (r h) ≤ h.budget

  -- With fewer than n units r leaves nothing where it wants a unit, and with d units more s does the same.
  pub record Alongside {X : Type 0} (n d : ℕ) (r s : Reads Cell X) : Type 0 where
    pub frugal : Frugal n r
    pub other : Frugal (n + d) s
    pub dry : (h : Memory Cell) → h.budget < n → Wants (r h) → left (r h) ≡ 0
    pub same : (h : Memory Cell) → h.budget < n → Same d (r h) (s (lifted d h))

  frugal_follow : {X Y : Type 0} (n b : ℕ) (x : Outcome Cell X) (k : X → Reads Cell Y) → left x ≤ b → b < n → ((a : X) → Frugal n (k a)) → left (follow x k) ≤ b
  frugal_follow n b (gives a h) k low lt next = omega (arith, next a h (omega arith))
  frugal_follow n b (stops e p c l) k low lt next = low

  dry_follow : {X Y : Type 0} (n d : ℕ) (x : Outcome Cell X) (k l : X → Reads Cell Y) → left x < n → (Wants x → left x ≡ 0) → ((a : X) → Alongside n d (k a) (l a)) → Wants (follow x k) → left (follow x k) ≡ 0
  dry_follow n d (gives a h) k l lt none next = (next a).dry h lt
  dry_follow n d (stops e p c b) k l lt none next = none

  same_follow : {X Y : Type 0} (n d : ℕ) (x y : Outcome Cell X) (k l : X → Reads Cell Y) → left x < n → Same d x y → ((a : X) → Alongside n d (k a) (l a)) → Same d (follow x k) (follow y l)
  same_follow n d (gives a h) y k l lt (inl is) next = subst (λ z. Same d (k a h) (follow z l)) (sym is) ((next a).same h lt)
  same_follow n d (gives a h) y k l lt (inr o) next = absurd o.0
  same_follow n d (stops e p c b) y k l lt (inl is) next = inl (ap (λ z. follow z l) is)
  same_follow n d (stops e p c b) y k l lt (inr o) next = inr (o.0, omega (arith, o.1, frugal_follow (n + d) (left y) y l (le_refl (left y)) (omega (arith, o.1)) (λ a. (next a).other)))

  left_back : {X : Type 0} (f : List Cell) (x : Outcome Cell X) → left (back_in f x) ≡ left x
  left_back f (gives x h) = refl
  left_back f (stops e p c b) = refl

  dry_back : {X : Type 0} (f : List Cell) (x : Outcome Cell X) → (Wants x → left x ≡ 0) → Wants (back_in f x) → left (back_in f x) ≡ 0
  dry_back f (gives x h) none = none
  dry_back f (stops e p c b) none = none

  same_back : {X : Type 0} (d : ℕ) (f : List Cell) (x y : Outcome Cell X) → Same d x y → Same d (back_in f x) (back_in f y)
  same_back d f (gives x h) y (inl is) = inl (ap (back_in f) is)
  same_back d f (gives x h) y (inr o) = absurd o.0
  same_back d f (stops e p c b) y (inl is) = inl (ap (back_in f) is)
  same_back d f (stops e p c b) y (inr o) = inr (o.0, rw left_back o.1)

  module _ {n d : ℕ} where
    -- one reading and then another
    pub afterwards : {X Y : Type 0} {r s : Reads Cell X} {k l : X → Reads Cell Y} → Alongside n d r s → ((a : X) → Alongside n d (k a) (l a)) → Alongside n d (r >>= k) (s >>= l)
    afterwards {r = r} {s = s} {k = k} {l = l} now next = record {
      frugal = λ h lt. frugal_follow n h.budget (r h) k (now.frugal h lt) lt (λ a. (next a).frugal);
      other = λ h lt. frugal_follow (n + d) h.budget (s h) l (now.other h lt) lt (λ a. (next a).other);
      dry = λ h lt. dry_follow n d (r h) k l (omega (arith, now.frugal h lt)) (now.dry h lt) next;
      same = λ h lt. same_follow n d (r h) (s (lifted d h)) k l (omega (arith, now.frugal h lt)) (now.same h lt) next;
    }

    -- a reading that stops for no budget and neither looks at the budget nor changes it
    heedless : {X : Type 0} (r : Reads Cell X) → ((h : Memory Cell) → left (r h) ≡ h.budget) → ((h : Memory Cell) → ¬ (Wants (r h))) → ((h : Memory Cell) → r (lifted d h) ≡ raised d (r h)) → Alongside n d r r
    heedless r kept no-want alike = record {
      frugal = λ h _. le_of_eq (kept h);
      other = λ h _. le_of_eq (kept h);
      dry = λ h _ want. absurd (no-want h want);
      same = λ h _. inl (alike h);
    }

    pub purely : {X : Type 0} (x : X) → Alongside n d (pure x) (pure x)
    purely x = heedless (pure x) (λ h. refl) (λ h want. want) (λ h. refl)

    pub stopping : {X : Type 0} (e : Stop) (p : ℕ) → ¬ (e ≡ Budget) → Alongside {X = X} n d (stop e p) (stop e p)
    stopping e p other = heedless (stop e p) (λ h. refl) (λ h. other) (λ h. refl)

    pub reckoned : {X : Type 0} (p : ℕ) (x : Result X ReckoningStop) → Alongside n d (reckon p x) (reckon p x)
    reckoned p (Ok x) = purely x
    reckoned p (Err e) = stopping (Reckoned e) p (λ is. let clash : ◌≡◌ {A = ℕ} 0 1 = cc in omega arith)

    pub chosen : {X : Type 0} {r s t u : Reads Cell X} (b : Bool) → Alongside n d r s → Alongside n d t u → Alongside n d (cond b r t) (cond b s u)
    chosen true first second = first
    chosen false first second = second

    no_element : (p : ℕ) → Alongside {X = ℕ} n d (stop Index p) (stop Index p)
    no_element p = stopping Index p (λ is. let clash : ◌≡◌ {A = ℕ} 0 1 = cc in omega arith)

    pub inside : (p k : ℕ) (o : Option ℕ) → Alongside n d (within p k o) (within p k o)
    inside p k (Some i) = chosen (ltb i k) (purely i) (no_element p)
    inside p k None = no_element p

    pub fetched : (r : Region) (a : ℕ) (z : Cell) → Alongside n d (λ h. gives (get_or (cells_in r h) a z) h) (λ h. gives (get_or (cells_in r h) a z) h)
    fetched on_sheet a z = heedless _ (λ h. refl) (λ h want. want) (λ h. refl)
    fetched in_frame a z = heedless _ (λ h. refl) (λ h want. want) (λ h. refl)

    pub stored : (r : Region) (a : ℕ) (v : Cell) → Alongside n d (λ h. gives v (with_cells r (set (cells_in r h) a v) h)) (λ h. gives v (with_cells r (set (cells_in r h) a v) h))
    stored on_sheet a v = heedless _ (λ h. refl) (λ h want. want) (λ h. refl)
    stored in_frame a v = heedless _ (λ h. refl) (λ h want. want) (λ h. refl)

    pub unreturned : {k l : Reads Cell (Option Cell)} → Alongside n d k l → (o : Option Cell) → Alongside n d (unless_returned k o) (unless_returned l o)
    unreturned on (Some v) = purely (Some v)
    unreturned on None = on

    -- with other cells in the frame
    pub framed : {X : Type 0} {r s : Reads Cell X} (f : List Cell) → Alongside n d r s → Alongside n d (λ h. r (with_frame f h)) (λ h. s (with_frame f h))
    framed f on = record {
      frugal = λ h. on.frugal (with_frame f h);
      other = λ h. on.other (with_frame f h);
      dry = λ h. on.dry (with_frame f h);
      same = λ h. on.same (with_frame f h);
    }

    pub returned : {X : Type 0} {r s : Reads Cell X} → Alongside n d r s → Alongside n d (λ h. back_in h.frame (r h)) (λ h. back_in h.frame (s h))
    returned {r = r} {s = s} on = record {
      frugal = λ h lt. rw left_back (on.frugal h lt);
      other = λ h lt. rw left_back (on.other h lt);
      dry = λ h lt. dry_back h.frame (r h) (on.dry h lt);
      same = λ h lt. same_back d h.frame (r h) (s (lifted d h)) (on.same h lt);
    }

  abbrev holding : List Cell → List Cell → ℕ → Memory Cell
  holding c f b = record { sheet = c; frame = f; budget = b }

  frugal_spend : {X : Type 0} (p n : ℕ) (k : Reads Cell X) (c f : List Cell) (b : ℕ) → b < suc n → Frugal n k → left ((spend p >> k) (holding c f b)) ≤ b
  frugal_spend p n k c f zero lt low = le_refl 0
  frugal_spend p n k c f (suc b) lt low = omega (arith, low (holding c f b) (omega arith))

  dry_spend : {X : Type 0} (p n d : ℕ) (k l : Reads Cell X) (c f : List Cell) (b : ℕ) → b < suc n → Alongside n d k l → Wants ((spend p >> k) (holding c f b)) → left ((spend p >> k) (holding c f b)) ≡ 0
  dry_spend p n d k l c f zero lt on want = refl
  dry_spend p n d k l c f (suc b) lt on want = on.dry (holding c f b) (omega arith) want

  same_spend : {X : Type 0} (p n d : ℕ) (k l : Reads Cell X) (c f : List Cell) (b : ℕ) → b < suc n → Alongside n d k l → Same d ((spend p >> k) (holding c f b)) ((spend p >> l) (holding c f (b + d)))
  same_spend p n zero k l c f zero lt on = inl refl
  same_spend p n (suc d) k l c f zero lt on = rw (zero-add (suc d)) (inr (refl, omega (arith, on.other (holding c f d) (omega arith))))
  same_spend p n d k l c f (suc b) lt on = rw (suc-add b d) (on.same (holding c f b) (omega arith))

  -- A unit is spent before the next reading.
  pub spent : {n d : ℕ} {X : Type 0} {k l : Reads Cell X} (p : ℕ) → Alongside n d k l → Alongside (suc n) d (spend p >> k) (spend p >> l)
  spent {n = n} {d = d} {k = k} {l = l} p on = record {
    frugal = λ h lt. frugal_spend p n k h.sheet h.frame h.budget lt on.frugal;
    other = λ h lt. frugal_spend p (n + d) l h.sheet h.frame h.budget (omega arith) on.other;
    dry = λ h lt. dry_spend p n d k l h.sheet h.frame h.budget lt on;
    same = λ h lt. same_spend p n d k l h.sheet h.frame h.budget lt on;
  }

  pub admitted : {n d : ℕ} {X : Type 0} {k l : Reads Cell X} (active p : ℕ) → Alongside n d k l → Alongside (suc n) d (admit active p >> k) (admit active p >> l)
  admitted {n = n} {d = d} {X = X} {k = k} {l = l} active p on = go (leb 24 active)
    where
      go : (b : Bool) → Alongside (suc n) d (cond b (stop Depth p) (spend p) >> k) (cond b (stop Depth p) (spend p) >> l)
      go true = stopping Depth p (λ is. let clash : ◌≡◌ {A = ℕ} 0 1 = cc in omega arith)
      go false = spent p on

  lifted_zero : (h : Memory Cell) → lifted 0 h ≡ h
  lifted_zero h = ap (λ b. with_budget b h) (add-zero h.budget)

  raised_zero : {X : Type 0} (x : Outcome Cell X) → raised 0 x ≡ x
  raised_zero (gives x h) = ap (gives x) (lifted_zero h)
  raised_zero (stops e p c b) = ap (stops e p c) (add-zero b)

  same_zero : {X : Type 0} (x y : Outcome Cell X) → Same 0 x y → y ≡ x
  same_zero x y (inl is) = is ∙ raised_zero x
  same_zero x y (inr o) = absurd (omega (arith, o.1))

  -- With no units more the two readings give the same.
  pub alone : {n : ℕ} {X : Type 0} {r s : Reads Cell X} → Alongside n 0 r s → (h : Memory Cell) → h.budget < n → s h ≡ r h
  alone {r = r} {s = s} on h lt = ap s (sym (lifted_zero h)) ∙ same_zero (r h) (s (lifted 0 h)) (on.same h lt)
