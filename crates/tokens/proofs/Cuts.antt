-- The definition of a text's tokens keeps the words of its reader. Assumes nothing.
use Rattle.std.proofs.Common.{◌≡◌, ℕ, zero, suc, ◌+◌, ◌-◌, ◌≤◌, min, Bool, true, false, cond, not, ◌&&◌, leb, List, [], ◌∷◌, ◌++◌, length, take, drop, Some, None, Ok, Err, Option, Result, sym, refl, ap, ◌∙◌, subst, subst₂, inl, inr, zero-le, add-zero, arith, take-append-drop}
use Rattle.std.specs.List.{prefix_len, AllByRecursion}
use Rattle.std.specs.Str.{bytes_eq}
use Rattle.std.proofs.lemmas.Slice.Eq.{bytes_eq-Decides}
use Rattle.std.proofs.lemmas.List.Sums.{prefix_len-le-length}
use Rattle.std.proofs.lemmas.List.{length-take-le, drop-drop, nil_from_length, append-nil}
use Rattle.std.proofs.lemmas.Bool.{both_ways, cond-true, cond-false, or_left, and_parts, not-true, leb-true}
use Rattle.std.proofs.lemmas.Bool.Decides.{nat_tests}
use Rattle.tokens.specs.declared.fault.Cause.{Cause}
use Rattle.tokens.specs.declared.fault.Cause.TheVariants.{Limit}
use Rattle.tokens.specs.declared.fault.Fault.{Fault}
use Rattle.tokens.specs.declared.lexemes.Word.{Word}
use Rattle.tokens.specs.declared.lexemes.Sign.{Sign}
use Rattle.tokens.specs.declared.lexemes.Sign.TheVariants.{OpenRound, CloseRound, OpenCurly, CloseCurly, OpenSquare, CloseSquare, Semicolon, Comma, Becomes, Plus, Minus, Star, Slash, Percent, Less, Greater, Bang, AtMost, AtLeast, Equal, NotEqual}
use Rattle.tokens.specs.Tokens.{Lexeme, name, number, Measured, Piece, gap, letter, inner, digit, word_text, words, sign_text, signs, spelled, kept, single, double, value, needless, named, numbered, sized, short, long, signed, begun, front_of, placed, some_piece, at_place, next, before, counted, from_place, tokens, number_of}
use Rattle.tokens.proofs.Fronts.{Within, front_within}
use Rattle.tokens.specs.Laws.{Gaps, NameLike, NumberLike, Spells, Longest, Cut, Covers, First, Whole}

nil_cons : (x : ℕ) (xs : List ℕ) → [] ≡ x ∷ xs → ⊥
nil_cons x xs e = omega (arith, ap length e)

same_head : (a b : ℕ) (xs ys : List ℕ) → a ∷ xs ≡ b ∷ ys → a ≡ b
same_head a b xs ys e = cc

none_some : {X : Type 0} (x : X) → None ≡ Some x → ⊥
none_some x e = let z : ◌≡◌ {A = ℕ} 0 1 = cc in omega arith

same_some : {X : Type 0} (x y : X) → Some x ≡ Some y → x ≡ y
same_some x y e = cc

leading_more : (p : ℕ → Bool) (b : ℕ) (bs : List ℕ) → p b ≡ true → prefix_len p (b ∷ bs) ≡ suc (prefix_len p bs)
leading_more p b bs e = let one : 1 + prefix_len p bs ≡ suc (prefix_len p bs) = omega arith in cond-true (p b) _ _ e ∙ one

-- the run of a class: all of it passes, and what stands behind it does not
leading_all : (p : ℕ → Bool) (bs : List ℕ) → AllByRecursion (λ b. p b ≡ true) (take (prefix_len p bs) bs)
leading_all p [] = tt
leading_all p (b ∷ bs) = go (p b) refl (leading_all p bs)
  where
    go : (t : Bool) → p b ≡ t → AllByRecursion (λ b. p b ≡ true) (take (prefix_len p bs) bs) → AllByRecursion (λ b. p b ≡ true) (take (prefix_len p (b ∷ bs)) (b ∷ bs))
    go true e h = subst (λ n. AllByRecursion (λ b. p b ≡ true) (take n (b ∷ bs))) (sym (leading_more p b bs e)) (e, h)
    go false e h = subst (λ n. AllByRecursion (λ b. p b ≡ true) (take n (b ∷ bs))) (sym (cond-false (p b) _ _ e)) tt

leading_stops : (p : ℕ → Bool) (bs : List ℕ) (x : ℕ) (xs : List ℕ) → drop (prefix_len p bs) bs ≡ x ∷ xs → p x ≡ false
leading_stops p [] x xs e = absurd (nil_cons x xs e)
leading_stops p (b ∷ bs) x xs e = go (p b) refl (leading_stops p bs x xs)
  where
    go : (t : Bool) → p b ≡ t → (drop (prefix_len p bs) bs ≡ x ∷ xs → p x ≡ false) → p x ≡ false
    go true h on = on (ap (λ n. drop n (b ∷ bs)) (sym (leading_more p b bs h)) ∙ e)
    go false h on =
        let none : prefix_len p (b ∷ bs) ≡ 0 = cond-false (p b) _ _ h in
        let here : b ∷ bs ≡ x ∷ xs = ap (λ n. drop n (b ∷ bs)) (sym none) ∙ e in
        ap p (sym (same_head b x bs xs here)) ∙ h

-- what is found by its spelling is spelled so
spelled_is : {X : Type 0} (text : X → List ℕ) (xs : List X) (bs : List ℕ) (x : X) → spelled text xs bs ≡ Some x → bs ≡ text x
spelled_is text [] bs x e = absurd (none_some x e)
spelled_is text (y ∷ ys) bs x e = go (bytes_eq bs (text y)) refl (spelled_is text ys bs x)
  where
    go : (t : Bool) → bytes_eq bs (text y) ≡ t → (spelled text ys bs ≡ Some x → bs ≡ text x) → bs ≡ text x
    go true h on = (bytes_eq-Decides bs (text y)).0 h ∙ ap text (same_some y x (sym (cond-true (bytes_eq bs (text y)) _ _ h) ∙ e))
    go false h on = on (sym (cond-false (bytes_eq bs (text y)) _ _ h) ∙ e)

all_mid : (P : ℕ → Type 0) (w : List ℕ) (x : ℕ) (xs : List ℕ) → AllByRecursion P (w ++ x ∷ xs) → P x
all_mid P [] x xs h = h.0
all_mid P (b ∷ w) x xs h = all_mid P w x xs h.1

apart : (b : ℕ) → letter b ≡ true → digit b ≡ true → ⊥
apart b l d = grind (arith, nat_tests)

-- the first byte of a sign is neither a letter nor a digit
abbrev plain : List ℕ → Bool
plain [] = false
plain (b ∷ bs) = not (letter b) && not (digit b)

pub record Spelling (s : Sign) : Type 0 where
  pub plainly : plain (sign_text s) ≡ true
  pub shortly : leb (length (sign_text s)) 2 ≡ true
  pub alone : spelled sign_text signs (sign_text s) ≡ Some s

spelling : (s : Sign) → Spelling s
spelling OpenRound = record { plainly = refl; shortly = refl; alone = refl }
spelling CloseRound = record { plainly = refl; shortly = refl; alone = refl }
spelling OpenCurly = record { plainly = refl; shortly = refl; alone = refl }
spelling CloseCurly = record { plainly = refl; shortly = refl; alone = refl }
spelling OpenSquare = record { plainly = refl; shortly = refl; alone = refl }
spelling CloseSquare = record { plainly = refl; shortly = refl; alone = refl }
spelling Semicolon = record { plainly = refl; shortly = refl; alone = refl }
spelling Comma = record { plainly = refl; shortly = refl; alone = refl }
spelling Becomes = record { plainly = refl; shortly = refl; alone = refl }
spelling Plus = record { plainly = refl; shortly = refl; alone = refl }
spelling Minus = record { plainly = refl; shortly = refl; alone = refl }
spelling Star = record { plainly = refl; shortly = refl; alone = refl }
spelling Slash = record { plainly = refl; shortly = refl; alone = refl }
spelling Percent = record { plainly = refl; shortly = refl; alone = refl }
spelling Less = record { plainly = refl; shortly = refl; alone = refl }
spelling Greater = record { plainly = refl; shortly = refl; alone = refl }
spelling Bang = record { plainly = refl; shortly = refl; alone = refl }
spelling AtMost = record { plainly = refl; shortly = refl; alone = refl }
spelling AtLeast = record { plainly = refl; shortly = refl; alone = refl }
spelling Equal = record { plainly = refl; shortly = refl; alone = refl }
spelling NotEqual = record { plainly = refl; shortly = refl; alone = refl }

sign_plain : (s : Sign) (b : ℕ) (bs : List ℕ) → sign_text s ≡ b ∷ bs → (letter b ≡ false) × (digit b ≡ false)
sign_plain s b bs e =
    let both = and_parts (not (letter b)) (not (digit b)) (sym (ap plain e) ∙ (spelling s).plainly) in
    (not-true (letter b) both.0, not-true (digit b) both.1)

sign_short : (s : Sign) (bs : List ℕ) → sign_text s ≡ bs → length bs ≤ 2
sign_short s bs e = subst (λ l. length l ≤ 2) e (leb-true _ 2 (spelling s).shortly)

longest_name : (b : ℕ) (w rest : List ℕ) → letter b ≡ true → ((x : ℕ) (xs : List ℕ) → rest ≡ x ∷ xs → inner x ≡ false) → Longest (b ∷ w) rest
longest_name b w rest l stops x xs ys e (inl n) = both_ways (inner x) (stops x (xs ++ ys) e) (all_mid (λ c. inner c ≡ true) w x xs n.1)
longest_name b w rest l stops x xs ys e (inr (inl n)) = apart b l n.0
longest_name b w rest l stops x xs ys e (inr (inr s)) = both_ways (letter b) (sign_plain s.0 b _ s.1).0 l

longest_number : (b : ℕ) (w rest : List ℕ) → digit b ≡ true → ((x : ℕ) (xs : List ℕ) → rest ≡ x ∷ xs → digit x ≡ false) → Longest (b ∷ w) rest
longest_number b w rest d stops x xs ys e (inl n) = apart b n.0 d
longest_number b w rest d stops x xs ys e (inr (inl n)) = both_ways (digit x) (stops x (xs ++ ys) e) (all_mid (λ c. digit c ≡ true) w x xs n.1)
longest_number b w rest d stops x xs ys e (inr (inr s)) = both_ways (digit b) (sign_plain s.0 b _ s.1).1 d

-- What the bytes of a token say.
abbrev Spelt : List ℕ → Result Lexeme Cause → Type 0
Spelt w (Ok x) = Spells x w
Spelt w (Err e) = Unit {0}

named_spelt : (w : List ℕ) (o : Option Word) → kept w ≡ o → NameLike w → Spelt w (named w o)
named_spelt w (Some k) e l = spelled_is word_text words w k e
named_spelt w None e l = go (leb (length w) 24) refl
  where
    go : (t : Bool) → leb (length w) 24 ≡ t → Spelt w (cond t (Ok (name w)) (Err Limit))
    go true h = (refl, l, e, leb-true _ 24 h)
    go false h = tt

numbered_spelt : (w : List ℕ) → NumberLike w → Spelt w (numbered w)
numbered_spelt w l = go (leb (value w) 16383 && not (needless w)) refl
  where
    go : (t : Bool) → (leb (value w) 16383 && not (needless w)) ≡ t → Spelt w (cond t (Ok (number w (value w))) (Err Limit))
    go true h = let both = and_parts (leb (value w) 16383) (not (needless w)) h in (refl, l, refl, leb-true _ 16383 both.0, not-true (needless w) both.1)
    go false h = tt

-- The token at the front of some bytes is written there, and is as long as can be.
abbrev pub Right : List ℕ → Measured → Type 0
Right bs (Ok x) = Spells x.0 (take x.1 bs) × Longest (take x.1 bs) (drop x.1 bs)
Right bs (Err e) = Unit {0}

sized_right : (bs : List ℕ) (n : ℕ) (r : Result Lexeme Cause) → Spelt (take n bs) r → Longest (take n bs) (drop n bs) → Right bs (sized n r)
sized_right bs n (Ok x) s l = (s, l)
sized_right bs n (Err e) s l = tt

module _ (a : ℕ) (no-letter : letter a ≡ false) (no_digit : digit a ≡ false) where
  longest_sign : (w rest : List ℕ) → ((x : ℕ) (xs ys : List ℕ) (s : Sign) → rest ≡ (x ∷ xs) ++ ys → sign_text s ≡ a ∷ (w ++ x ∷ xs) → ⊥) → Longest (a ∷ w) rest
  longest_sign w rest only x xs ys e (inl n) = both_ways (letter a) no-letter n.0
  longest_sign w rest only x xs ys e (inr (inl n)) = both_ways (digit a) no_digit n.0
  longest_sign w rest only x xs ys e (inr (inr s)) = only x xs ys s.0 e s.1

  short_only : (rest : List ℕ) → ((x : ℕ) (xs : List ℕ) → rest ≡ x ∷ xs → double a x ≡ None) → (x : ℕ) (xs ys : List ℕ) (s : Sign) → rest ≡ (x ∷ xs) ++ ys → sign_text s ≡ a ∷ x ∷ xs → ⊥
  short_only rest no_more x xs ys s e is =
      let none : xs ≡ [] = nil_from_length xs (omega (arith, sign_short s (a ∷ x ∷ xs) is)) in
      none_some s (sym (no_more x (xs ++ ys) e) ∙ ap (λ l. spelled sign_text signs (a ∷ x ∷ l)) (sym none) ∙ ap (spelled sign_text signs) (sym is) ∙ (spelling s).alone)

  short_right : (bs : List ℕ) (o : Option Sign) → single a ≡ o → ((x : ℕ) (xs : List ℕ) → bs ≡ x ∷ xs → double a x ≡ None) → Right (a ∷ bs) (short o)
  short_right bs (Some s) e no_more = (spelled_is sign_text signs (a ∷ []) s e, longest_sign [] bs (short_only bs no_more))
  short_right bs None e no_more = tt

  long_right : (b : ℕ) (bs : List ℕ) (o : Option Sign) → double a b ≡ o → Right (a ∷ b ∷ bs) (long o (short (single a)))
  long_right b bs (Some s) e = (spelled_is sign_text signs (a ∷ b ∷ []) s e, longest_sign (b ∷ []) bs (λ x xs ys s _ is. omega (arith, sign_short s (a ∷ b ∷ x ∷ xs) is)))
  long_right b bs None e = short_right (b ∷ bs) (single a) refl (λ x xs same. ap (double a) (sym (same_head b x bs xs same)) ∙ e)

  signed_right : (bs : List ℕ) → Right (a ∷ bs) (signed a bs)
  signed_right [] = short_right [] (single a) refl (λ x xs e. absurd (nil_cons x xs e))
  signed_right (b ∷ bs) = long_right b bs (double a b) refl

begun_right : (t d : Bool) (b : ℕ) (bs : List ℕ) → letter b ≡ t → digit b ≡ d → Right (b ∷ bs) (begun t d b bs)
begun_right true d b bs l g =
    let F : ℕ → Type 0 = λ n. NameLike (take n (b ∷ bs)) × Longest (take n (b ∷ bs)) (drop n (b ∷ bs)) in
    let f : F (prefix_len inner (b ∷ bs)) = subst F (sym (leading_more inner b bs (or_left (letter b) (digit b) l))) ((l, leading_all inner bs), longest_name b (take (prefix_len inner bs) bs) (drop (prefix_len inner bs) bs) l (leading_stops inner bs)) in
    sized_right (b ∷ bs) _ _ (named_spelt _ _ refl f.0) f.1
begun_right false true b bs l g =
    let F : ℕ → Type 0 = λ n. NumberLike (take n (b ∷ bs)) × Longest (take n (b ∷ bs)) (drop n (b ∷ bs)) in
    let f : F (prefix_len digit (b ∷ bs)) = subst F (sym (leading_more digit b bs g)) ((g, leading_all digit bs), longest_number b (take (prefix_len digit bs) bs) (drop (prefix_len digit bs) bs) g (leading_stops digit bs)) in
    sized_right (b ∷ bs) _ _ (numbered_spelt _ f.0) f.1
begun_right false false b bs l g = signed_right b l g bs

pub front_right : (bs : List ℕ) → Right bs (front_of bs)
front_right [] = tt
front_right (b ∷ bs) = begun_right (letter b) (digit b) b bs refl refl

-- A token stands behind the gaps before it.
module _ (from p : ℕ) (bs g l : List ℕ) (parts : bs ≡ g ++ l) (blank : Gaps g) (there : p ≡ from + length g) where
  placed_first : (m : Measured) → Within l m → Right l m → First from bs (some_piece (placed p m))
  placed_first (Ok x) w r = (
    drop x.1 l,
    record {
      gaps = g;
      token = take x.1 l;
      whole = parts ∙ ap (λ k. g ++ k) (sym (take-append-drop x.1 l));
      blank = blank;
      place = there;
      end = ap (λ k. p + k) (sym (length-take-le x.1 l w.1));
      spells = r.0;
      longest = r.1;
    },
  )
  placed_first (Err e) w r = tt

at_first : (from p : ℕ) (bs g l : List ℕ) → bs ≡ g ++ l → Gaps g → p ≡ from + length g → First from bs (at_place p l)
at_first from p bs g [] parts blank there = subst Gaps (sym (parts ∙ append-nil g)) blank
at_first from p bs g (b ∷ l) parts blank there = placed_first from p bs g (b ∷ l) parts blank there (front_of (b ∷ l)) (front_within (b ∷ l)) (front_right (b ∷ l))

pub next_first : (text : List ℕ) (from : ℕ) → First from (drop from text) (next text from)
next_first text from =
    let bs = drop from text in
    let n = prefix_len gap bs in
    at_first from (from + n) bs (take n bs) (drop (from + n) text) (sym (take-append-drop n bs) ∙ ap (λ l. take n bs ++ l) (drop-drop n from text)) (leading_all gap bs)
    (ap (λ k. from + k) (sym (length-take-le n bs (prefix_len-le-length gap bs))))

cut_here : (p : ℕ) (bs : List ℕ) (x : Lexeme × ℕ) → Within bs (Ok x) → Right bs (Ok x) → Cut p (record { lexeme = x.0; place = p; end = p + x.1 }) bs (drop x.1 bs)
cut_here p bs x w r = record {
  gaps = [];
  token = take x.1 bs;
  whole = sym (take-append-drop x.1 bs);
  blank = tt;
  place = sym (add-zero p);
  end = ap (λ k. p + k) (sym (length-take-le x.1 bs w.1));
  spells = r.0;
  longest = r.1;
}

cut_gap : (p b : ℕ) (x : Piece) (bs rest : List ℕ) → gap b ≡ true → Cut (p + 1) x bs rest → Cut p x (b ∷ bs) rest
cut_gap p b x bs rest e c = record {
  gaps = b ∷ c.gaps;
  token = c.token;
  whole = ap (λ l. b ∷ l) c.whole;
  blank = (e, c.blank);
  place = c.place ∙ on (length c.gaps);
  end = c.end;
  spells = c.spells;
  longest = c.longest;
}
  where
    on : (n : ℕ) → p + 1 + n ≡ p + suc n
    on n = omega arith

covers_gap : (p b : ℕ) (xs : List Piece) (bs : List ℕ) → gap b ≡ true → Covers (p + 1) xs bs → Covers p xs (b ∷ bs)
covers_gap p b [] bs e h = (e, h)
covers_gap p b (x ∷ xs) bs e h = (h.0, cut_gap p b x bs h.0 e h.1, h.2)

-- What a reading of some bytes gives covers them.
abbrev Covered : ℕ → List ℕ → Result (List Piece) Fault → Type 0
Covered p bs (Ok xs) = Covers p xs bs
Covered p bs (Err e) = Unit {0}

gap_covered : (p b : ℕ) (bs : List ℕ) (r : Result (List Piece) Fault) → gap b ≡ true → Covered (p + 1) bs r → Covered p (b ∷ bs) r
gap_covered p b bs (Ok xs) e h = covers_gap p b xs bs e h
gap_covered p b bs (Err f) e h = tt

before_covered : (p : ℕ) (bs rest : List ℕ) (x : Piece) (r : Result (List Piece) Fault) → Cut p x bs rest → Covered x.end rest r → Covered p bs (before x r)
before_covered p bs rest x (Ok xs) c h = (rest, c, h)
before_covered p bs rest x (Err f) c h = tt

module _ (p b : ℕ) (bs : List ℕ) (others : (l k : ℕ) → k ≤ length bs → Covered (p + 1 + k) (drop k bs) (from_place l (p + 1) k bs)) where
  token_covered : (left : ℕ) (m : Measured) → Within (b ∷ bs) m → Right (b ∷ bs) m → Covered p (b ∷ bs) (counted left (placed p m) (λ l i. from_place l (p + 1) i bs))
  token_covered left (Err e) w r = tt
  token_covered zero (Ok x) w r = tt
  token_covered (suc left) (Ok x) w r =
      let k = p + x.1 - p - 1 in
      let on : p + 1 + k ≡ p + x.1 = omega (arith, w.0) in
      let more : suc k ≡ x.1 = omega (arith, w.0) in
      let fits : k ≤ length bs = omega (arith, w.0, w.1) in
      let there : drop k bs ≡ drop x.1 (b ∷ bs) = ap (λ j. drop j (b ∷ bs)) more in
      before_covered p (b ∷ bs) (drop x.1 (b ∷ bs)) _ (from_place left (p + 1) k bs) (cut_here p (b ∷ bs) x w r) (subst₂ (λ q l. Covered q l (from_place left (p + 1) k bs)) on there (others left k fits))

  byte_covered : (left : ℕ) (t : Bool) → gap b ≡ t → Covered p (b ∷ bs) (from_place left p 0 (b ∷ bs))
  byte_covered left true e =
      let F : Bool → Result (List Piece) Fault = λ t. elim t [ true ↦ from_place left (p + 1) zero bs | false ↦ counted left (placed p (front_of (b ∷ bs))) (λ l i. from_place l (p + 1) i bs) ] in
      let rest : Covered (p + 1) bs (from_place left (p + 1) 0 bs) = subst (λ q. Covered q bs (from_place left (p + 1) 0 bs)) (add-zero (p + 1)) (others left 0 zero-le) in
      subst (Covered p (b ∷ bs)) (sym (ap F e)) (gap_covered p b bs (from_place left (p + 1) 0 bs) e rest)
  byte_covered left false e =
      let F : Bool → Result (List Piece) Fault = λ t. elim t [ true ↦ from_place left (p + 1) zero bs | false ↦ counted left (placed p (front_of (b ∷ bs))) (λ l i. from_place l (p + 1) i bs) ] in
      subst (Covered p (b ∷ bs)) (sym (ap F e)) (token_covered left (front_of (b ∷ bs)) (front_within (b ∷ bs)) (front_right (b ∷ bs)))

no_gaps : (k : ℕ) → Gaps (drop k [])
no_gaps zero = tt
no_gaps (suc k) = tt

from_covered : (left p k : ℕ) (bs : List ℕ) → k ≤ length bs → Covered (p + k) (drop k bs) (from_place left p k bs)
from_covered left p k [] h = no_gaps k
from_covered left p (suc k) (b ∷ bs) h = let on : p + 1 + k ≡ p + suc k = omega arith in subst (λ q. Covered q (drop k bs) (from_place left (p + 1) k bs)) on (from_covered left (p + 1) k bs (omega arith))
from_covered left p zero (b ∷ bs) h = subst (λ q. Covered q (b ∷ bs) (from_place left p 0 (b ∷ bs))) (sym (add-zero p)) (byte_covered p b bs (λ l k. from_covered l (p + 1) k bs) left (gap b) refl)

covered_whole : (text : List ℕ) (r : Result (List Piece) Fault) → Covered 0 text r → Whole text (number_of r)
covered_whole text (Ok xs) h = (xs, refl, h)
covered_whole text (Err e) h = tt

pub tokens_whole : (text : List ℕ) (records : ℕ) → Whole text (number_of (tokens text records))
tokens_whole text records = covered_whole text (tokens text records) (from_covered (min records 4096) 0 0 text zero-le)

pub counted_whole : (text : List ℕ) (records : ℕ) (r : Result ℕ Fault) → r ≡ number_of (tokens text records) → Whole text r
counted_whole text records r e = subst (Whole text) (sym e) (tokens_whole text records)
