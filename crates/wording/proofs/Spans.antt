-- Words by the white space in front of a line and the bytes up to the next. Assumes nothing.
use Rattle.std.proofs.Common.{◌≡◌, ℕ, suc, ◌+◌, ◌<◌, Bool, true, false, not, List, [], ◌∷◌, length, take, drop, Some, None, Option, cond, ltb, ltb-false, sym, refl, ap, ◌∙◌, true≢false, arith, tests, rules}
use Rattle.std.specs.Char.{is_ascii_whitespace}
use Rattle.std.specs.List.{prefix_len, position, position_or_len}
use Rattle.std.specs.Option.{unwrap_or}
use Rattle.std.proofs.lemmas.List.Sums.{prefix_len-le-length}
use Rattle.std.specs.Str.{IsTrimAsciiStart}
use Rattle.std.proofs.lemmas.Str.Ascii.{trim_ascii_start_is}
use Rattle.wording.specs.Pieces.{begin, white, ends, words}

one_more : (n : ℕ) → 1 + n ≡ suc n
one_more n = omega arith

white_is : (b : ℕ) → white b ≡ is_ascii_whitespace b
white_is b = search (rules, tests)

-- up to the white space in front, and up to the next
abbrev pub start : List ℕ → ℕ
start t = prefix_len is_ascii_whitespace t

abbrev pub end : List ℕ → ℕ
end t = position_or_len is_ascii_whitespace t

pub words_skip : (t : List ℕ) → words t ≡ words (drop (start t) t)
words_skip [] = refl
words_skip (b ∷ bs) = by (is_ascii_whitespace b) refl (words_skip bs)
  where
    by : (v : Bool) → is_ascii_whitespace b ≡ v → words bs ≡ words (drop (start bs) bs) → words (b ∷ bs) ≡ words (drop (start (b ∷ bs)) (b ∷ bs))
    by true e h = rw (white_is b, e, one_more (start bs)) h
    by false e h = rw e refl

pub words_trimmed : (t u : List ℕ) → IsTrimAsciiStart t u → words t ≡ words u
words_trimmed t u h = words_skip t ∙ ap words (sym (trim_ascii_start_is t u h))

-- what stands after the white space in front is empty or begins with a word
begun : (t : List ℕ) → 0 < length (drop (start t) t) → ends (drop (start t) t) ≡ false
begun [] h = absurd (omega arith)
begun (b ∷ bs) h = by (is_ascii_whitespace b) refl h (begun bs)
  where
    by : (v : Bool) → is_ascii_whitespace b ≡ v → 0 < length (drop (start (b ∷ bs)) (b ∷ bs)) → (0 < length (drop (start bs) bs) → ends (drop (start bs) bs) ≡ false) → ends (drop (start (b ∷ bs)) (b ∷ bs)) ≡ false
    by true e h k = rw (e, one_more (start bs)) (k (rw (e, one_more (start bs)) at h))
    by false e h k = rw e (white_is b ∙ e)

end_none : (t : List ℕ) → ends t ≡ true → end t ≡ 0
end_none [] e = refl
end_none (b ∷ bs) e = rw (sym (white_is b) ∙ e) refl

pub words_front : (t : List ℕ) → ends t ≡ false → words t ≡ take (end t) t ∷ words (drop (end t) t)
words_front [] e = absurd (true≢false e)
words_front (b ∷ bs) e = by (ends bs) refl (words_front bs)
  where
    by : (v : Bool) → ends bs ≡ v → (ends bs ≡ false → words bs ≡ take (end bs) bs ∷ words (drop (end bs) bs)) → words (b ∷ bs) ≡ take (end (b ∷ bs)) (b ∷ bs) ∷ words (drop (end (b ∷ bs)) (b ∷ bs))
    by true f h = rw (sym (white_is b) ∙ e, e, f, one_more (end bs), end_none bs f) refl
    by false f h = rw (sym (white_is b) ∙ e, e, f, one_more (end bs)) (ap (begin b) (h f))

-- the place of the next white space, or the length
pub or_all : (t : List ℕ) (n : ℕ) (o : Option ℕ) → o ≡ position is_ascii_whitespace t → n ≡ unwrap_or o (length t) → n ≡ end t
or_all t n o p e = by (ltb (end t) (length t)) refl (e ∙ ap (λ o. unwrap_or o (length t)) p)
  where
    by : (v : Bool) → ltb (end t) (length t) ≡ v → n ≡ unwrap_or (cond v (Some (end t)) None) (length t) → n ≡ end t
    by true f h = h
    by false f h = grind (arith, f, h, prefix_len-le-length (λ x. not (is_ascii_whitespace x)) t, ltb-false (end t) (length t) f)

-- the first word, and the words after it
pub words_cut : (t u : List ℕ) (n : ℕ) → IsTrimAsciiStart t u → 0 < length u → n ≡ end u → words t ≡ take n u ∷ words (drop n u)
words_cut t u n h l e =
    let is = trim_ascii_start_is t u h in
    rw e (words_trimmed t u h ∙ words_front u (rw is (begun t (rw is at l))))
