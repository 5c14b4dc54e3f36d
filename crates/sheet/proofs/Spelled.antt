-- A record shows the token that it was made of. Assumes nothing.
use Rattle.std.proofs.Common.{◌≡◌, ℕ, zero, suc, ◌+◌, ◌-◌, min, Bool, true, false, cond, not, ◌&&◌, leb, List, [], ◌∷◌, map, length, take, drop, Some, None, Ok, Err, Option, Result, sym, refl, ap, ◌∙◌, subst, ap₂, arith}
use Rattle.std.specs.List.{prefix_len}
use Rattle.tokens.specs.declared.fault.Cause.TheVariants.{Limit}
use Rattle.tokens.specs.declared.fault.Fault.{Fault}
use Rattle.tokens.specs.declared.lexemes.Word.{Word}
use Rattle.tokens.specs.declared.lexemes.Word.TheVariants.{Int, If, Else, While, For, Return}
use Rattle.tokens.specs.declared.lexemes.Sign.{Sign}
use Rattle.tokens.specs.declared.lexemes.Sign.TheVariants.{OpenRound, CloseRound, OpenCurly, CloseCurly, OpenSquare, CloseSquare, Semicolon, Comma, Becomes, Plus, Minus, Star, Slash, Percent, Less, Greater, Bang, AtMost, AtLeast, Equal, NotEqual}
use Rattle.tokens.specs.Tokens.{Lexeme, word, sign, name, number, Measured, Piece, inner, digit, letter, value, needless, kept, named, sized, single, double, short, long, signed, begun, front_of, placed, some_piece, at_place, past_gaps, next, before, tokens}
use Rattle.tokens.proofs.Turns.{onward, follow, step}
use Rattle.grammar.specs.Lexemes.{identifier}
use Rattle.sheet.specs.Nodes.{Node}
use Rattle.sheet.specs.Nodes.{kind_of_word, kind_of_sign, kind_of, record_of, filled, says, part, token_of, tokens_of, said, token, told, meant}

-- A name is so many bytes of the front.
abbrev CutLexeme : List ℕ → ℕ → Lexeme → Type 0
CutLexeme bs n (word w) = Unit {0}
CutLexeme bs n (sign s) = Unit {0}
CutLexeme bs n (name x) = x ≡ take n bs
CutLexeme bs n (number ds v) = Unit {0}

abbrev Cut : List ℕ → Measured → Type 0
Cut bs (Ok x) = CutLexeme bs x.1 x.0
Cut bs (Err e) = Unit {0}

cut_if_short : (bs x : List ℕ) (n : ℕ) → x ≡ take n bs → (b : Bool) → Cut bs (sized n (cond b (Ok (name x)) (Err Limit)))
cut_if_short bs x n is true = is
cut_if_short bs x n is false = tt

named_cut : (bs x : List ℕ) (n : ℕ) → x ≡ take n bs → (o : Option Word) → Cut bs (sized n (named x o))
named_cut bs x n is (Some w) = tt
named_cut bs x n is None = cut_if_short bs x n is (leb (length x) 24)

cut_if_small : (bs ds : List ℕ) (n v : ℕ) (b : Bool) → Cut bs (sized n (cond b (Ok (number ds v)) (Err Limit)))
cut_if_small bs ds n v true = tt
cut_if_small bs ds n v false = tt

short_cut : (bs : List ℕ) (o : Option Sign) → Cut bs (short o)
short_cut bs (Some s) = tt
short_cut bs None = tt

long_cut : (bs : List ℕ) (o : Option Sign) (m : Measured) → Cut bs m → Cut bs (long o m)
long_cut bs (Some s) m h = tt
long_cut bs None m h = h

signed_cut : (b : ℕ) (bs : List ℕ) → Cut (b ∷ bs) (signed b bs)
signed_cut a [] = short_cut (a ∷ []) (single a)
signed_cut a (b ∷ bs) = long_cut (a ∷ b ∷ bs) (double a b) (short (single a)) (short_cut (a ∷ b ∷ bs) (single a))

begun_cut : (t d : Bool) (b : ℕ) (bs : List ℕ) → Cut (b ∷ bs) (begun t d b bs)
begun_cut true d b bs = let x = take (prefix_len inner (b ∷ bs)) (b ∷ bs) in named_cut (b ∷ bs) x (prefix_len inner (b ∷ bs)) refl (kept x)
begun_cut false true b bs = let ds = take (prefix_len digit (b ∷ bs)) (b ∷ bs) in cut_if_small (b ∷ bs) ds (prefix_len digit (b ∷ bs)) (value ds) (leb (value ds) 16383 && not (needless ds))
begun_cut false false b bs = signed_cut b bs

front_cut : (bs : List ℕ) → Cut bs (front_of bs)
front_cut [] = tt
front_cut (b ∷ bs) = begun_cut (letter b) (digit b) b bs

-- A name is what the text has from its place up to its end.
abbrev SpelledLexeme : List ℕ → ℕ → ℕ → Lexeme → Type 0
SpelledLexeme text p e (word w) = Unit {0}
SpelledLexeme text p e (sign s) = Unit {0}
SpelledLexeme text p e (name x) = x ≡ part text p e
SpelledLexeme text p e (number ds v) = Unit {0}

abbrev Spelled : List ℕ → Piece → Type 0
Spelled text x = SpelledLexeme text x.place x.end x.lexeme

cut_spelled : (text bs : List ℕ) (p n : ℕ) → drop p text ≡ bs → (l : Lexeme) → CutLexeme bs n l → SpelledLexeme text p (p + n) l
cut_spelled text bs p n there (word w) h = tt
cut_spelled text bs p n there (sign s) h = tt
cut_spelled text bs p n there (name x) h =
    let long : p + n - p ≡ n = omega arith in
    h ∙ ap (take n) (sym there) ∙ ap (λ k. take k (drop p text)) (sym long)
cut_spelled text bs p n there (number ds v) h = tt

abbrev SpelledNext : List ℕ → Result (Option Piece) Fault → Type 0
SpelledNext text (Ok (Some x)) = Spelled text x
SpelledNext text (Ok None) = Unit {0}
SpelledNext text (Err e) = Unit {0}

placed_spelled : (text bs : List ℕ) (p : ℕ) → drop p text ≡ bs → (m : Measured) → Cut bs m → SpelledNext text (some_piece (placed p m))
placed_spelled text bs p there (Ok x) h = cut_spelled text bs p x.1 there x.0 h
placed_spelled text bs p there (Err e) h = tt

place_spelled : (text : List ℕ) (p : ℕ) (bs : List ℕ) → drop p text ≡ bs → SpelledNext text (at_place p bs)
place_spelled text p [] there = tt
place_spelled text p (b ∷ bs) there = placed_spelled text (b ∷ bs) p there (front_of (b ∷ bs)) (front_cut (b ∷ bs))

next_spelled : (text : List ℕ) (from : ℕ) → SpelledNext text (next text from)
next_spelled text from = place_spelled text (past_gaps text from) (drop (past_gaps text from) text) refl

-- The record of a token shows it.
word_shown : (bs : List ℕ) (w : Word) → says bs (kind_of_word w) ≡ said (word w)
word_shown bs Int = refl
word_shown bs If = refl
word_shown bs Else = refl
word_shown bs While = refl
word_shown bs For = refl
word_shown bs Return = refl

sign_shown : (bs : List ℕ) (s : Sign) → says bs (kind_of_sign s) ≡ said (sign s)
sign_shown bs OpenRound = refl
sign_shown bs CloseRound = refl
sign_shown bs OpenCurly = refl
sign_shown bs CloseCurly = refl
sign_shown bs OpenSquare = refl
sign_shown bs CloseSquare = refl
sign_shown bs Semicolon = refl
sign_shown bs Comma = refl
sign_shown bs Becomes = refl
sign_shown bs Plus = refl
sign_shown bs Minus = refl
sign_shown bs Star = refl
sign_shown bs Slash = refl
sign_shown bs Percent = refl
sign_shown bs Less = refl
sign_shown bs Greater = refl
sign_shown bs Bang = refl
sign_shown bs AtMost = refl
sign_shown bs AtLeast = refl
sign_shown bs Equal = refl
sign_shown bs NotEqual = refl

lexeme_shown : (text : List ℕ) (p e : ℕ) (l : Lexeme) → SpelledLexeme text p e l → says (part text p e) (kind_of l) ≡ said l
lexeme_shown text p e (word w) h = word_shown (part text p e) w
lexeme_shown text p e (sign s) h = sign_shown (part text p e) s
lexeme_shown text p e (name x) h = ap identifier (sym h)
lexeme_shown text p e (number ds v) h = refl

piece_shown : (text : List ℕ) (x : Piece) → Spelled text x → token_of text (record_of x) ≡ token x
piece_shown text x h = λ i. (lexeme_shown text x.place x.end x.lexeme h i, x.place)

abbrev Told : List ℕ → Result (List Piece) Fault → Type 0
Told text r = told text (filled r) ≡ meant r

before_told : (text : List ℕ) (x : Piece) (r : Result (List Piece) Fault) → Spelled text x → Told text r → Told text (before x r)
before_told text x (Ok xs) h ih = let rest : tokens_of text (map record_of xs) ≡ map token xs = cc in ap Ok (ap₂ ◌∷◌ (piece_shown text x h) rest)
before_told text x (Err e) h ih = refl

follow_told : (text : List ℕ) (left : ℕ) (r : Result (Option Piece) Fault) (others : ℕ → ℕ → Result (List Piece) Fault) → SpelledNext text r → ((l from : ℕ) → suc l ≡ left → Told text (others l from)) → Told text (follow left r others)
follow_told text left (Err e) others h ih = refl
follow_told text left (Ok None) others h ih = refl
follow_told text zero (Ok (Some x)) others h ih = refl
follow_told text (suc left) (Ok (Some x)) others h ih = before_told text x (others left x.end) h (ih left x.end refl)

onward_told : (text : List ℕ) (left from : ℕ) → Told text (onward text left from)
onward_told text zero from = subst (Told text) (sym (step text zero from)) (follow_told text zero (next text from) (onward text) (next_spelled text from) (λ l f e. absurd (omega arith)))
onward_told text (suc left) from =
    let ih : (l f : ℕ) → suc l ≡ suc left → Told text (onward text l f) = λ l f e. let same : left ≡ l = omega arith in subst (λ n. Told text (onward text n f)) same (onward_told text left f) in
    subst (Told text) (sym (step text (suc left) from)) (follow_told text (suc left) (next text from) (onward text) (next_spelled text from) ih)

-- What the records of a text's tokens show are its tokens.
pub all_told : (text : List ℕ) (records : ℕ) (x : Result (List Node) Fault) → x ≡ filled (tokens text records) → told text x ≡ meant (tokens text records)
all_told text records x is = ap (told text) is ∙ onward_told text (min records 4096) 0
