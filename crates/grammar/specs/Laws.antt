-- What is proved of parsing. Assumes nothing.
use Rattle.std.specs.Prelude.{◌≡◌, ℕ, suc, ◌<◌, ◌≤◌, ◌⊎◌, List, length, take}
use Rattle.language.specs.Tree.{Sheet}
use Rattle.grammar.specs.Lexemes.{Token}
use Rattle.grammar.specs.Words.{Spells, IsSheet, Begins}
use Rattle.grammar.specs.Parsing.{accepted, refused, verdict}
use Rattle.grammar.specs.Limits.{right, wrong, judgement, Deep}

-- What is accepted is spelled by its tree, which is well-formed.
abbrev pub Sound : Type 0
Sound = (ts : List Token) (u : Sheet) → verdict ts ≡ accepted u → Spells ts u

-- The tokens of a well-formed tree are accepted with this tree.
abbrev pub Complete : Type 0
Complete = (ts : List Token) (u : Sheet) → Spells ts u → verdict ts ≡ accepted u

-- Tokens have at most one tree.
abbrev pub Unique : Type 0
Unique = (ts : List Token) (u v : Sheet) → Spells ts u → Spells ts v → u ≡ v

-- Where a token is refused, some sheet begins with those before it, and none with those and it.
abbrev pub RefusesFirst : Type 0
RefusesFirst = (ts : List Token) (i : ℕ) → verdict ts ≡ refused i → i < length ts → Begins (take i ts) × ¬ (Begins (take (suc i) ts))

-- A refusal that is at no token is at the end: the tokens begin some sheet, and are none.
abbrev pub RefusesEnd : Type 0
RefusesEnd = (ts : List Token) (i : ℕ) → verdict ts ≡ refused i → length ts ≤ i → (i ≡ length ts) × Begins ts × ¬ (IsSheet ts)

-- What is accepted within the limits is what is accepted and nowhere too deep.
abbrev pub WithinLimits : Type 0
WithinLimits = (ts : List Token) (u : Sheet) → judgement ts ≡ right u → (verdict ts ≡ accepted u) × ((j : ℕ) → ¬ (Deep (take j ts)))

abbrev pub AcceptsShallow : Type 0
AcceptsShallow = (ts : List Token) (u : Sheet) → verdict ts ≡ accepted u → ((j : ℕ) → ¬ (Deep (take j ts))) → judgement ts ≡ right u

-- A refusal has number 6 or 7.
abbrev pub SixOrSeven : Type 0
SixOrSeven = (ts : List Token) (n i : ℕ) → judgement ts ≡ wrong n i → (n ≡ 6) ⊎ (n ≡ 7)

-- 6: the grammar refuses there, and no token before is too deep.
abbrev pub RefusesSix : Type 0
RefusesSix = (ts : List Token) (i : ℕ) → judgement ts ≡ wrong 6 i → (verdict ts ≡ refused i) × ((j : ℕ) → j ≤ i → ¬ (Deep (take j ts)))

-- 7: some sheet begins with the tokens up to that one, and it is the first that is too deep.
abbrev pub RefusesSeven : Type 0
RefusesSeven = (ts : List Token) (i : ℕ) → judgement ts ≡ wrong 7 i → (i < length ts) × Begins (take (suc i) ts) × Deep (take (suc i) ts) × ((j : ℕ) → j ≤ i → ¬ (Deep (take j ts)))

pub record GrammarLaws : Type 0 where
  pub sound : Sound
  pub complete : Complete
  pub unique : Unique
  pub refuses_first : RefusesFirst
  pub refuses_end : RefusesEnd
  pub within_limits : WithinLimits
  pub accepts_shallow : AcceptsShallow
  pub six_or_seven : SixOrSeven
  pub refuses_six : RefusesSix
  pub refuses_seven : RefusesSeven
