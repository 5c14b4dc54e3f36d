-- Worked examples of the definitions: each line has what they give, and what that should be. Assumes nothing.
use Rattle.std.specs.Prelude.{◌≡◌, ℕ, List, [], ◌∷◌, map, ℤ, pos, neg_ℤ, Some, None, Ok, Err, Option, Result}
use Rattle.reckoning.specs.declared.base.Comparison.TheVariants.{Less, AtLeast}
use Rattle.reckoning.specs.declared.base.Stop.{Stop}
use Rattle.reckoning.specs.declared.in_weights.Weight.{Weight}
use Rattle.reckoning.specs.Meaning.{Meaning, number}
use Rattle.reckoning.specs.Counts.{counts_meaning}
use Rattle.reckoning.specs.Weights.{weights_meaning, weight}

-- a count or a weight's thousandths, a stop by its number, a place or none
pub data Answer : Type 0 where
  is : ℤ → Answer
  stops : ℕ → Answer
  at : ℕ → Answer
  nowhere : Answer

abbrev counting : Result ℤ Stop → Answer
counting (Ok z) = is z
counting (Err s) = stops (number s)

abbrev weighing : Result Weight Stop → Answer
weighing (Ok w) = is w.thousandths
weighing (Err s) = stops (number s)

abbrev placing : Option ℕ → Answer
placing (Some n) = at n
placing None = nowhere

abbrev minus : ℕ → ℤ
minus n = neg_ℤ (pos n)

abbrev C : Meaning ℤ
C = counts_meaning

abbrev W : Meaning Weight
W = weights_meaning

abbrev pub examples : List (Answer × Answer)
examples =
    (counting (C.divide (minus 7) (pos 2)), is (minus 3))
    ∷ (counting (C.remainder (minus 7) (pos 2)), is (minus 1))
    ∷ (counting (C.remainder (pos 7) (minus 2)), is (pos 1))
    ∷ (counting (C.divide (minus 2147483648) (minus 1)), stops 45)
    ∷ (counting (C.remainder (minus 2147483648) (minus 1)), is (pos 0))
    ∷ (counting (C.add (pos 2147483647) (pos 1)), stops 45)
    ∷ (counting (C.divide (pos 5) (pos 0)), stops 46)
    ∷ (counting (C.remainder (pos 5) (pos 0)), stops 46)
    ∷ (counting (C.negate (minus 2147483648)), stops 45)
    ∷ (counting (C.compare Less (minus 1) (pos 0)), is (pos 1))
    ∷ (placing (C.place (pos 16383)), at 16383)
    ∷ (placing (C.place (pos 16384)), nowhere)
    ∷ (placing (C.place (minus 1)), nowhere)
    ∷ (weighing (W.divide (W.whole 2) (W.whole 3)), is (pos 666))
    ∷ (weighing (W.divide (weight (minus 2000)) (W.whole 3)), is (minus 666))
    ∷ (weighing (W.multiply (weight (pos 1)) (weight (pos 500))), is (pos 0))
    ∷ (weighing (W.add (weight (pos 2000000000)) (weight (pos 1))), stops 45)
    ∷ (weighing (W.subtract (weight (pos 2000000001)) (weight (pos 1))), is (pos 1999999999))
    ∷ (weighing (W.divide (W.whole 5) (W.whole 0)), stops 46)
    ∷ (weighing (W.remainder (weight (minus 2500)) (W.whole 1)), is (minus 500))
    ∷ (weighing (W.compare AtLeast (weight (pos 1)) (W.whole 0)), is (pos 1000))
    ∷ (placing (W.place (weight (pos 500))), nowhere)
    ∷ (placing (W.place (W.whole 3)), at 3)
    ∷ (placing (W.place (W.whole 16383)), at 16383)
    ∷ (placing (W.place (W.whole 16384)), nowhere)
    ∷ []

abbrev pub Agree : Type 0
Agree = map (λ e. e.0) examples ≡ map (λ e. e.1) examples
