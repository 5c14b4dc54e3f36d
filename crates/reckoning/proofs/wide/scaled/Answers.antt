use Rattle.std.proofs.Common.{◌≡◌, ◌*ℤ◌, to_z-of_z, rules}
use Rattle.reckoning.proofs.Products.{widened, product_fits, quotient_fits}
use Rattle.reckoning.proofs.wide.scaled.Goals as goal

product_is : (c : goal.After-from) → c.product.result ≡ c.args.number *ℤ c.args.factor
product_is c = search rules

divisor_is : (c : goal.After-from) → c.from.result ≡ c.args.divisor
divisor_is c = search rules

pub returns : goal.returns
returns c =
    simp (product_is c, divisor_is c, widened c.ranges.divisor, to_z-of_z (product_fits _ _ c.ranges.number c.ranges.factor))
    (to_z-of_z (quotient_fits _ _ _ c.ranges.number c.ranges.factor))
