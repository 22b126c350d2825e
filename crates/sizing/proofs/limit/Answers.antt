-- `sizing::limit` meets its contract: the capacity is a float exactly, and the product is no NaN.
use borrow.Author.Rules.{rules}
use lib.Ieee.{in_float}
use Rattle.rules.specs.Sizing.{product}
use Rattle.sizing.proofs.ProductsLaws.{product_no_nan}
use Rattle.sizing.proofs.limit.Goals as goal

ruleset laws = (rules, product_no_nan)

pub round_half_up-requires : goal.round_half_up-requires
unfolding in_float product
round_half_up-requires c = search laws

pub returns : goal.returns
unfolding product
returns c = c.round_half_up.ensures
