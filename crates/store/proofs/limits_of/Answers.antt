-- `store::limits_of` meets its contract.
use borrow.Author.Rules.{rules}
use Rattle.store.proofs.HoldsLaws.{stated}
use Rattle.store.proofs.limits_of.Goals as goal

ruleset laws = (rules, stated)

pub returns : goal.returns
returns c = search laws
