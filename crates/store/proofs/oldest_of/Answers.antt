-- `store::oldest_of` meets its contract.
use borrow.Author.Rules.{rules}
use Rattle.store.proofs.KeepsLaws.{oldest_is}
use Rattle.store.proofs.oldest_of.Goals as goal

ruleset laws = (rules, oldest_is)

pub returns : goal.returns
returns c = search laws
