-- `store::tail_of` meets its contract.
use borrow.Author.Rules.{rules}
use Rattle.store.proofs.KeepsLaws.{tail_is}
use Rattle.store.proofs.tail_of.Goals as goal

ruleset laws = (rules, tail_is)

pub returns : goal.returns
returns c = search laws
