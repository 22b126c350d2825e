-- `store::len_of` meets its contract.
use borrow.Author.Rules.{rules}
use Rattle.store.proofs.KeepsLaws.{length-is}
use Rattle.store.proofs.len_of.Goals as goal

ruleset laws = (rules, length-is)

pub returns : goal.returns
returns c = search laws
