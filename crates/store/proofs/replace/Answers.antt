-- `store::replace` meets its contract.
use borrow.Author.Rules.{rules}
use Rattle.store.proofs.KeepsLaws.{value_replaced}
use Rattle.store.proofs.replace.Goals as goal

ruleset laws = (rules, value_replaced)

pub returns : goal.returns
returns c = search laws
