-- `store::reattach_main_head` meets its contract.
use borrow.Author.Rules.{rules}
use Rattle.store.proofs.KeepsLaws.{seated_node, seated_move, reattached}
use Rattle.store.proofs.reattach_main_head.Goals as goal

ruleset laws = (rules, seated_node, seated_move, reattached)

pub returns : goal.returns
returns c = search laws
