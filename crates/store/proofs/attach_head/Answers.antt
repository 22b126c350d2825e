-- `store::attach_head` meets its contract.
use borrow.Author.Rules.{rules}
use Rattle.store.proofs.KeepsLaws.{attach_fill, attached-head}
use Rattle.store.proofs.attach_head.Goals as goal

ruleset laws = (rules, attach_fill, attached-head)

pub fill-requires-clause-can_fill : goal.fill-requires-clause-can_fill
fill-requires-clause-can_fill c = search laws

pub returns : goal.returns
returns c = search laws
