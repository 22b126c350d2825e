-- `store::push_front` meets its contract.
use borrow.Author.Rules.{rules}
use Rattle.store.proofs.KeepsLaws.{push_fill, pushed_front}
use Rattle.store.proofs.push_front.Goals as goal

ruleset laws = (rules, push_fill, pushed_front)

pub fill-requires-clause-can_fill : goal.fill-requires-clause-can_fill
fill-requires-clause-can_fill c = search laws

pub returns : goal.returns
returns c = search laws
