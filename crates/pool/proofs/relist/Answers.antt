-- `pool::relist` meets its contract: out of one list, and to the head of another.
use borrow.Author.Rules.{rules}
use Rattle.pool.proofs.RelistLaws.{relist_take, relist_push, relisted}
use Rattle.pool.proofs.relist.Goals as goal

ruleset laws = (rules, relist_take, relist_push, relisted)

pub detach-requires-clause-can_detach : goal.detach-requires-clause-can_detach
detach-requires-clause-can_detach c = search laws

pub attach-requires-clause-can_attach : goal.attach-requires-clause-can_attach
attach-requires-clause-can_attach c = search laws

pub returns : goal.returns
returns c = search laws
