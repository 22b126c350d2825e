-- `lists::free_all` meets its contract: the nodes below x are free.
use borrow.Author.Rules.{rules}
use Rattle.lists.proofs.FreshLaws.{freeing_start, freeing_push, freeing_next, freeing_end}
use Rattle.lists.proofs.free_all.Goals as goal

ruleset laws = (rules, freeing_start, freeing_push, freeing_next, freeing_end)

pub attach-requires-clause-can_attach : goal.attach-requires-clause-can_attach
attach-requires-clause-can_attach c = search laws

pub loop-x-preserved : goal.loop-x-preserved
loop-x-preserved c = search laws
