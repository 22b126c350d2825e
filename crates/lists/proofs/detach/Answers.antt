-- `lists::detach` meets its contract: the length read, the node unlinked, the length written.
use borrow.Author.Rules.{rules}
use Rattle.lists.proofs.StoreLaws.{detach_unlink, detach_done}
use Rattle.lists.proofs.detach.Goals as goal

ruleset laws = (rules, detach_unlink, detach_done)

pub returns : goal.returns
returns c = search laws
