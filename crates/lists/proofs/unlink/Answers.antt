-- `lists::unlink` meets its contract: two reads, two writes.
use borrow.Author.Rules.{rules}
use Rattle.lists.proofs.StoreLaws.{unlinked}
use Rattle.lists.proofs.unlink.Goals as goal

ruleset laws = (rules, unlinked)

pub returns : goal.returns
returns c = search laws
