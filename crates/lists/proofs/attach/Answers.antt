-- `lists::attach` meets its contract: the length read, the node tagged and linked, the length written.
use borrow.Author.Rules.{rules}
use Rattle.lists.proofs.StoreLaws.{attach_link, attach_done}
use Rattle.lists.proofs.attach.Goals as goal

ruleset laws = (rules, attach_link, attach_done)

pub link-requires-clause-can_link : goal.link-requires-clause-can_link
link-requires-clause-can_link c = search laws

pub returns : goal.returns
returns c = search laws
