-- `lists::link` meets its contract: one read, four writes.
use borrow.Author.Rules.{rules}
use Rattle.lists.proofs.StoreLaws.{linked}
use Rattle.lists.proofs.link.Goals as goal

ruleset laws = (rules, linked)

pub returns : goal.returns
returns c = search laws
