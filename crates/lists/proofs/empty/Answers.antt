-- `lists::empty` meets its contract: three writes.
use borrow.Author.Rules.{rules}
use Rattle.lists.proofs.FreshLaws.{empty-done}
use Rattle.lists.proofs.empty.Goals as goal

ruleset laws = (rules, empty-done)

pub returns : goal.returns
returns c = search laws
