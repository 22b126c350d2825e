-- `lists::empty_all` meets its contract: the four lists, one after the other.
use borrow.Author.Rules.{rules}
use Rattle.lists.proofs.FreshLaws.{emptied_all}
use Rattle.lists.proofs.empty_all.Goals as goal

ruleset laws = (rules, emptied_all)

pub returns : goal.returns
returns c = search laws
