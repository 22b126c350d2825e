-- `lists::check_lists` meets its contract: the lengths first, then the walks.
use borrow.Author.Rules.{rules}
use Rattle.lists.proofs.CheckLaws.{listed}
use Rattle.lists.proofs.check_lists.Goals as goal

ruleset laws = (rules, listed)

pub returns-then-counted : goal.returns-then-counted
returns-then-counted c = search laws
