-- `lists::to_front` meets its contract: out of its ring, and to the head of the same.
use borrow.Author.Rules.{rules}
use Rattle.lists.proofs.StoreLaws.{front-unlink, front-link, front-done}
use Rattle.lists.proofs.to_front.Goals as goal

ruleset laws = (rules, front-unlink, front-link, front-done)

pub returns : goal.returns
returns c = search laws
