-- `evict::leave` meets its contract.
use borrow.Author.Rules.{rules}
use Rattle.evict.proofs.StepLaws.{leaves-small, leaves-main, tail-small, seated_main}
use Rattle.evict.proofs.leave.Goals as goal

ruleset laws = (rules, leaves-small, leaves-main, tail-small, seated_main)

pub returns-in-Small : goal.returns-in-Small
returns-in-Small c = search laws

pub returns-in-Main : goal.returns-in-Main
returns-in-Main c = search laws
