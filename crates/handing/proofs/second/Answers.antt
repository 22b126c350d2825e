-- `handing::second` meets its contract.
use borrow.Author.Rules.{rules}
use Rattle.handing.proofs.HandOutLaws.{second-out, second_back}
use Rattle.handing.proofs.second.Goals as goal

ruleset laws = (rules, second-out, second_back)

pub returns-in-Some : goal.returns-in-Some
returns-in-Some c = search laws

pub returns-in-None : goal.returns-in-None
returns-in-None c = search laws
