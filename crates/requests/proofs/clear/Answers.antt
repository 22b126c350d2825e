-- `requests::clear` meets its contract.
use borrow.Author.Rules.{rules}
use Rattle.requests.proofs.ClearLaws.{clears}
use Rattle.requests.proofs.clear.Goals as goal

ruleset laws = (rules, clears)

pub returns : goal.returns
returns c = search laws
