-- `handing::first` meets its contract.
use borrow.Author.Rules.{rules}
use Rattle.handing.proofs.HandOutLaws.{first_out, first_back, back-held, back_some}
use Rattle.handing.proofs.first.Goals as goal

ruleset laws = (rules, first_out, first_back, back-held, back_some)

pub second-requires : goal.second-requires
second-requires c = search laws

pub returns-in-Some : goal.returns-in-Some
returns-in-Some c = search laws

pub returns-in-None : goal.returns-in-None
returns-in-None c = search laws
