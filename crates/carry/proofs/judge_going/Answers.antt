-- `carry::judge_going` meets its contract: it says of the bytes kept what is read of them.
use borrow.Author.Rules.{rules}
use Rattle.carry.proofs.CarriesLaws.{goes-known, goes-unknown, goes_cut}
use Rattle.carry.proofs.judge_going.Goals as goal

ruleset laws = (rules, goes-known, goes-unknown, goes_cut)

pub returns-in-Ok : goal.returns-in-Ok
returns-in-Ok c = search laws

pub returns-in-Unknown : goal.returns-in-Unknown
returns-in-Unknown c = search laws

pub returns-in-Cut : goal.returns-in-Cut
returns-in-Cut c = search laws
