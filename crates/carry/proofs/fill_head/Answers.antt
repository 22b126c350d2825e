-- `carry::fill_head` meets its contract.
use borrow.Author.Rules.{rules}
use Rattle.carry.proofs.HeadsLaws.{filled}
use Rattle.carry.proofs.fill_head.Goals as goal

ruleset laws = (rules, filled)

pub returns : goal.returns
returns c = search laws
