-- `carry::lay_out` meets its contract.
use borrow.Author.Rules.{rules}
use Rattle.carry.proofs.FormLaws.{laid_out}
use Rattle.carry.proofs.lay_out.Goals as goal

ruleset laws = (rules, laid_out)

pub returns : goal.returns
returns c = search laws
