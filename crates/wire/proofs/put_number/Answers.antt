-- `wire::put_number` meets its contract.
use borrow.Author.Rules.{rules}
use Rattle.wire.proofs.SpliceLaws.{wrote-number}
use Rattle.wire.proofs.put_number.Goals as goal

ruleset laws = (rules, wrote-number)

pub returns : goal.returns
returns c = search laws
