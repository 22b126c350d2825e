-- `wire::put_one` meets its contract.
use borrow.Author.Rules.{rules}
use Rattle.wire.proofs.SpliceLaws.{wrote_one}
use Rattle.wire.proofs.put_one.Goals as goal

ruleset laws = (rules, wrote_one)

pub returns : goal.returns
returns c = search laws
