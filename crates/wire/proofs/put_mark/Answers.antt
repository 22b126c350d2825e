-- `wire::put_mark` meets its contract.
use borrow.Author.Rules.{rules}
use Rattle.wire.proofs.SpliceLaws.{wrote-mark}
use Rattle.wire.proofs.put_mark.Goals as goal

ruleset laws = (rules, wrote-mark)

pub returns : goal.returns
returns c = search laws
