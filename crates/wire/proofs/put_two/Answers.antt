-- `wire::put_two` meets its contract.
use borrow.Author.Rules.{rules}
use Rattle.wire.proofs.SpliceLaws.{one-fits, wrote-two}
use Rattle.wire.proofs.put_two.Goals as goal

ruleset laws = (rules, one-fits, wrote-two)

pub put_number-requires : goal.put_number-requires
put_number-requires c = search laws

pub returns : goal.returns
returns c = search laws
