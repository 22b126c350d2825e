-- `pool::set_up` meets its contract: all nodes free, then all chains empty.
use borrow.Author.Rules.{rules}
use Rattle.pool.proofs.WholeLaws.{laid}
use Rattle.pool.proofs.set_up.Goals as goal

ruleset laws = (rules, laid)

pub returns : goal.returns
returns c = search laws
