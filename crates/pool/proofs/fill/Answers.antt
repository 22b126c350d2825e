-- `pool::fill` meets its contract: the newest free node gets the entry, and goes to the head of its list.
use borrow.Author.Rules.{rules}
use Rattle.pool.proofs.FillLaws.{fill_joins, fill_relist, filled}
use Rattle.pool.proofs.fill.Goals as goal

ruleset laws = (rules, fill_joins, fill_relist, filled)

pub enter-requires : goal.enter-requires
enter-requires c = search laws

pub relist-requires-clause-can_relist : goal.relist-requires-clause-can_relist
relist-requires-clause-can_relist c = search laws

pub returns : goal.returns
returns c = search laws
