-- `pool::move_to` meets its contract: the index is of live nodes still.
use borrow.Author.Rules.{rules}
use Rattle.pool.proofs.MoveLaws.{move_relist, moved}
use Rattle.pool.proofs.move_to.Goals as goal

ruleset laws = (rules, move_relist, moved)

pub returns : goal.returns
returns c = search laws
