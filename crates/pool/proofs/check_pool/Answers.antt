-- `pool::check_pool` meets its contract: the lists first, then the index.
use borrow.Author.Rules.{rules}
use Rattle.pool.proofs.WholeLaws.{pool_no_lists, pool-index}
use Rattle.pool.proofs.check_pool.Goals as goal

ruleset laws = (rules, pool_no_lists, pool-index)

pub returns-then-check_lists : goal.returns-then-check_lists
returns-then-check_lists c = search laws

pub returns-else-check_lists : goal.returns-else-check_lists
returns-else-check_lists c = search laws
