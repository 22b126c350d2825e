-- `pool::release` meets its contract: out of the index, and to the free ones.
use borrow.Author.Rules.{rules}
use Rattle.pool.proofs.MoveLaws.{release_index, release_lives, release_relist, released}
use Rattle.pool.proofs.release.Goals as goal

ruleset laws = (rules, release_relist, released)

pub remove-requires : goal.remove-requires
remove-requires c = (search rules, search release_index, search release_lives)

pub relist-requires-clause-can_relist : goal.relist-requires-clause-can_relist
relist-requires-clause-can_relist c = search laws

pub returns : goal.returns
returns c = search laws
