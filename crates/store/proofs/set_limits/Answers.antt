-- `store::set_limits` meets its contract.
use borrow.Author.Rules.{rules}
use Rattle.store.specs.Created.{limited}
use Rattle.store.proofs.set_limits.Goals as goal

pub returns : goal.returns
unfolding limited
returns c = search rules
