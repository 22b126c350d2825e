-- `store::remove_ghost` meets its contract.
use borrow.Author.Rules.{rules}
use Rattle.store.proofs.KeepsLaws.{ghost_release, ghost_removed}
use Rattle.store.proofs.remove_ghost.Goals as goal

ruleset laws = (rules, ghost_release, ghost_removed)

pub returns : goal.returns
returns c = search laws
