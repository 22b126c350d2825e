-- `store::detach_to_ghosts` meets its contract.
use borrow.Author.Rules.{rules}
use Rattle.store.proofs.KeepsLaws.{seated_to-ghosts, detached-to-ghosts}
use Rattle.store.proofs.detach_to_ghosts.Goals as goal

ruleset laws = (rules, seated_to-ghosts, detached-to-ghosts)

pub returns : goal.returns
returns c = search laws
