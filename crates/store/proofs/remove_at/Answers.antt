-- `store::remove_at` meets its contract.
use borrow.Author.Rules.{rules}
use Rattle.store.proofs.KeepsLaws.{seated_release, entry-removed}
use Rattle.store.proofs.remove_at.Goals as goal

ruleset laws = (rules, seated_release, entry-removed)

pub returns : goal.returns
returns c = search laws
