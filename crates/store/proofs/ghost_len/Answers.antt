-- `store::ghost_len` meets its contract.
use borrow.Author.Rules.{rules}
use Rattle.store.proofs.KeepsLaws.{ghosts-are}
use Rattle.store.proofs.ghost_len.Goals as goal

ruleset laws = (rules, ghosts-are)

pub returns : goal.returns
returns c = search laws
