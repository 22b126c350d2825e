-- `store::move_to_front` meets its contract.
use borrow.Author.Rules.{rules}
use Rattle.store.proofs.KeepsLaws.{ghost_move, fronted}
use Rattle.store.proofs.move_to_front.Goals as goal

ruleset laws = (rules, ghost_move, fronted)

pub returns : goal.returns
returns c = search laws
