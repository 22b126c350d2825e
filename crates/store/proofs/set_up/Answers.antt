-- `store::set_up` meets its contract.
use borrow.Author.Rules.{rules}
use Rattle.store.proofs.HoldsLaws.{room_for}
use Rattle.store.proofs.CreatedLaws.{limited-room, created}
use Rattle.store.proofs.set_up.Goals as goal

ruleset laws = (rules, room_for, limited-room, created)

pub returns : goal.returns
returns c = search laws
