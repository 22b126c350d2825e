-- `requests::arrive` meets its contract.
use borrow.Author.Rules.{rules}
use Rattle.requests.proofs.InsertLaws.{can_attach, arrived}
use Rattle.requests.proofs.arrive.Goals as goal

ruleset laws = (rules, can_attach, arrived)

pub attach_head-requires : goal.attach_head-requires
attach_head-requires c = search laws
