-- `ghost_list::record_new` meets its contract.
use borrow.Author.Rules.{rules}
use Rattle.ghost_list.proofs.GhostLaws.{can_push, recorded-new}
use Rattle.ghost_list.proofs.record_new.Goals as goal

ruleset laws = (rules, can_push, recorded-new)

pub push_front-requires : goal.push_front-requires
push_front-requires c = search laws

pub returns : goal.returns
returns c = search laws
