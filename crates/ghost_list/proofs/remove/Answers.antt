-- `ghost_list::remove` meets its contract.
use borrow.Author.Rules.{rules}
use Rattle.store.proofs.LookLaws.{looks_ghost_seated}
use Rattle.ghost_list.proofs.GhostLaws.{took_there, took_elsewhere}
use Rattle.ghost_list.proofs.remove.Goals as goal

ruleset laws = (rules, looks_ghost_seated, took_there, took_elsewhere)

pub remove_ghost-requires : goal.remove_ghost-requires
remove_ghost-requires c = search laws

pub returns-in_default : goal.returns-in_default
returns-in_default c = search laws

pub returns : goal.returns
returns c = search laws
