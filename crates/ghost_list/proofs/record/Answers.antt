-- `ghost_list::record` meets its contract.
use borrow.Author.Rules.{rules}
use Rattle.store.proofs.LookLaws.{looks_ghost_seated, looks_lacks}
use Rattle.ghost_list.proofs.GhostLaws.{recorded-zero, recorded-there, not-resident}
use Rattle.ghost_list.proofs.record.Goals as goal

ruleset laws = (rules, looks_ghost_seated, looks_lacks, recorded-zero, recorded-there, not-resident)

pub returns-then-limit_of-eq0 : goal.returns-then-limit_of-eq0
returns-then-limit_of-eq0 c = search laws

pub move_to_front-requires : goal.move_to_front-requires
move_to_front-requires c = search laws

pub returns-in-Ghost : goal.returns-in-Ghost
returns-in-Ghost c = search laws

pub returns-in-Resident : goal.returns-in-Resident
returns-in-Resident c = search laws
