-- `requests::insert` meets its contract.
use borrow.Author.Rules.{rules}
use Rattle.store.proofs.LookLaws.{looks_ghost_seated, looks_lacks}
use Rattle.requests.proofs.KeyLaws.{resident-node, insert_over}
use Rattle.requests.proofs.InsertLaws.{removed-held, removed_lacks, insert_ghost, insert_absent}
use Rattle.requests.proofs.insert.Goals as goal

ruleset laws = (rules, looks_ghost_seated, looks_lacks, resident-node, insert_over, removed-held, removed_lacks, insert_ghost, insert_absent)

pub entry_at-old-requires : goal.entry_at-old-requires
entry_at-old-requires c = search laws

pub replace-requires : goal.replace-requires
replace-requires c = search laws

pub remove_ghost-requires : goal.remove_ghost-requires
remove_ghost-requires c = search laws

pub arrive-requires : goal.arrive-requires
arrive-requires c = search laws

pub returns-in-Resident : goal.returns-in-Resident
returns-in-Resident c = search laws

pub returns-in-Ghost : goal.returns-in-Ghost
returns-in-Ghost c = search laws

pub returns-in-Absent : goal.returns-in-Absent
returns-in-Absent c = search laws
