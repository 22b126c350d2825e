-- `ghosts::take` meets its contract.
use borrow.Author.Rules.{rules}
use Rattle.ghost_list.proofs.HeldLaws.{alone-keyed}
use Rattle.ghosts.proofs.OperationsLaws.{takes_record, takes_remove, takes_oldest}
use Rattle.ghosts.proofs.take.Goals as goal

pub record-requires : goal.record-requires
record-requires c = search (rules, alone-keyed)

pub returns-in-Record : goal.returns-in-Record
returns-in-Record c = search (rules, takes_record)

pub returns-in-Remove : goal.returns-in-Remove
returns-in-Remove c = search takes_remove

pub returns-in-Oldest : goal.returns-in-Oldest
returns-in-Oldest c = search takes_oldest
