-- `s3_fifo::run_sound` meets its contract.
use borrow.Author.Rules.{rules}
use Rattle.s3_fifo.proofs.CallLaws.{survey-ready, called-bad, called-room, called-ran}
use Rattle.s3_fifo.proofs.run_sound.Goals as goal

ruleset laws = (rules, called-bad, called-room, called-ran)

pub returns-then-replies-room : goal.returns-then-replies-room
returns-then-replies-room c = search laws

pub run_from-requires-clause-has_room : goal.run_from-requires-clause-has_room
run_from-requires-clause-has_room c = search survey-ready

pub returns-in-Unknown : goal.returns-in-Unknown
returns-in-Unknown c = search laws

pub returns-else-replies-room : goal.returns-else-replies-room
returns-else-replies-room c = search laws
