-- `s3_fifo::refusal_of_long` meets its contract.
use borrow.Author.Rules.{rules}
use Rattle.s3_fifo.proofs.CallLaws.{long-damaged, long-sound}
use Rattle.s3_fifo.proofs.refusal_of_long.Goals as goal

ruleset laws = (rules, long-damaged, long-sound)

pub returns-in-Err : goal.returns-in-Err
returns-in-Err c = search laws

pub returns-in-Ok : goal.returns-in-Ok
returns-in-Ok c = search laws
