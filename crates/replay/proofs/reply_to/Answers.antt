-- `replay::reply_to` meets its contract.
use borrow.Author.Rules.{rules}
use Rattle.replay.proofs.OutputLaws.{reply_refused, reply_gave}
use Rattle.replay.proofs.reply_to.Goals as goal

ruleset laws = (rules, reply_refused, reply_gave)

pub returns-in-Ok : goal.returns-in-Ok
returns-in-Ok c = search laws

pub returns-in-Err : goal.returns-in-Err
returns-in-Err c = search laws
