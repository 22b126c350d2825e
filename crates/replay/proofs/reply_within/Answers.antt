-- `replay::reply_within` meets its contract.
use borrow.Author.Rules.{rules}
use Rattle.replay.proofs.WrittenLaws.{reply_read, reply_fits}
use Rattle.replay.proofs.reply_within.Goals as goal

ruleset laws = (rules, reply_read, reply_fits)

pub returns-clause-wrote : goal.returns-clause-wrote
returns-clause-wrote c = search laws

pub returns-clause-upper_bound : goal.returns-clause-upper_bound
returns-clause-upper_bound c = search laws
