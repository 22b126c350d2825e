-- `replay::reply_read` meets its contract.
use borrow.Author.Rules.{rules}
use Rattle.replay.proofs.WrittenLaws.{answers_read}
use Rattle.replay.proofs.reply_read.Goals as goal

pub returns-clause-wrote : goal.returns-clause-wrote
returns-clause-wrote g c =
    answers_read _ _ c.try_read_full.new.buf c.in_ok-n.n (search rules) c.in_ok-n.ensures.upper_bound c.in_ok-n.ensures.bytes c.in_ok-n.ensures.end
    c.reply_within.ensures.wrote
