-- `s3_fifo::feed_sound` meets its contract.
use borrow.Author.Rules.{rules}
use Rattle.s3_fifo.proofs.FeedLaws.{stopped-long, stopped-before, going_sub, going_over, going_long, going_brings, going_within, going-fed}
use Rattle.s3_fifo.proofs.feed_sound.Goals as goal

ruleset laws = (rules, stopped-long, stopped-before, going_sub, going_over, going_long, going_brings, going_within, going-fed)

pub returns-then-piece-gt-MOST_REQUEST_BYTES : goal.returns-then-piece-gt-MOST_REQUEST_BYTES
returns-then-piece-gt-MOST_REQUEST_BYTES c = search laws

pub overflow_sub-offset-in-Going : goal.overflow_sub-offset-in-Going
overflow_sub-offset-in-Going c = search laws

pub returns-then-offset-count : goal.returns-then-offset-count
returns-then-offset-count c = search laws

pub returns-then-piece-gt-MOST_REQUEST_BYTES-2 : goal.returns-then-piece-gt-MOST_REQUEST_BYTES-2
returns-then-piece-gt-MOST_REQUEST_BYTES-2 c = search laws

pub feed_going-requires : goal.feed_going-requires
feed_going-requires c = search laws

pub returns-else-piece-gt-MOST_REQUEST_BYTES : goal.returns-else-piece-gt-MOST_REQUEST_BYTES
returns-else-piece-gt-MOST_REQUEST_BYTES c = search laws

pub returns-else-piece-gt-MOST_REQUEST_BYTES-2 : goal.returns-else-piece-gt-MOST_REQUEST_BYTES-2
returns-else-piece-gt-MOST_REQUEST_BYTES-2 c = search laws
