-- `S3FifoCache::feed` meets its contract.
use mathlib.Core.Path.{subst}
use borrow.Author.Rules.{rules}
use Rattle.carry.specs.Carries.{Brings}
use Rattle.s3_fifo.proofs.CallLaws.{checked-held}
use Rattle.s3_fifo.proofs.FeedLaws.{fed-short, fed-damaged, fed-unfit}
use Rattle.s3_fifo.proofs.S3FifoCache.feed.Goals as goal

ruleset laws = (rules, fed-short, fed-damaged, fed-unfit)

pub returns-then-store-lt-STORE_BYTES : goal.returns-then-store-lt-STORE_BYTES
returns-then-store-lt-STORE_BYTES c = search laws

pub returns-in_err-z : goal.returns-in_err-z
returns-in_err-z c = search laws

pub returns-in_err-brought : goal.returns-in_err-brought
returns-in_err-brought c = search (laws, checked-held c.check.ensures c.in_ok-z.was)

pub feed_sound-requires : goal.feed_sound-requires
feed_sound-requires c = (checked-held c.check.ensures c.in_ok-z.was, search rules, subst (Brings _) c.in_ok-brought.was c.read-brought.ensures)
