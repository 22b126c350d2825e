-- `S3FifoCache::settings` meets its contract: the bits of the two constants are the doubles nearest to 1 / 10 and 9 / 10.
use borrow.Author.Rules.{rules}
use lib.Ieee.{of_bits, round}
use Rattle.s3_fifo.proofs.S3FifoCache.settings.Goals as goal

pub returns : goal.returns
unfolding of_bits round
returns c = search rules
