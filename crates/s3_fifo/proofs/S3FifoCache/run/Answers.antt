-- `S3FifoCache::run` meets its contract.
use borrow.Author.Rules.{rules}
use Rattle.s3_fifo.proofs.CallLaws.{called-short, called-damaged, checked-held, turned-away}
use Rattle.s3_fifo.proofs.S3FifoCache.run.Goals as goal

ruleset laws = (rules, called-short, called-damaged, turned-away)

pub returns-then-store-lt-STORE_BYTES : goal.returns-then-store-lt-STORE_BYTES
returns-then-store-lt-STORE_BYTES c = search laws

pub returns-in_err-shape : goal.returns-in_err-shape
returns-in_err-shape c = search laws

pub run_sound-requires : goal.run_sound-requires
run_sound-requires c = (checked-held c.check.ensures c.in_ok-shape.was, search rules, search rules)
