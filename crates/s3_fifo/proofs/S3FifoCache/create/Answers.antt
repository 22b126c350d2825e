-- `S3FifoCache::create` meets its contract.
use borrow.Author.Rules.{rules}
use Rattle.s3_fifo.proofs.CreateLaws.{create-refused, create-fine, create-short, create-made}
use Rattle.s3_fifo.proofs.S3FifoCache.create.Goals as goal

ruleset laws = (rules, create-refused, create-made)

pub returns-in_err-limits : goal.returns-in_err-limits
returns-in_err-limits c = search laws

pub set_up-requires : goal.set_up-requires
set_up-requires c = (create-fine c.args.settings c.size.ensures c.in_ok-limits.was, search rules)

pub returns-then-store-ge-STORE_BYTES : goal.returns-then-store-ge-STORE_BYTES
returns-then-store-ge-STORE_BYTES c = search laws

pub returns-else-store-ge-STORE_BYTES : goal.returns-else-store-ge-STORE_BYTES
returns-else-store-ge-STORE_BYTES c = create-short c.args.settings c.size.ensures c.in_ok-limits.was c.if-store-ge-STORE_BYTES.false
