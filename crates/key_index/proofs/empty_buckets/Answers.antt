-- `key_index::empty_buckets` meets its contract.
use borrow.Author.Rules.{rules}
use Rattle.key_index.proofs.SetUpLaws.{emptying_start, emptying_next, emptying_end}
use Rattle.key_index.proofs.empty_buckets.Goals as goal

ruleset laws = (rules, emptying_start, emptying_next, emptying_end)

pub loop-b-init : goal.loop-b-init
loop-b-init c = search laws

pub loop-b-preserved : goal.loop-b-preserved
loop-b-preserved c = search laws

pub returns : goal.returns
returns c = search laws
