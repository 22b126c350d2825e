-- `key_index::empty_buckets` meets its contract.
use Rattle.key_index.proofs.SetUpLaws.{EmptyingBuckets}
use Rattle.key_index.proofs.empty_buckets.Given as goal

abbrev pub invariant-loop-b : goal.invariant-loop-b
invariant-loop-b l = EmptyingBuckets l.z l.initial.s l.s l.b
