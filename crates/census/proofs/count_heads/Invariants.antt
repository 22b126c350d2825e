-- `census::count_heads` meets its contract.
use Rattle.nodes.specs.Nodes.{cols}
use Rattle.census.specs.Check.{leads}
use Rattle.census.proofs.CountLaws.{CountedTo}
use Rattle.census.proofs.count_heads.Given as goal

abbrev pub invariant-loop-b : goal.invariant-loop-b
invariant-loop-b l = CountedTo (leads l.z (cols l.z l.s)) l.z.buckets l.b l.count
