-- `census::nodes_stand` meets its contract.
use Rattle.census.proofs.StandLaws.{Standing}
use Rattle.census.proofs.nodes_stand.Given as goal

abbrev pub invariant-loop-x : goal.invariant-loop-x
invariant-loop-x l = Standing l.z l.s l.x l.sum l.live l.links
