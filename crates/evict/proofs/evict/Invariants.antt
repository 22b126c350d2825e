-- `evict::evict` meets its contract.
use Rattle.evict.proofs.LoopLaws.{Going, heat}
use Rattle.evict.proofs.evict.Given as goal

abbrev pub invariant-loop-z : goal.invariant-loop-z
invariant-loop-z l = Going l.z l.initial.s l.s l.pops

abbrev pub decreases-loop-z : goal.decreases-loop-z
decreases-loop-z l = heat l.z l.s
