-- `census::walk` meets its contract.
use Prim.Native.Nat.{◌-◌}
use Rattle.census.proofs.CheckLaws.{Walks}
use Rattle.census.proofs.walk.Given as goal

abbrev pub invariant-loop-at : goal.invariant-loop-at
invariant-loop-at l = Walks l.z l.s l.b l.h l.at l.count

abbrev pub decreases-loop-at : goal.decreases-loop-at
decreases-loop-at l = l.z.room - l.count
