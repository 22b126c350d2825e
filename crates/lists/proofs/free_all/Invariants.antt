-- `lists::free_all` meets its contract: the nodes below x are free.
use Rattle.cells.proofs.TurnsLaws.{Turns}
use Rattle.lists.specs.Fresh.{Fresh}
use Prim.Native.Nat.{◌-◌}
use Rattle.lists.proofs.free_all.Given as goal

abbrev pub invariant-loop-x : goal.invariant-loop-x
invariant-loop-x l = Turns (Fresh l.z l.initial.s) l.z.room l.initial.s l.s l.x

abbrev pub decreases-loop-x : goal.decreases-loop-x
decreases-loop-x l = l.z.room - l.x
