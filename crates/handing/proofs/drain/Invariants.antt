-- `handing::drain` meets its contract.
use Rattle.handing.proofs.DrainLaws.{Draining, left}
use Rattle.store.specs.Seats.{queue_kind}
use Rattle.handing.proofs.drain.Given as goal

abbrev pub invariant-loop-z : goal.invariant-loop-z
invariant-loop-z l = Draining l.z l.initial.s l.s (queue_kind l.q)

abbrev pub decreases-loop-z : goal.decreases-loop-z
decreases-loop-z l = left l.z (queue_kind l.q) l.s
