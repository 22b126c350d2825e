-- `runs::run_from` meets its contract.
use Rattle.runs.proofs.RunLaws.{Midway}
use Prim.Native.Nat.{◌-◌}
use lib.ListN.{length}
use Rattle.runs.proofs.run_from.Given as goal

abbrev pub invariant-loop-q : goal.invariant-loop-q
invariant-loop-q l = Midway l.z l.initial.store l.store l.requests l.at l.initial.replies l.replies l.out l.from l.end

abbrev pub decreases-loop-q : goal.decreases-loop-q
decreases-loop-q l = length l.requests - l.from
