-- `ghost_list::clear` meets its contract.
use Rattle.ghost_list.proofs.GhostLaws.{Clearing, ghosts_left}
use Rattle.ghost_list.proofs.clear.Given as goal

abbrev pub invariant-loop-z : goal.invariant-loop-z
invariant-loop-z l = Clearing l.z l.initial.s l.s

abbrev pub decreases-loop-z : goal.decreases-loop-z
decreases-loop-z l = ghosts_left l.z l.s
