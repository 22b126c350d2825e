-- `cells::put` meets its contract: byte by byte from the first.
use Rattle.cells.proofs.StepsLaws.{WrittenUp}
use Rattle.cells.proofs.put.Given as goal

abbrev pub invariant-loop-i : goal.invariant-loop-i
invariant-loop-i g l = WrittenUp g.row.W l.initial.s l.s l.at l.v l.i l.rest
