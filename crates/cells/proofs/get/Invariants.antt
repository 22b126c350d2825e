-- `cells::get` meets its contract: byte by byte from the last.
use Rattle.cells.proofs.StepsLaws.{ReadDown}
use Rattle.cells.proofs.get.Given as goal

abbrev pub invariant-loop-i : goal.invariant-loop-i
invariant-loop-i g l = ReadDown g.row.W l.s l.at l.i l.v
