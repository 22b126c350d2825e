-- `wire::find_row` meets its contract: the rows passed so far have another mark.
use Rattle.wire.proofs.SpotLaws.{Seeking}
use Rattle.wire.proofs.find_row.Given as goal

abbrev pub invariant-loop-i : goal.invariant-loop-i
invariant-loop-i l = Seeking l.s l.at l.i
