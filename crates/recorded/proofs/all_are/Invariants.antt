-- `recorded::all_are`: the bytes so far are the one byte.
use Rattle.std.proofs.Common.{◌≡◌, ◌==◌, true}
use lib.ListN.{take}
use Rattle.std.specs.List.{list_all}
use Rattle.recorded.proofs.all_are.Given as goal

abbrev pub invariant-loop-i : goal.invariant-loop-i
invariant-loop-i l = list_all (λ b. b == l.byte) (take l.i l.s) ≡ true
