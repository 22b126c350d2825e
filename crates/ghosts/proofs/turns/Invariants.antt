-- `ghosts::turns` meets its contract: the list that there is stands in the store.
use mathlib.Core.Path.{◌≡◌}
use lib.ListN.{length}
use Rattle.std.specs.Prelude.{IfSome}
use Rattle.ghost_list.specs.Ghosts.{GhostsAlone}
use Rattle.ghosts.proofs.turns.Given as goal

abbrev pub invariant-loop-record : goal.invariant-loop-record
invariant-loop-record g l = (length l.s ≡ length l.initial.s) × IfSome l.list (λ z. GhostsAlone z l.s)
