-- `lists::rest_ok` meets its contract: what leads home from where the walk stands does so exactly if the whole rest does.
use Prim.Native.Nat.{◌-◌}
use Rattle.lists.specs.Check.{Leads}
use Rattle.lists.specs.Kinds.{number}
use Rattle.lists.proofs.CheckLaws.{Walking}
use Rattle.lists.proofs.rest_ok.Given as goal

abbrev pub invariant-loop : goal.invariant-loop
invariant-loop l = Walking (Leads l.z l.s (number l.t) l.n l.u) l.z l.s (number l.t) (l.n - l.counter) l.at
