-- `lists::pair_ok` meets its contract: of each list, what leads home from where its walk stands does so exactly if the whole list does.
use Prim.Native.Nat.{◌-◌}
use Rattle.lists.specs.Kinds.{number}
use Rattle.lists.proofs.CheckLaws.{Pairing}
use Rattle.lists.proofs.pair_ok.Given as goal

abbrev pub invariant-loop : goal.invariant-loop
invariant-loop l = Pairing l.z l.s (number l.t) (number l.v) (l.a - l.counter) (l.b - l.counter) l.u l.w
