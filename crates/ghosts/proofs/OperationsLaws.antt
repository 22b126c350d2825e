-- The program's answers are those of the rules, since the ghost list's are; and a list stays one.
-- Assumes nothing.
use mathlib.Core.Path.{◌≡◌, ap}
use mathlib.Core.Bool.{Bool}
use mathlib.Core.List.{List}
use Prim.Native.Nat.{ℕ, ◌<◌}
use Rattle.std.specs.Prelude.{Option}
use Rattle.nodes.specs.declared.Shape.{Shape}
use Rattle.rules.specs.State.{words}
use Rattle.rules.specs.declared.GuestBlock.{GuestBlock}
use Rattle.store.specs.Holds.{shape_for}
use Rattle.store.specs.Created.{SetUp}
use Rattle.ghost_list.specs.Ghosts.{Recorded, Took, Lost, GhostsAlone}
use Rattle.ghost_list.proofs.HeldLaws.{recorded-alone, took_alone, lost_alone, set-up-alone}
use Rattle.ghosts.specs.declared.Operation.{Operation}
use Rattle.ghosts.specs.declared.Operation.TheVariants.{Record, Remove, Oldest}
use Rattle.ghosts.specs.declared.Answer.TheVariants.{Dropped, Was}
use Rattle.ghosts.specs.Operations.{gave_back, was_there, limits_alone, Opened, Taken}

module _ {z : Shape} {s s' : List ℕ} {o : Operation} (h : GhostsAlone z s) where
  pub takes_record : {k : GuestBlock} {g : Option GuestBlock} → o ≡ Record k → k.0 < words → Recorded z s s' k.0 g → Taken z s s' o (Dropped g)
  takes_record e w d = rw e (record { alone = recorded-alone h w d; becomes = d.gave.becomes; report = ap gave_back d.gave.back })

  pub takes_remove : {k : GuestBlock} {b : Bool} → o ≡ Remove k → Took z s s' k.0 b → Taken z s s' o (Was b)
  takes_remove e d = rw e (record { alone = took_alone h d; becomes = d.becomes; report = ap was_there d.was })

  pub takes_oldest : {g : Option GuestBlock} → o ≡ Oldest → Lost z s s' g → Taken z s s' o (Dropped g)
  takes_oldest e d = rw e (record { alone = lost_alone h d; becomes = d.gave.becomes; report = ap gave_back d.gave.back })

-- what is set up is a list
pub opens : {n : ℕ} {z : Shape} {s s' : List ℕ} → SetUp (limits_alone n) s s' → z ≡ shape_for (limits_alone n) → Opened s' n z
opens d e = rw e (record { alone = set-up-alone d; state = d.state })
