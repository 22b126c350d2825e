-- What the soundness check decides, and its parts.
-- Assumes nothing.
use Rattle.std.specs.Prelude.{◌≡◌, List, ℕ, ◌≤◌, length, Result, Ok, Err}
use Rattle.nodes.specs.Nodes.{cols}
use Rattle.nodes.specs.declared.Shape.{Shape}
use Rattle.rules.specs.State.{State, max_freq, residents, Fine}
use Rattle.rules.specs.declared.Turned.{Turned}
use Rattle.rules.specs.declared.Turned.TheVariants.{DamagedStore}
use Rattle.store.specs.Holds.{entry_at, limits_in, shape_for, Held, Holds}
use Rattle.store.specs.Entries.{HoldsResident}

-- ---- the check's parts

-- z is the shape of the header's limits, and they are fine
pub record Shaped (z : Shape) (s : List ℕ) : Type 0 where
  pub shaped : z ≡ shape_for (limits_in (cols z s))
  pub fine : Fine (limits_in (cols z s))

-- residents and ghosts are no more than the limits allow
pub record Few (σ : State) : Type 0 where
  pub within : residents σ ≤ σ.limits.capacity
  pub few_ghosts : length σ.ghosts ≤ σ.limits.ghost_limit

-- the node x, if it is a resident's, is no warmer than the highest frequency
pub record Cool (z : Shape) (s : List ℕ) (x : ℕ) : Type 0 where
  pub cool : HoldsResident z s x → (entry_at (cols z s) x).freq ≤ max_freq

-- ---- the whole

-- the answer r on the bytes s: a shape only where they hold a state at it, and a refusal, which says damaged, only where they hold none
pub record Checks (s : List ℕ) (r : Result Shape Turned) : Type 0 where
  pub sound : (z : Shape) → r ≡ Ok z → Held z s
  pub refusal : (e : Turned) → r ≡ Err e → e ≡ DamagedStore
  pub damaged : (e : Turned) → r ≡ Err e → (σ : State) → Holds s σ → ⊥
