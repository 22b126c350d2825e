-- A store that was just created: it holds the empty state with its limits.
-- Assumes nothing.
use Rattle.std.specs.Prelude.{◌≡◌, List, ℕ}
use Rattle.nodes.specs.Nodes.{Head, Cols, cols, over}
use Rattle.nodes.specs.declared.Shape.{Shape}
use Rattle.rules.specs.State.{Limits, empty_at}
use Rattle.store.specs.Holds.{limits_in, state_in, rest_in, shape_for, Held}

-- the columns with the limits L in the header
unfoldable pub limited : Cols → Limits → Cols
limited c L = over (over (over c Head 0 L.capacity) Head 1 L.small_limit) Head 2 L.ghost_limit

-- the store s' is s with the limits L in the header
pub record Limited (z : Shape) (s s' : List ℕ) (L : Limits) : Type 0 where
  pub columns : cols z s' ≡ limited (cols z s) L

-- from s, whatever it was, to s' a store with the limits L was created, and what stands behind it stayed
pub record SetUp (L : Limits) (s s' : List ℕ) : Type 0 where
  pub held : Held (shape_for L) s'
  pub state : state_in (shape_for L) s' ≡ empty_at L
  pub rest : rest_in (shape_for L) s' ≡ rest_in (shape_for L) s

-- the header of s has the limits L, by whatever shape it is read
pub record Stated (s : List ℕ) (L : Limits) : Type 0 where
  pub limits : (z : Shape) → L ≡ limits_in (cols z s)
