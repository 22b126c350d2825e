-- Several rings over the same columns. Ring t has the sentinel N + t, and its members the tag t in the column q.
-- Assumes nothing.
use Rattle.std.specs.Prelude.{List, ℕ, ◌+◌, ◌≤◌, ◌<◌, eqb, length}
use Rattle.cells.specs.Columns.{pick}
use Rattle.cells.specs.Members.{Out}
use Rattle.lists.specs.Ring.{Ring, Tagged, trail}

-- f with l in place of its list i
abbrev pub upd : (ℕ → List ℕ) → ℕ → List ℕ → ℕ → List ℕ
upd f i l t = pick (eqb t i) l (f t)

-- the rings 0 to K - 1 are f's lists; since a node has one tag, it is in one of them at most
pub record Pool (N K : ℕ) (nx pv q : List ℕ) (f : ℕ → List ℕ) : Type 0 where
  pub rings : (t : ℕ) → t < K → Ring N nx pv (N + t) (f t)
  pub tags : (t : ℕ) → t < K → Tagged q t (f t)
  pub in_q : N ≤ length q

-- x stands in none of them
abbrev pub Absent : ℕ → (ℕ → List ℕ) → ℕ → Type 0
Absent K f x = (t : ℕ) → t < K → Out x (f t)

-- ring t, read off the column next
unfoldable pub view : ℕ → List ℕ → ℕ → List ℕ
view N nx t = trail nx (N + t) N (N + t)
