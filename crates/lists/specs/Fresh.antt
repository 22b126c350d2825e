-- The lists of a store that was just set up: every node is free.
-- Assumes nothing.
use Rattle.std.specs.Prelude.{◌≡◌, List, [], ◌∷◌, ℕ, zero, suc, ◌+◌}
use Rattle.nodes.specs.Nodes.{Head, Next, Prev, Cols, cols, over}
use Rattle.nodes.specs.declared.Shape.{Shape}
use Rattle.lists.specs.Lists.{Lists, Untouched}

-- the numbers below n, the last first
abbrev pub stack : ℕ → List ℕ
stack zero = []
stack (suc n) = n ∷ stack n

-- the first n nodes are free, and the other lists are empty
abbrev pub all_free : ℕ → ℕ → List ℕ
all_free n zero = stack n
all_free n (suc t) = []

-- from s to s' the lists were made so with n nodes free, and nothing else was touched
pub record Fresh (z : Shape) (s s' : List ℕ) (n : ℕ) : Type 0 where
  pub lists : Lists z (cols z s') (all_free n)
  pub untouched : Untouched (cols z s) (cols z s')

-- list t without a node: its sentinel is its own neighbour
unfoldable pub emptied : Shape → Cols → ℕ → Cols
emptied z c t = over (over (over c Next (z.room + t) (z.room + t)) Prev (z.room + t) (z.room + t)) Head (4 + t) 0

-- the store s' is s with list t emptied
pub record EmptyList (z : Shape) (s s' : List ℕ) (t : ℕ) : Type 0 where
  pub columns : cols z s' ≡ emptied z (cols z s) t
