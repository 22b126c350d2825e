-- A node gets what it is to hold: a key, by which the index finds it, and a value; nothing has used it yet.
-- Assumes nothing.
use Rattle.std.specs.Prelude.{◌≡◌, List, ℕ}
use Rattle.nodes.specs.Nodes.{Value, Freq, Cols, cols, over}
use Rattle.nodes.specs.declared.Shape.{Shape}
use Rattle.key_index.specs.Stored.{Joins}

-- the store s' is s with the node x so; `indexed` are the columns when the index has got the key
pub record Entered (z : Shape) (s s' : List ℕ) (x k v : ℕ) : Type 0 where
  pub indexed : Cols
  pub joins : Joins z (cols z s) indexed x k
  pub columns : cols z s' ≡ over (over indexed Value x v) Freq x 0
