-- What the check of lists that nobody vouches for decides.
-- Assumes nothing.
use Rattle.std.specs.Prelude.{◌≡◌, List, ℕ, ◌+◌, ◌<◌, length, get_or}
use Rattle.cells.specs.Members.{Every}
use Rattle.nodes.specs.Nodes.{Next, Prev, Queue, cols}
use Rattle.nodes.specs.declared.Shape.{Shape}
use Rattle.lists.specs.Ring.{Seg, Tagged}
use Rattle.lists.specs.Lists.{Lists, many, in_all}

-- the store has four lists as its header says, and every node is in one of them
pub record Listed (z : Shape) (s : List ℕ) : Type 0 where
  pub of : ℕ → List ℕ
  pub lists : Lists z (cols z s) of
  pub whole : in_all of ≡ z.room

-- ---- the check's parts

-- the lengths in the header come to the number of nodes, so that walking all four lists takes no more steps
pub record Counted (z : Shape) (s : List ℕ) : Type 0 where
  pub sum : many (cols z s) 0 + many (cols z s) 1 + many (cols z s) 2 + many (cols z s) 3 ≡ z.room

-- y is a node of list t, with u in front of it
pub record StepOk (z : Shape) (s : List ℕ) (t u y : ℕ) : Type 0 where
  pub node : y < z.room
  pub back : get_or (cols z s Prev) y 0 ≡ u
  pub tag : get_or (cols z s Queue) y 0 ≡ t

-- from u the next is the sentinel of list t
pub record Home (z : Shape) (s : List ℕ) (t u : ℕ) : Type 0 where
  pub forth : get_or (cols z s Next) u 0 ≡ z.room + t
  pub back : get_or (cols z s Prev) (z.room + t) 0 ≡ u

-- k nodes of list t lead from u to its sentinel
pub record Leads (z : Shape) (s : List ℕ) (t k u : ℕ) : Type 0 where
  pub list : List ℕ
  pub seg : Seg (cols z s Next) (cols z s Prev) u list (z.room + t)
  pub nodes : Every (λ y. y < z.room) list
  pub tags : Tagged (cols z s Queue) t list
  pub count : length list ≡ k

-- list t leads from its sentinel back to it, over as many nodes as the header says
pub record ListOk (z : Shape) (s : List ℕ) (t : ℕ) : Type 0 where
  pub leads : Leads z s t (many (cols z s) t) (z.room + t)

-- lists t and v both do
pub record PairOk (z : Shape) (s : List ℕ) (t v : ℕ) : Type 0 where
  pub first : ListOk z s t
  pub second : ListOk z s v
