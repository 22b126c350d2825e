-- What the check of an index finds on its way: how many heads and links lead on, and which nodes stand where they should.
-- Assumes nothing.
use Rattle.std.specs.Prelude.{◌≡◌, ◌⊎◌, ℕ, zero, suc, ◌+◌, ◌-◌, ◌≤◌, ◌<◌, length, get_or, Option, Some, None}
use Rattle.nodes.specs.Nodes.{Key, Chain, Queue, Bucket, Cols}
use Rattle.nodes.specs.declared.Shape.{Shape}
use Rattle.key_index.specs.Index.{bucket_of, Clean}
use Rattle.key_index.specs.Stored.{col, LiveIn, head_of}

-- ---- how many

-- 1 where t is above 0
abbrev pub one_if : ℕ → ℕ
one_if zero = 0
one_if (suc t) = 1

-- for how many of the numbers below n is t above 0
unfoldable pub count_to : (ℕ → ℕ) → ℕ → ℕ
count_to t zero = 0
count_to t (suc n) = one_if (t n) + count_to t n

-- r is the count of all below n
pub record Counts (t : ℕ → ℕ) (n r : ℕ) : Type 0 where
  pub number : r ≡ count_to t n

-- 0 where a and b are the same
abbrev pub differ : ℕ → ℕ → ℕ
differ a b = a - b + (b - a)

-- b where a is above 0
abbrev pub given : ℕ → ℕ → ℕ
given zero b = 0
given (suc a) b = b

-- above 0 for a live node
abbrev pub lives : Cols → ℕ → ℕ
lives c y = get_or (c Queue) y 0

-- above 0 for a head that leads to something
abbrev pub leads : Shape → Cols → ℕ → ℕ
leads z c b = differ (get_or (c Bucket) b 0) z.room

-- above 0 for a live node whose link leads to something
abbrev pub is_going_on : Shape → Cols → ℕ → ℕ
is_going_on z c y = given (get_or (c Queue) y 0) (differ (get_or (c Chain) y 0) z.room)

-- ---- the end of chains

-- the end of chains leads to itself, and its tag says free
pub record EndOk (z : Shape) (c : Cols) : Type 0 where
  pub home : get_or (c Chain) z.room 0 ≡ z.room
  pub unlisted : get_or (c Queue) z.room 0 ≡ 0

-- ---- a part of a chain

-- the chain from the link h ends, and its nodes may stand in the bucket b in their order
abbrev pub CleanIn : Shape → Cols → ℕ → ℕ → Type 0
CleanIn z c b h = Clean z.room z.buckets (col (c Key)) (col (c Chain)) (LiveIn z c) b h

-- the chain from the link h is so, and has m nodes
pub record CleanHas (z : Shape) (c : Cols) (b h m : ℕ) : Type 0 where
  pub clean : CleanIn z c b h
  pub size : length clean.whole.nodes ≡ m

-- what a walk along it says: how many nodes it has, or that it is no such chain
pub record WalkSays (z : Shape) (c : Cols) (b h : ℕ) (r : Option ℕ) : Type 0 where
  pub count : (m : ℕ) → r ≡ Some m → CleanHas z c b h m
  pub broken : r ≡ None → CleanIn z c b h → ⊥

-- a link m behind a node with the key k ends the chain, or leads to a node with a larger key
pub record LeadsUp (n : ℕ) (key : ℕ → ℕ) (k m : ℕ) : Type 0 where
  pub within : m ≤ n
  pub above : m < n → k < key m

-- the node x may stand in a chain of the bucket b: it is live and of that bucket, and its link leads up
pub record LinkOk (z : Shape) (c : Cols) (b x : ℕ) : Type 0 where
  pub lives : LiveIn z c x
  pub own : bucket_of (get_or (c Key) x 0) z.buckets ≡ b
  pub up : LeadsUp z.room (col (c Key)) (get_or (c Key) x 0) (get_or (c Chain) x 0)

-- ---- where a node stands

-- h is a live node with a key below k, and x is behind it
pub record Behind (z : Shape) (c : Cols) (h x k : ℕ) : Type 0 where
  pub lives : LiveIn z c h
  pub link : get_or (c Chain) h 0 ≡ x
  pub under : get_or (c Key) h 0 < k

-- the live node x is the first of its bucket
pub record IsFirst (z : Shape) (c : Cols) (x : ℕ) : Type 0 where
  pub lives : LiveIn z c x
  pub head : head_of z c (get_or (c Key) x 0) ≡ x

-- the live node x is the second of its bucket
pub record IsSecond (z : Shape) (c : Cols) (x : ℕ) : Type 0 where
  pub lives : LiveIn z c x
  pub behind : Behind z c (head_of z c (get_or (c Key) x 0)) x (get_or (c Key) x 0)

-- what a visit of x says: 1 for a first node, for a second one what is said of the chain from it on, and 0 for any other
pub record Visits (z : Shape) (c : Cols) (x : ℕ) (r : Option ℕ) : Type 0 where
  pub says :
      (IsFirst z c x × (r ≡ Some 1))
      ⊎ ((IsSecond z c x × WalkSays z c (bucket_of (get_or (c Key) x 0) z.buckets) x r)
      ⊎ ((IsFirst z c x → ⊥) × (IsSecond z c x → ⊥) × (r ≡ Some 0)))
