-- The index in the store's columns: what the calls find, and what they leave.
-- Assumes nothing.
use Rattle.std.specs.Prelude.{◌≡◌, List, ◌⊎◌, ◌≢◌, ℕ, ◌<◌, get_or, set, replicate, Option, Some, None}
use Rattle.nodes.specs.Nodes.{Key, Chain, Queue, Bucket, Cols, over, with_column}
use Rattle.nodes.specs.declared.Shape.{Shape}
use Rattle.key_index.specs.Index.{bucket_of, Index}

-- a column as a function
abbrev pub col : List ℕ → ℕ → ℕ
col l y = get_or l y 0

-- y is one of n nodes, and is live: its tag is not 0
pub record Live (n : ℕ) (queue : List ℕ) (y : ℕ) : Type 0 where
  pub below : y < n
  pub tagged : 0 < get_or queue y 0

-- the store's nodes that are live; its sentinels never are
abbrev pub LiveIn : Shape → Cols → ℕ → Type 0
LiveIn z c = Live z.room (c Queue)

-- the columns c index the nodes of which `live` holds
abbrev pub IndexOf : Shape → Cols → (ℕ → Type 0) → Type 0
IndexOf z c live = Index z.room z.buckets (col (c Key)) (col (c Chain)) (col (c Bucket)) live

-- the columns c index their live nodes, and the tag of the end of chains says free: a lookup may read of it what it reads of a node
pub record Indexes (z : Shape) (c : Cols) : Type 0 where
  pub index : IndexOf z c (LiveIn z c)
  pub unlisted : get_or (c Queue) z.room 0 ≡ 0

-- x is a live node with the key k
pub record Hit (z : Shape) (c : Cols) (k x : ℕ) : Type 0 where
  pub lives : LiveIn z c x
  pub holds : get_or (c Key) x 0 ≡ k

-- no live node has the key k
pub record Miss (z : Shape) (c : Cols) (k : ℕ) : Type 0 where
  pub none : (y : ℕ) → LiveIn z c y → get_or (c Key) y 0 ≡ k → ⊥

-- what a lookup of k finds: a node only where it is the key's, and nothing only where there is none
pub record IsFound (z : Shape) (c : Cols) (k : ℕ) (r : Option ℕ) : Type 0 where
  pub hit : (x : ℕ) → r ≡ Some x → Hit z c k x
  pub miss : r ≡ None → Miss z c k

-- the first link of the chain of k
abbrev pub head_of : Shape → Cols → ℕ → ℕ
head_of z c k = get_or (c Bucket) (bucket_of k z.buckets) 0

-- the free node x may come in with the key k, which no live node has
pub record CanJoin (z : Shape) (c : Cols) (x k : ℕ) : Type 0 where
  pub indexes : Indexes z c
  pub below : x < z.room
  pub free : get_or (c Queue) x 0 ≡ 0
  pub miss : Miss z c k

-- the node x has come in with the key k: its key, links and heads alone are changed, and they index x and the live nodes
pub record Joins (z : Shape) (c d : Cols) (x k : ℕ) : Type 0 where
  pub chain : List ℕ
  pub bucket : List ℕ
  pub columns : d ≡ with_column (with_column (over c Key x k) Chain chain) Bucket bucket
  pub index : Index z.room z.buckets (col (set (c Key) x k)) (col chain) (col bucket) (λ y. (y ≡ x) ⊎ LiveIn z c y)

-- the live node x has gone out: links and heads alone are changed, and they index the other live nodes
pub record Unchains (z : Shape) (c d : Cols) (x : ℕ) : Type 0 where
  pub chain : List ℕ
  pub bucket : List ℕ
  pub columns : d ≡ with_column (with_column c Chain chain) Bucket bucket
  pub index : Index z.room z.buckets (col (c Key)) (col chain) (col bucket) (λ y. LiveIn z c y × (y ≢ x))

-- every head is the end of chains: exactly the heads are written
pub record EmptyBuckets (z : Shape) (c d : Cols) : Type 0 where
  pub columns : d ≡ with_column c Bucket (replicate z.buckets z.room)

-- every chain is empty, and their end leads to itself and is free: exactly the heads and the end's link and tag are written
pub record Empties (z : Shape) (c d : Cols) : Type 0 where
  pub columns : d ≡ over (over (with_column c Bucket (replicate z.buckets z.room)) Chain z.room z.room) Queue z.room 0
