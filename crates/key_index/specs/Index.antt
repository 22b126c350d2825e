-- The key index: for each bucket a chain of the live nodes whose keys fall into it. Columns are functions: `key y`, `link y` of a node, `head b` of a bucket.
-- Assumes nothing.
use Rattle.std.specs.Prelude.{◌≡◌, ℕ, ◌+◌, ◌*◌, ◌/◌, ◌%◌, ◌^◌, ◌<◌}
use Rattle.key_index.specs.Links.{In, Whole, Rises}

-- the bucket of a key: its halves folded to 32 bits with different odd factors, scrambled, and scaled to the number of buckets
unfoldable pub bucket_of : ℕ → ℕ → ℕ
bucket_of k buckets = (k / 2 ^ 32 * 2246822507 + k % 2 ^ 32) % 2 ^ 32 * 2654435769 % 2 ^ 32 * buckets / 2 ^ 32

-- the chain from the link h ends, its nodes are live and of the bucket b, and their keys rise
pub record Clean (n buckets : ℕ) (key link : ℕ → ℕ) (live : ℕ → Type 0) (b h : ℕ) : Type 0 where
  pub whole : Whole n link h
  pub sound : (y : ℕ) → In y whole.nodes → live y × (bucket_of (key y) buckets ≡ b)
  pub rising : Rises key whole.nodes

-- the chain of the bucket b is so, and has every live node of that bucket
pub record Bucketed (n buckets : ℕ) (key link head : ℕ → ℕ) (live : ℕ → Type 0) (b : ℕ) : Type 0 where
  pub clean : Clean n buckets key link live b (head b)
  pub full : (y : ℕ) → live y → bucket_of (key y) buckets ≡ b → In y clean.whole.nodes

-- n nodes are indexed by key: each bucket has its chain, no two live nodes have one key, and the end of chains leads to itself
pub record Index (n buckets : ℕ) (key link head : ℕ → ℕ) (live : ℕ → Type 0) : Type 0 where
  pub chains : (b : ℕ) → b < buckets → Bucketed n buckets key link head live b
  pub unique : (x y : ℕ) → live x → live y → key x ≡ key y → x ≡ y
  pub home : link n ≡ n
