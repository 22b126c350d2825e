-- What callers cite: the index after a write of the tag or of a field that it does not read.
-- Assumes nothing.
use mathlib.Core.Path.{◌≡◌, refl, ◌∙◌}
use mathlib.Core.List.{List}
use Prim.Native.Nat.{ℕ, ◌<◌}
use native.Mathlib.Omega.{arith}
use lib.ListN.{get_or, set}
use lib.Seq.{get_or-set_other}
use Rattle.nodes.specs.Nodes.{Field, Key, Chain, Queue, Bucket, Cols, cols, over, with_column}
use Rattle.nodes.specs.declared.Shape.{Shape}
use Rattle.nodes.proofs.NodesLaws.{length-cols}
use Rattle.nodes.proofs.OverLaws.{Other, over-other}
use Rattle.key_index.specs.Stored.{LiveIn, Indexes, CanJoin, Joins, Unchains}
use Rattle.key_index.proofs.LiveLaws.{born, moved, cleared}

-- ---- fields that the index does not read

-- where the four columns that it reads stay, the index stays
pub index_same : {z : Shape} {c d : Cols} → d Key ≡ c Key → d Chain ≡ c Chain → d Bucket ≡ c Bucket → d Queue ≡ c Queue → Indexes z c → Indexes z d
index_same key chain bucket queue ix = record { index = rw (key, chain, bucket, queue) ix.index; unlisted = rw queue ix.unlisted }

-- a write to any other field; where the field is named, each of the four is `refl`
pub index-aside : {z : Shape} {c : Cols} (f : Field) (i v : ℕ) → Other f Key → Other f Chain → Other f Bucket → Other f Queue → Indexes z c
    → Indexes z (over c f i v)
index-aside {c = c} f i v key chain bucket queue ix =
    index_same (over-other c f i v Key key) (over-other c f i v Chain chain) (over-other c f i v Bucket bucket) (over-other c f i v Queue queue) ix

-- ---- the tag

-- a node's tag is not that of the end of chains
unlisted-set : (q : List ℕ) {n x : ℕ} (v : ℕ) → x < n → get_or q n 0 ≡ 0 → get_or (set q x v) n 0 ≡ 0
unlisted-set q {n} {x} v below e = get_or-set_other q x n v 0 (λ i. omega (arith, i, below)) ∙ e

-- a live node gets another tag above 0
pub index-moved : {z : Shape} {c : Cols} {x v : ℕ} → LiveIn z c x → 0 < v → Indexes z c → Indexes z (over c Queue x v)
unfolding over
index-moved {z} {c} {x} {v} lives some ix = record {
  index = moved z.room (c Queue) x v lives some ix.index;
  unlisted = unlisted-set (c Queue) v lives.below ix.unlisted;
}

-- a live node goes out, and its tag becomes 0
pub index-cleared : {z : Shape} {c d : Cols} {x : ℕ} → Indexes z c → LiveIn z c x → Unchains z c d x → Indexes z (over d Queue x 0)
unfolding over with_column
index-cleared {z} {c} {d} {x} ix lives l = record {
  index = rw l.columns (cleared (c Queue) x lives l.index);
  unlisted = rw l.columns (unlisted-set (c Queue) 0 lives.below ix.unlisted);
}

-- a free node comes in, and its tag becomes v
pub index-born : {z : Shape} (s : List ℕ) {d : Cols} {x k v : ℕ} → CanJoin z (cols z s) x k → Joins z (cols z s) d x k → 0 < v → Indexes z (over d Queue x v)
unfolding over with_column
index-born {z} s {d} {x} {k} {v} can j some = record {
  index = rw j.columns (born z.room (cols z s Queue) x v can.below (omega (arith, can.below, length-cols z s Queue refl)) some j.index);
  unlisted = rw j.columns (unlisted-set (cols z s Queue) v can.below can.indexes.unlisted);
}
