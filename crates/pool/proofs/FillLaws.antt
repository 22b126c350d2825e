-- A free node gets what it is to hold, and goes to the head of a list: what the calls may ask for, and the pool that they leave.
-- Assumes nothing.
use mathlib.Core.Path.{◌≡◌, refl, ◌∙◌, subst}
use mathlib.Core.List.{List, [], ◌∷◌}
use Prim.Native.Nat.{ℕ, ◌+◌}
use native.Mathlib.Omega.{arith}
use lib.ListN.{set}
use Rattle.nodes.specs.Nodes.{Key, Value, Freq, Next, Chain, Bucket, Queue, Cols, cols, over, with_column, GetsField}
use Rattle.nodes.specs.declared.Shape.{Shape}
use Rattle.lists.specs.Ring.{First}
use Rattle.lists.specs.Pool.{upd}
use Rattle.lists.specs.Lists.{Lists}
use Rattle.lists.proofs.PoolLaws.{upd_other}
use Rattle.lists.proofs.ListsLaws.{lists-node, lists-tag, lists-head, first-among}
use Rattle.lists.proofs.FrameLaws.{lists_frame}
use Rattle.key_index.specs.Stored.{Indexes, CanJoin, Joins}
use Rattle.key_index.proofs.WriteLaws.{index_same, index-born}
use Rattle.pool.specs.Carries.{Carries, lists_of, Aside, CanFill, Filled}
use Rattle.pool.specs.Relist.{CanRelist, Relisted}
use Rattle.pool.specs.Entry.{Entered}
use Rattle.pool.proofs.CarriesLaws.{carries-pooled}
use Rattle.pool.proofs.MoveLaws.{relisted-carries}

-- ---- what a node holds

module _ {z : Shape} {c d : Cols} {x k : ℕ} (j : Joins z c d x k) (v : ℕ) where
  abbrev entered : Cols
  entered = over (over d Value x v) Freq x 0

  -- its list stays
  entered-lists : {f : ℕ → List ℕ} → Lists z c f → Lists z entered f
  unfolding over with_column
  entered-lists r =
      let e : Cols = over (over (with_column (with_column (over c Key x k) Chain j.chain) Bucket j.bucket) Value x v) Freq x 0 in
      rw j.columns (lists_frame r e refl refl refl (λ t b. refl) refl)

  -- the index reads the key alone
  entered-index : (t : ℕ) → Indexes z (over d Queue x t) → Indexes z (over entered Queue x t)
  unfolding over
  entered-index t ix = index_same refl refl refl refl ix

  entered-aside : Aside c entered
  unfolding over with_column
  entered-aside = rw j.columns (record { limits = λ i h. refl; rest = refl })

  entered-keys : entered Key ≡ set (c Key) x k
  unfolding over with_column
  entered-keys = rw j.columns

  entered-values : entered Value ≡ set (c Value) x v
  unfolding over with_column
  entered-values = rw j.columns

  entered-freqs : entered Freq ≡ set (c Freq) x 0
  unfolding over with_column
  entered-freqs = rw j.columns

-- ---- fill

module _ {z : Shape} {s : List ℕ} {t k : ℕ} (q : CanFill z s t k) {x : ℕ} (h : GetsField z s Next (z.room + 0) x) where
  abbrev listed : Lists z (cols z s) (lists_of z (cols z s))
  listed = q.pooled.carries.lists

  -- the sentinel's next is the first free node
  free-first : First x (lists_of z (cols z s) 0)
  free-first = rw h.value (lists-head listed (omega arith) (omega (arith, q.free, listed.counts 0 (omega arith))))

  -- it may get the key
  pub fill_joins : CanJoin z (cols z s) x k
  fill_joins = record {
    indexes = q.pooled.carries.index;
    below = lists-node listed (omega arith) [] x free-first.back free-first.is;
    free = lists-tag listed (omega arith) [] x free-first.back free-first.is;
    miss = q.miss;
  }

  module _ {s₁ : List ℕ} {v : ℕ} (e : Entered z s s₁ x k v) where
    still : Lists z (cols z s₁) (lists_of z (cols z s))
    still = rw e.columns (entered-lists e.joins v listed)

    pub fill_relist : CanRelist z s₁ 0 t x
    fill_relist = record { of = lists_of z (cols z s); lists = still; from = omega arith; to = q.to.below; among = first-among free-first }

    indexes : Indexes z (over (cols z s₁) Queue x t)
    indexes = rw e.columns (entered-index e.joins v t (index-born s fill_joins e.joins q.to.above))

    pub filled : {s₂ : List ℕ} → Relisted z s₁ s₂ 0 t x → Filled z s s₂ t k v x
    filled {s₂} m =
        let a : Aside (cols z s) (cols z s₁) = rw e.columns (entered-aside e.joins v) in
        let r : Carries z (cols z s₂) (upd (upd (lists_of z (cols z s)) 0 free-first.back) t (x ∷ lists_of z (cols z s) t)) =
        subst (λ (n : List ℕ). Carries z (cols z s₂) (upd (upd (lists_of z (cols z s)) 0 free-first.back) t (x ∷ n)))
        (upd_other (lists_of z (cols z s)) 0 free-first.back t (λ i. omega (arith, q.to.above)))
        (relisted-carries (omega arith) q.to.below m still q.pooled.carries.whole indexes [] free-first.back free-first.is) in
        record {
          pooled = carries-pooled r;
          left = free-first.back;
          was = free-first.is;
          keys = m.untouched.keys ∙ rw e.columns (entered-keys e.joins v);
          values = m.untouched.values ∙ rw e.columns (entered-values e.joins v);
          freqs = m.untouched.freqs ∙ rw e.columns (entered-freqs e.joins v);
          aside = record { limits = λ i b. m.untouched.heads_below i b ∙ a.limits i b; rest = m.untouched.rest ∙ a.rest };
          carries = r;
        }
