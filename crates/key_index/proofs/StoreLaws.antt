-- The laws of the index at the store's columns: each takes what was read and written, and what the tests said of it.
-- Assumes nothing.
use mathlib.Core.Path.{◌≡◌, refl, sym, ◌∙◌, ap}
use mathlib.Core.List.{List}
use mathlib.Core.Logic.{◌≢◌}
use Prim.Native.Nat.{ℕ, ◌+◌, ◌≤◌, ◌<◌}
use native.Mathlib.Omega.{arith}
use lib.ListN.{length, get_or, set, length-set}
use Rattle.nodes.specs.Nodes.{Field, Key, Chain, Bucket, Cols, cols, over, with_column, Room, SetsField, GetsField}
use Rattle.nodes.specs.declared.Shape.{Shape}
use Rattle.nodes.proofs.NodesLaws.{length-cols}
use Rattle.nodes.proofs.OverLaws.{over-with, over_in, with-same}
use Rattle.std.specs.Prelude.{Option, Some}
use Rattle.key_index.specs.Links.{Whole}
use Rattle.key_index.specs.Index.{bucket_of}
use Rattle.key_index.specs.Walks.{FirstIs, Goes, InFront, Gap}
use Rattle.key_index.specs.Stored.{col, LiveIn, IndexOf, Indexes, IsFound, head_of, CanJoin, Joins, Unchains}
use Rattle.key_index.proofs.FewLaws.{depth, depth_falls}
use Rattle.key_index.proofs.IndexLaws.{bucket-below, Put}
use Rattle.key_index.proofs.PassedLaws.{Passed, passed-next, passed-whole}
use Rattle.key_index.proofs.FindLaws.{Seen, seen-found, index-whole, index_at, index-nothing}
use Rattle.key_index.proofs.AddLaws.{Under, under_next, under_gap, add-first, add-later}
use Rattle.key_index.proofs.RemoveLaws.{Way, way_cut, way_next, way_on, way_below, goes, remove_first, remove_later}
use Rattle.key_index.proofs.LiveLaws.{put-set}

-- ---- a walk that has come to the node h has less to go from there

pub walk-less : (z : Shape) (s : List ℕ) {P : ℕ → Type 0} {h₀ h : ℕ} → Passed z.room (col (cols z s Chain)) P h₀ h → h < z.room
    → Whole z.room (col (cols z s Chain)) h₀ → {m : ℕ} → GetsField z s Chain h m
    → depth z.room (col (cols z s Chain)) z.room m < depth z.room (col (cols z s Chain)) z.room h
walk-less z s {P} {h₀} {h} w b all on = rw on.value (depth_falls z.room (col (cols z s Chain)) h (passed-whole h w all) b)

-- ---- the lookup's walk

module _ (z : Shape) (s : List ℕ) {k h₀ h : ℕ} (w : Seen z.room (col (cols z s Key)) (col (cols z s Chain)) k h₀ h) (b : h < z.room)
    {r : ℕ} (is : GetsField z s Key h r) where
  pub walk-found : r ≡ k → FirstIs z.room (col (cols z s Key)) (col (cols z s Chain)) k h₀ (Some h)
  walk-found e = seen-found h w b (sym is.value ∙ e)

  pub walk-next : (r ≡ k → ⊥) → {m : ℕ} → GetsField z s Chain h m → Seen z.room (col (cols z s Key)) (col (cols z s Chain)) k h₀ m
  walk-next ne on = rw on.value (passed-next h w b (λ e. ne (is.value ∙ e)))

-- ---- the walk to a key's place, which has come to the node h behind p

module _ (z : Shape) (s : List ℕ) {k h₀ h p : ℕ} (w : Under z.room (col (cols z s Key)) (col (cols z s Chain)) k h₀ h p) where
  pub place_end : Whole z.room (col (cols z s Chain)) h₀ → z.room ≤ h → Gap z.room (col (cols z s Key)) (col (cols z s Chain)) k h₀ p
  place_end all out = under_gap h w all (λ b. absurd (omega arith))

  module _ (b : h < z.room) {r : ℕ} (is : GetsField z s Key h r) where
    pub place_found : Whole z.room (col (cols z s Chain)) h₀ → k ≤ r → Gap z.room (col (cols z s Key)) (col (cols z s Chain)) k h₀ p
    place_found all e = under_gap h w all (λ _. rw is.value at e)

    pub place-next : r < k → {m : ℕ} → GetsField z s Chain h m → Under z.room (col (cols z s Key)) (col (cols z s Chain)) k h₀ m h
    place-next l on = rw on.value (under_next h w b (rw is.value at l))

-- ---- the walk to the node in front of x, which has come to the node p

module _ (z : Shape) (s : List ℕ) {h x p m : ℕ} (w : Way z.room (col (cols z s Chain)) h x p) (on : GetsField z s Chain p m) where
  pub way_found : m ≡ x → InFront z.room (col (cols z s Chain)) h x p
  way_found e = way_cut p w (sym on.value ∙ e)

  pub way_on-to : (m ≡ x → ⊥) → Way z.room (col (cols z s Chain)) h x m
  way_on-to ne = rw on.value (way_next p w (λ e. ne (on.value ∙ e)))

  pub way_less : depth z.room (col (cols z s Chain)) z.room (get_or (cols z s Chain) m 0)
      < depth z.room (col (cols z s Chain)) z.room (get_or (cols z s Chain) p 0)
  way_less = rw on.value (depth_falls z.room (col (cols z s Chain)) (get_or (cols z s Chain) p 0) (way_on p w) (way_below p w))

-- ---- one cell written

put-node : (z : Shape) (s : List ℕ) (f : Field) → length (cols z s f) ≡ z.room + 4 → (x v : ℕ) → x < z.room
    → Put (col (cols z s f)) x v (col (set (cols z s f) x v))
put-node z s f e x v h = put-set (cols z s f) x v (omega (arith, h, e))

put-head : (z : Shape) (s : List ℕ) (b v : ℕ) → b < z.buckets → Put (col (cols z s Bucket)) b v (col (set (cols z s Bucket) b v))
put-head z s b v h = put-set (cols z s Bucket) b v (omega (arith, h, length-cols z s Bucket refl))

module _ (z : Shape) (s : List ℕ) (room : Room z s) (ixs : Indexes z (cols z s)) where
  abbrev ix : IndexOf z (cols z s) (LiveIn z (cols z s))
  ix = ixs.index

  abbrev some : 0 < z.buckets
  some = room.some_buckets

  -- ---- find

  module _ (k : ℕ) {b h : ℕ} (eb : b ≡ bucket_of k z.buckets) (eh : GetsField z s Bucket b h) where
    there : h ≡ head_of z (cols z s) k
    there = eh.value ∙ ap (λ (y : ℕ). get_or (cols z s Bucket) y 0) eb

    pub starts : Whole z.room (col (cols z s Chain)) h
    starts = rw there (index-whole ix some k)

    pub finds : (r : Option ℕ) → FirstIs z.room (col (cols z s Key)) (col (cols z s Chain)) k h r → IsFound z (cols z s) k r
    finds r f = record {
      hit = λ x e. let g = index_at ix some k x (rw (there, e) at f) in record { lives = g.0; holds = g.1 };
      miss = λ e. record { none = index-nothing ix some k (rw (there, e) at f) };
    }

  -- ---- remove

  module _ {x : ℕ} (lives : LiveIn z (cols z s) x) {k b h : ℕ} (ek : GetsField z s Key x k) (eb : b ≡ bucket_of k z.buckets)
      (eh : GetsField z s Bucket b h) where
    own : b ≡ bucket_of (get_or (cols z s Key) x 0) z.buckets
    own = eb ∙ ap (λ (y : ℕ). bucket_of y z.buckets) ek.value

    pub leads : h ≢ x → Goes z.room (col (cols z s Chain)) h x
    leads ne = rw eh.value (goes ix some x lives b own (rw eh.value at ne))

    module _ {next : ℕ} (en : GetsField z s Chain x next) (t : List ℕ) where
      pub unchains_first : h ≡ x → SetsField z s t Bucket b next → Unchains z (cols z s) (cols z t) x
      unchains_first e w = record {
        chain = cols z s Chain;
        bucket = set (cols z s Bucket) b next;
        columns = rw (with-same (cols z s) Chain) (w.columns ∙ over-with (cols z s) Bucket b next);
        index =
            rw en.value
            (remove_first ix some x lives b own (put-head z s b (get_or (cols z s Chain) x 0) (rw eb (bucket-below k z.buckets some))) (sym eh.value ∙ e));
      }

      pub unchains_later : {p : ℕ} → h ≢ x → InFront z.room (col (cols z s Chain)) h x p → SetsField z s t Chain p next → Unchains z (cols z s) (cols z t) x
      unfolding with_column
      unchains_later {p} ne c w = record {
        chain = set (cols z s Chain) p next;
        bucket = cols z s Bucket;
        columns = w.columns ∙ over-with (cols z s) Chain p next ∙ sym (with-same (with_column (cols z s) Chain (set (cols z s Chain) p next)) Bucket);
        index = rw en.value (remove_later ix some x lives b own p (put-node z s Chain (length-cols z s Chain refl) p (get_or (cols z s Chain) x 0) c.below)
            (rw eh.value at ne) (rw eh.value at c));
      }

-- ---- add

dead : (z : Shape) (s : List ℕ) {x k : ℕ} → CanJoin z (cols z s) x k → LiveIn z (cols z s) x → ⊥
dead z s can l = omega (arith, l.tagged, can.free)

module _ (z : Shape) (s : List ℕ) (room : Room z s) {x k : ℕ} (can : CanJoin z (cols z s) x k) {b h : ℕ} (eb : b ≡ bucket_of k z.buckets)
    (eh : GetsField z s Bucket b h) where
  pub place-starts : Whole z.room (col (cols z s Chain)) h
  place-starts = starts z s room can.indexes k eb eh

  module _ {p : ℕ} (g : Gap z.room (col (cols z s Key)) (col (cols z s Chain)) k h p) {s₁ : List ℕ} (w₁ : SetsField z s s₁ Key x k) where
    pub joins-first : z.room ≤ p → {s₂ s₃ : List ℕ} → SetsField z s₁ s₂ Chain x h → SetsField z s₂ s₃ Bucket b x → Joins z (cols z s) (cols z s₃) x k
    unfolding over with_column
    joins-first out {s₂} {s₃} w₂ w₃ =
        let c₁ : Cols = over (cols z s) Key x k in
        let l : List ℕ = set (cols z s Chain) x h in
        let e₂ : cols z s₂ ≡ with_column c₁ Chain l = w₂.columns ∙ ap (λ (c : Cols). over c Chain x h) w₁.columns ∙ over-with c₁ Chain x h in
        record {
          chain = l;
          bucket = set (cols z s Bucket) b x;
          columns = w₃.columns ∙ ap (λ (c : Cols). over c Bucket b x) e₂ ∙ over-with (with_column c₁ Chain l) Bucket b x;
          index = add-first can.indexes.index room.some_buckets x k can.below (dead z s can) can.miss.none b eb
              (put-node z s Key (length-cols z s Key refl) x k can.below) p (rw eh.value at g) out
              (rw (← eh.value) (put-node z s Chain (length-cols z s Chain refl) x h can.below))
              (put-head z s b x (rw eb (bucket-below k z.buckets room.some_buckets)));
        }

    pub joins-later : p < z.room → {next : ℕ} → GetsField z s Chain p next → {s₂ s₃ : List ℕ} → SetsField z s₁ s₂ Chain x next → SetsField z s₂ s₃ Chain p x
        → Joins z (cols z s) (cols z s₃) x k
    unfolding over with_column
    joins-later inside {next} en {s₂} {s₃} w₂ w₃ =
        let c₁ : Cols = over (cols z s) Key x k in
        let l : List ℕ = set (cols z s Chain) x next in
        let e₂ : cols z s₂ ≡ with_column c₁ Chain l = w₂.columns ∙ ap (λ (c : Cols). over c Chain x next) w₁.columns ∙ over-with c₁ Chain x next in
        record {
          chain = set l p x;
          bucket = cols z s Bucket;
          columns = w₃.columns ∙ ap (λ (c : Cols). over c Chain p x) e₂ ∙ over_in c₁ Chain l p x ∙ sym (with-same (with_column c₁ Chain (set l p x)) Bucket);
          index = add-later can.indexes.index room.some_buckets x k can.below (dead z s can) can.miss.none b eb
              (put-node z s Key (length-cols z s Key refl) x k can.below) p (rw eh.value at g) inside
              (rw (← en.value) (put-node z s Chain (length-cols z s Chain refl) x next can.below))
              (put-set l p x (omega (arith, inside, length-set (cols z s Chain) x next, length-cols z s Chain refl)));
        }
