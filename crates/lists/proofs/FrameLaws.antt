-- What take and push leave as it is, and what leaves the lists as they are.
-- Assumes nothing.
use mathlib.Core.Path.{◌≡◌, refl, ap, ◌∙◌}
use mathlib.Core.Logic.{◌≢◌}
use mathlib.Core.List.{List}
use Prim.Native.Nat.{ℕ, ◌+◌, ◌<◌}
use native.Mathlib.Omega.{arith}
use lib.ListN.{length, get_or, set}
use lib.Seq.{get_or-set_other}
use Rattle.nodes.specs.Nodes.{Field, Head, Key, Value, Next, Prev, Chain, Queue, Freq, Bucket, Rest, Cols, over, with_column}
use Rattle.nodes.specs.declared.Shape.{Shape}
use Rattle.nodes.proofs.OverLaws.{Other, with-other, over-with}
use Rattle.lists.specs.Lists.{list_count, many, Lists, Untouched, unlink, link, detached, attached}

-- ---- what is no part of the lists

pub same-all : (c : Cols) → Untouched c c
same-all c =
    record { keys = refl; values = refl; chains = refl; freqs = refl; buckets = refl; rest = refl; heads_below = λ i b. refl; heads_above = λ i b. refl }

pub same_then : {c d e : Cols} → Untouched c d → Untouched d e → Untouched c e
same_then a b =
    record {
      keys = b.keys ∙ a.keys;
      values = b.values ∙ a.values;
      chains = b.chains ∙ a.chains;
      freqs = b.freqs ∙ a.freqs;
      buckets = b.buckets ∙ a.buckets;
      rest = b.rest ∙ a.rest;
      heads_below = λ i h. b.heads_below i h ∙ a.heads_below i h;
      heads_above = λ i h. b.heads_above i h ∙ a.heads_above i h;
    }

-- columns that differ from c in the lists' own fields and in the length of list t alone
pub same-but : {c d : Cols} {t : ℕ} → t < list_count → d Key ≡ c Key → d Value ≡ c Value → d Chain ≡ c Chain → d Freq ≡ c Freq → d Bucket ≡ c Bucket
    → d Rest ≡ c Rest → ((i : ℕ) → i ≢ 4 + t → get_or (d Head) i 0 ≡ get_or (c Head) i 0) → Untouched c d
same-but b k v n q u e h =
    record {
      keys = k;
      values = v;
      chains = n;
      freqs = q;
      buckets = u;
      rest = e;
      heads_below = λ i l. h i (omega arith);
      heads_above = λ i l. h i (omega arith);
    }

-- ---- take and push: the header's other cells, and the tags

module _ (c : Cols) (t x : ℕ) where
  pub detached-heads : (i : ℕ) → i ≢ 4 + t → get_or (detached c t x Head) i 0 ≡ get_or (c Head) i 0
  unfolding detached unlink over
  detached-heads i n = get_or-set_other (c Head) (4 + t) i _ 0 n

  pub detached-queue : detached c t x Queue ≡ c Queue
  unfolding detached unlink over
  detached-queue = refl

  pub attached-heads : (z : Shape) (i : ℕ) → i ≢ 4 + t → get_or (attached z c t x Head) i 0 ≡ get_or (c Head) i 0
  unfolding attached link over
  attached-heads z i n = get_or-set_other (c Head) (4 + t) i _ 0 n

  pub attached-queue : (z : Shape) → attached z c t x Queue ≡ set (c Queue) x t
  unfolding attached link over
  attached-queue z = refl

-- ---- all else stays

module _ (c : Cols) {t : ℕ} (t_k : t < list_count) (x : ℕ) where
  pub detached-same : Untouched c (detached c t x)
  unfolding detached unlink over
  detached-same = same-but t_k refl refl refl refl refl refl (detached-heads c t x)

  pub attached-same : (z : Shape) → Untouched c (attached z c t x)
  unfolding attached link over
  attached-same z = same-but t_k refl refl refl refl refl refl (attached-heads c t x z)

-- ---- what leaves the lists alone

module _ {z : Shape} {c : Cols} {f : ℕ → List ℕ} (r : Lists z c f) where
  pub lists_frame : (d : Cols) → d Next ≡ c Next → d Prev ≡ c Prev → d Queue ≡ c Queue → ((t : ℕ) → t < list_count → many d t ≡ many c t)
      → length (d Head) ≡ length (c Head) → Lists z d f
  lists_frame d a b e h l = record { pool = rw (a, b, e) r.pool; counts = λ t t_k. h t t_k ∙ r.counts t t_k; in_head = rw l r.in_head }

  -- a field that is no part of them; each premise is `refl` where the field is named
  module _ (g : Field) (n : Other g Next) (p : Other g Prev) (q : Other g Queue) (h : Other g Head) where
    pub lists-with : (l : List ℕ) → Lists z (with_column c g l) f
    lists-with l =
        lists_frame (with_column c g l) (with-other c g l Next n) (with-other c g l Prev p) (with-other c g l Queue q)
        (λ t b. ap (λ (k : List ℕ). get_or k (4 + t) 0) (with-other c g l Head h)) (ap length (with-other c g l Head h))

    pub lists-over : (i v : ℕ) → Lists z (over c g i v) f
    lists-over i v = rw (over-with c g i v) (lists-with (set (c g) i v))
