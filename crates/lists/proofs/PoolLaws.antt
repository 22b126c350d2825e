-- Laws of several rings over the same columns: a node is taken out of one, given another tag, and given to one; how many nodes they have.
-- Assumes nothing.
use mathlib.Core.Path.{◌≡◌, sym, ap, ◌∙◌}
use mathlib.Core.Logic.{◌≢◌, ◌⊎◌, inl, inr, ⊎_elim}
use mathlib.Core.List.{List, [], ◌∷◌, ◌++◌}
use Prim.Native.Nat.{ℕ, zero, suc, ◌+◌, ◌≤◌, ◌<◌}
use native.Mathlib.Omega.{arith}
use native.Mathlib.Decide.{ℕ_discrete}
use borrow.Author.Tests.{eq-eqb, ne_eqb}
use lib.ListN.{length, get_or, set, length-set}
use lib.Seq.{get_or-set_same}
use Rattle.cells.proofs.MembersLaws.{every_map, every_append, every-less, every-at, among-or-out, Nodup, nodup_append, nodup_few}
use Rattle.cells.specs.Members.{Every, Out, Among}
use Rattle.lists.specs.Ring.{Seg, Ring, Tagged, trail}
use Rattle.lists.specs.Pool.{Pool, Absent, upd, view}
use Rattle.lists.proofs.EveryLaws.{high, tag-out, tag_frame}
use Rattle.lists.proofs.SegLaws.{no_return}
use Rattle.lists.proofs.RingLaws.{attach_nx, attach_pv, detach_nx, detach_pv, Member, member, detach_own, detach_other, attach_own, attach_other}
use Rattle.lists.proofs.RingLaws.{first_back, ring_out, ring-walk}

-- what holds of the new list at i, and of the old elsewhere, holds of f with the new list
pub upd-all : (P : ℕ → List ℕ → Type 0) (f : ℕ → List ℕ) (i : ℕ) (l : List ℕ) → P i l → ((t : ℕ) → t ≢ i → P t (f t)) → (t : ℕ) → P t (upd f i l t)
upd-all P f i l p g t = go (ℕ_discrete t i)
  where
    go : Dec (t ≡ i) → P t (upd f i l t)
    go (yes e) = rw (eq-eqb t i e) (rw e p)
    go (no n) = rw (ne_eqb t i n) (g t n)

pub upd_other : (f : ℕ → List ℕ) (i : ℕ) (l : List ℕ) (t : ℕ) → t ≢ i → upd f i l t ≡ f t
upd_other f i l t n = rw (ne_eqb t i n)

module _ (N K : ℕ) (nx pv q : List ℕ) (f : ℕ → List ℕ) (r : Pool N K nx pv q f) where
  -- x leaves ring i
  module _ (i : ℕ) (i_k : i < K) (a : List ℕ) (x : ℕ) (b : List ℕ) (e : f i ≡ a ++ x ∷ b) where
    ri : Ring N nx pv (N + i) (a ++ x ∷ b)
    ri = rw e at (r.rings i i_k)

    ti : Tagged q i (a ++ x ∷ b)
    ti = rw e at (r.tags i i_k)

    pub pool-member : Member N nx pv (N + i) a x b
    pool-member = member N nx pv (N + i) a x b ri

    pub pool-tag : get_or q x 0 ≡ i
    pool-tag = every-at (λ y. get_or q y 0 ≡ i) a x b ti

    -- a member of another ring has another tag
    pub pool-elsewhere : (t : ℕ) → t ≢ i → t < K → Out x (f t)
    pool-elsewhere t n t_k = tag-out q t x (f t) (λ k. n (sym k ∙ pool-tag)) (r.tags t t_k)

    pub pool-taken : Pool N K (detach_nx nx pv x) (detach_pv nx pv x) q (upd f i (a ++ b))
    pool-taken =
        let m : Member N nx pv (N + i) a x b = pool-member in
        record {
          rings =
              upd-all (λ t l. t < K → Ring N (detach_nx nx pv x) (detach_pv nx pv x) (N + t) l) f i (a ++ b)
              (λ _. detach_own N nx pv (N + i) a x b ri)
              (λ t n t_k. detach_other N nx pv (N + t) (f t) (r.rings t t_k) x (omega arith, pool-elsewhere t n t_k) m.prev_forth m.next-back);
          tags = upd-all (λ t l. t < K → Tagged q t l) f i (a ++ b) (λ _. every-less (λ y. get_or q y 0 ≡ i) a x b ti) (λ t n. r.tags t);
          in_q = r.in_q;
        }

    pub pool-gone : Absent K (upd f i (a ++ b)) x
    pool-gone =
        let m : Member N nx pv (N + i) a x b = pool-member in
        upd-all (λ t l. t < K → Out x l) f i (a ++ b) (λ _. every_append (λ y. y ≢ x) a b m.not-before m.not_after) pool-elsewhere

  module _ (x : ℕ) (o : Absent K f x) where
    -- a node in no ring gets another tag
    pub pool_retagged : (w : ℕ) → Pool N K nx pv (set q x w) f
    pool_retagged w = record { rings = r.rings; tags = λ t t_k. tag_frame q t x w (f t) (o t t_k) (r.tags t t_k); in_q = rw length-set r.in_q }

    -- a node in no ring goes to the head of the ring of its tag
    pub pool-given : (j : ℕ) → j < K → x < N → get_or q x 0 ≡ j → Pool N K (attach_nx nx (N + j) x) (attach_pv nx pv (N + j) x) q (upd f j (x ∷ f j))
    pool-given j j_k x_n e =
        record {
          rings =
              upd-all (λ t l. t < K → Ring N (attach_nx nx (N + j) x) (attach_pv nx pv (N + j) x) (N + t) l) f j (x ∷ f j)
              (λ _. attach_own N nx pv (N + j) (f j) (r.rings j j_k) x x_n (o j j_k))
              (λ t n t_k. attach_other N nx pv (N + t) (f t) (r.rings t t_k) (N + j) x
              (omega arith, high N (N + j) (f t) (omega arith) (r.rings t t_k).nodes) (omega arith, o t t_k)
              (first_back N nx pv (N + j) (f j) (r.rings j j_k)).0);
          tags = upd-all (λ t l. t < K → Tagged q t l) f j (x ∷ f j) (λ _. (e, r.tags j j_k)) (λ t n. r.tags t);
          in_q = r.in_q;
        }

-- both at once: tagged and given
pub pool-pushed : (N K : ℕ) (nx pv q : List ℕ) (f : ℕ → List ℕ) → Pool N K nx pv q f → (x : ℕ) → Absent K f x → x < N → (j : ℕ) → j < K
    → Pool N K (attach_nx nx (N + j) x) (attach_pv nx pv (N + j) x) (set q x j) (upd f j (x ∷ f j))
pool-pushed N K nx pv q f r x o x_n j j_k =
    pool-given N K nx pv (set q x j) f (pool_retagged N K nx pv q f r x o j) x o j j_k x_n (get_or-set_same q x j 0 (omega (arith, r.in_q)))

-- ---- how many nodes there are

seg_nodup : (nx pv : List ℕ) (u : ℕ) (l : List ℕ) (v : ℕ) → Seg nx pv u l v → Out v l → Nodup l
seg_nodup nx pv u [] v h o = tt
seg_nodup nx pv u (x ∷ l) v h o = (no_return nx pv x l v h.1 o.1, seg_nodup nx pv x l v h.1 o.1)

module _ (N : ℕ) (nx pv : List ℕ) (s : ℕ) (l : List ℕ) (r : Ring N nx pv s l) where
  pub ring_nodup : Nodup l
  ring_nodup = seg_nodup nx pv s l s r.seg (ring_out N nx pv s l r)

  pub ring-short : length l ≤ N
  ring-short = nodup_few N l ring_nodup r.nodes

  -- a node outside is one that the ring does not count
  pub ring_shorter : (x : ℕ) → x < N → Out x l → length l < N
  ring_shorter x b o = omega (arith, nodup_few N (x ∷ l) (o, ring_nodup) (b, r.nodes))

  -- so a walk of N steps is enough to read the ring
  pub ring-read : trail nx s N s ≡ l
  ring-read = ring-walk N nx pv s l N r ring-short

pub ring-view : (N : ℕ) (nx pv : List ℕ) (t : ℕ) (l : List ℕ) → Ring N nx pv (N + t) l → view N nx t ≡ l
unfolding view
ring-view N nx pv t l r = ring-read N nx pv (N + t) l r

-- the rings 0 to k - 1 one after the other
abbrev pub cat : (ℕ → List ℕ) → ℕ → List ℕ
cat f zero = []
cat f (suc k) = f k ++ cat f k

find-cat : (f : ℕ → List ℕ) (x k : ℕ) → ((t : ℕ) × (t < k) × Among x (f t)) ⊎ Out x (cat f k)
find-cat f x zero = inr tt
find-cat f x (suc k) = step (among-or-out x (f k)) (find-cat f x k)
  where
    step : Among x (f k) ⊎ Out x (f k) → ((t : ℕ) × (t < k) × Among x (f t)) ⊎ Out x (cat f k) → ((t : ℕ) × (t < suc k) × Among x (f t)) ⊎ Out x (cat f (suc k))
    step (inl r) p = inl (k, omega arith, r)
    step (inr o) (inl p) = inl (p.0, omega (arith, p.1), p.2)
    step (inr o) (inr p) = inr (every_append (λ y. y ≢ x) (f k) (cat f k) o p)

module _ (N K : ℕ) (nx pv q : List ℕ) (f : ℕ → List ℕ) (r : Pool N K nx pv q f) where
  pub pool-view : (t : ℕ) → t < K → view N nx t ≡ f t
  pool-view t b = ring-view N nx pv t (f t) (r.rings t b)

  cat-all : (k : ℕ) → k ≤ K → Every (λ y. get_or q y 0 < k) (cat f k) × Every (λ y. y < N) (cat f k)
  cat-all zero le = (tt, tt)
  cat-all (suc k) le =
      let p : Every (λ y. get_or q y 0 < k) (cat f k) × Every (λ y. y < N) (cat f k) = cat-all k (omega arith) in (
        every_append (λ y. get_or q y 0 < suc k) (f k) (cat f k)
            (every_map (f k) (λ y (e : get_or q y 0 ≡ k). omega arith) (r.tags k (omega arith)))
            (every_map (cat f k) (λ y (e : get_or q y 0 < k). omega arith) p.0),
        every_append (λ y. y < N) (f k) (cat f k) (r.rings k (omega arith)).nodes p.1,
      )

  cat_nodup : (k : ℕ) → k ≤ K → Nodup (cat f k)
  cat_nodup zero le = tt
  cat_nodup (suc k) le =
      nodup_append (f k) (cat f k) (ring_nodup N nx pv (N + k) (f k) (r.rings k (omega arith))) (cat_nodup k (omega arith))
      (every_map (f k)
      (λ y (e : get_or q y 0 ≡ k). every_map (cat f k)
      (λ z (b : get_or q z 0 < k) d. omega (arith, ap (λ (i : ℕ). get_or q i 0) d)) (cat-all k (omega arith)).0)
      (r.tags k (omega arith)))

  -- where they have N, each node is in one, and its tag says which
  pub pool-full : N ≤ length (cat f K) → (x : ℕ) → x < N → (t : ℕ) × (t < K) × Among x (f t)
  pool-full le x b =
      ⊎_elim (λ p. p) (λ o. absurd (omega (arith, nodup_few N (x ∷ cat f K) (o, cat_nodup K (omega arith)) (b, (cat-all K (omega arith)).1)))) (find-cat f x K)
