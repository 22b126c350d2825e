-- Laws of the four lists: what take and push make of them, that both may be called, where a node stands, what the ends and the lengths say.
-- Assumes nothing.
use mathlib.Core.Path.{◌≡◌, sym, ap, ◌∙◌, subst}
use mathlib.Core.Logic.{◌≢◌}
use mathlib.Core.List.{List, [], ◌∷◌, ◌++◌}
use Prim.Native.Nat.{ℕ, zero, suc, ◌+◌, ◌-◌, ◌≤◌, ◌<◌}
use native.Mathlib.Omega.{arith}
use lib.ListN.{length, get_or, set, length-set, length-append}
use lib.Seq.{get_or-set_same, get_or-set_other}
use Rattle.cells.specs.Members.{Out, Among}
use Rattle.nodes.specs.Nodes.{Head, Next, Prev, Queue, Cols, cols, over, GetsField}
use Rattle.nodes.specs.declared.Shape.{Shape}
use Rattle.lists.specs.Ring.{First, Last, Ring, Tagged}
use Rattle.lists.specs.Pool.{Absent, upd, view}
use Rattle.lists.specs.Lists.{list_count, many, Lists, in_all, unlink, link, detached, attached, CanDetach, Detached, CanAttach}
use Rattle.lists.proofs.RingLaws.{attach_nx, attach_pv, detach_nx, detach_pv, Member, first_back, ring-first, ring-last}
use Rattle.lists.proofs.PoolLaws.{upd-all, pool-member, pool-tag, pool-elsewhere, pool-taken, pool-gone, pool-pushed, pool-view, cat}
use Rattle.lists.proofs.PoolLaws.{pool-full, ring_shorter}

-- what holds of 0 to 3 holds below 4
pub four : (P : ℕ → Type 0) → P 0 → P 1 → P 2 → P 3 → (t : ℕ) → t < 4 → P t
four P a b c d zero h = a
four P a b c d (suc zero) h = b
four P a b c d (suc (suc zero)) h = c
four P a b c d (suc (suc (suc zero))) h = d
four P a b c d (suc (suc (suc (suc t)))) h = absurd (omega arith)

-- the length of list t was written; the others' stand where they stood
count_set : (h : List ℕ) (f : ℕ → List ℕ) → ((t : ℕ) → t < list_count → get_or h (4 + t) 0 ≡ length (f t)) → 8 ≤ length h → (i : ℕ) → i < list_count
    → (l : List ℕ) (n : ℕ) → n ≡ length l
    → (t : ℕ) → t < list_count → get_or (set h (4 + i) n) (4 + t) 0 ≡ length (upd f i l t)
count_set h f k b i i_k l n e =
    upd-all (λ t m. t < list_count → get_or (set h (4 + i) n) (4 + t) 0 ≡ length m) f i l (λ _. get_or-set_same h (4 + i) n 0 (omega arith) ∙ e)
    (λ t ne t_k. get_or-set_other h (4 + i) (4 + t) n 0 (omega arith) ∙ k t t_k)

module _ {z : Shape} {c : Cols} {f : ℕ → List ℕ} (r : Lists z c f) where
  -- ---- take

  module _ {t : ℕ} (t_k : t < list_count) (a : List ℕ) (x : ℕ) (b : List ℕ) (e : f t ≡ a ++ x ∷ b) where
    pub lists-member : Member z.room (c Next) (c Prev) (z.room + t) a x b
    lists-member = pool-member z.room list_count (c Next) (c Prev) (c Queue) f r.pool t t_k a x b e

    pub lists-node : x < z.room
    lists-node = lists-member.node

    pub lists-tag : get_or (c Queue) x 0 ≡ t
    lists-tag = pool-tag z.room list_count (c Next) (c Prev) (c Queue) f r.pool t t_k a x b e

    -- a node stands once: not in another list, nor twice in its own
    pub lists-elsewhere : (i : ℕ) → i ≢ t → i < list_count → Out x (f i)
    lists-elsewhere = pool-elsewhere z.room list_count (c Next) (c Prev) (c Queue) f r.pool t t_k a x b e

    pub lists-once : Out x a × Out x b
    lists-once = (lists-member.not-before, lists-member.not_after)

    pub lists-some : many c t ≡ suc (length (a ++ b))
    lists-some = r.counts t t_k ∙ ap length e ∙ omega (arith, length-append a (x ∷ b), length-append a b)

    pub lists-take : Lists z (detached c t x) (upd f t (a ++ b))
    unfolding detached unlink over detach_nx detach_pv
    lists-take =
        record {
          pool = pool-taken z.room list_count (c Next) (c Prev) (c Queue) f r.pool t t_k a x b e;
          counts = count_set (c Head) f r.counts r.in_head t t_k (a ++ b) (many c t - 1) (omega (arith, lists-some));
          in_head = rw length-set r.in_head;
        }

    -- then x is in no list
    pub lists-gone : Absent list_count (upd f t (a ++ b)) x
    lists-gone = pool-gone z.room list_count (c Next) (c Prev) (c Queue) f r.pool t t_k a x b e

  -- ---- push

  pub lists_push : {x : ℕ} → Absent list_count f x → x < z.room → {t : ℕ} → t < list_count → Lists z (attached z c t x) (upd f t (x ∷ f t))
  unfolding attached link over attach_nx attach_pv
  lists_push {x} o x_n {t} t_k =
      record {
        pool = pool-pushed z.room list_count (c Next) (c Prev) (c Queue) f r.pool x o x_n t t_k;
        counts = count_set (c Head) f r.counts r.in_head t t_k (x ∷ f t) (many c t + 1) (omega (arith, r.counts t t_k));
        in_head = rw length-set r.in_head;
      }

  -- ---- members, lengths and ends

  module _ {t : ℕ} (t_k : t < list_count) where
    -- the same by a member's place
    pub among-node : {x : ℕ} → Among x (f t) → x < z.room
    among-node {x} p = lists-node t_k p.front x p.back p.is

    pub lists-ring : Ring z.room (c Next) (c Prev) (z.room + t) (f t)
    lists-ring = r.pool.rings t t_k

    -- the sentinel's next is in reach
    pub lists-first_in : get_or (c Next) (z.room + t) 0 < z.room + 4
    lists-first_in =
        let k : get_or (c Next) (z.room + t) 0 ≤ z.room + t = (first_back z.room (c Next) (c Prev) (z.room + t) (f t) lists-ring).1 in omega arith

    pub lists-view : view z.room (c Next) t ≡ f t
    lists-view = pool-view z.room list_count (c Next) (c Prev) (c Queue) f r.pool t t_k

    -- the sentinel's previous is the oldest node, its next the newest
    pub lists-tail : 1 ≤ many c t → Last (get_or (c Prev) (z.room + t) 0) (f t)
    lists-tail h = ring-last z.room (c Next) (c Prev) (z.room + t) (f t) lists-ring (omega (arith, r.counts t t_k))

    pub lists-head : 1 ≤ many c t → First (get_or (c Next) (z.room + t) 0) (f t)
    lists-head h = ring-first z.room (c Next) (c Prev) (z.room + t) (f t) lists-ring (omega (arith, r.counts t t_k))

  -- lists that are the same below their number are the same
  pub lists_ext : {g : ℕ → List ℕ} → ((t : ℕ) → t < list_count → f t ≡ g t) → Lists z c g
  lists_ext {g} e =
      record {
        pool = record {
          rings = λ t b. subst (λ (l : List ℕ). Ring z.room (c Next) (c Prev) (z.room + t) l) (e t b) (r.pool.rings t b);
          tags = λ t b. subst (λ (l : List ℕ). Tagged (c Queue) t l) (e t b) (r.pool.tags t b);
          in_q = r.pool.in_q;
        };
        counts = λ t b. r.counts t b ∙ ap length (e t b);
        in_head = r.in_head;
      }

  -- ---- how many there are in all

  all-four : length (cat f list_count) ≡ in_all f
  all-four =
      omega (
        arith,
        length-append (f 3) (f 2 ++ (f 1 ++ (f 0 ++ []))),
        length-append (f 2) (f 1 ++ (f 0 ++ [])),
        length-append (f 1) (f 0 ++ []),
        length-append (f 0) [],
      )

  -- where every node is in a list, its tag says in which
  module _ (w : in_all f ≡ z.room) (x : ℕ) (b : x < z.room) where
    found : (t : ℕ) × (t < list_count) × Among x (f t)
    found = pool-full z.room list_count (c Next) (c Prev) (c Queue) f r.pool (omega (arith, all-four)) x b

    found-tag : get_or (c Queue) x 0 ≡ found.0
    found-tag = lists-tag found.1 found.2.front x found.2.back found.2.is

    pub lists-tagged : get_or (c Queue) x 0 < list_count
    lists-tagged = omega (arith, found-tag, found.1)

    pub lists-place : {t : ℕ} → get_or (c Queue) x 0 ≡ t → Among x (f t)
    lists-place {t} e = subst (λ (i : ℕ). Among x (f i)) (sym found-tag ∙ e) found.2

-- ---- take and push may be called

module _ {z : Shape} {s : List ℕ} {f : ℕ → List ℕ} (r : Lists z (cols z s) f) {t : ℕ} (t_k : t < list_count) where
  pub can_take : {x : ℕ} → Among x (f t) → CanDetach z s t x
  can_take {x} p =
      let m : Member z.room (cols z s Next) (cols z s Prev) (z.room + t) p.front x p.back = lists-member r t_k p.front x p.back p.is in
      let n : many (cols z s) t ≡ suc (length (p.front ++ p.back)) = lists-some r t_k p.front x p.back p.is in
      record { list = t_k; node = m.node; next_in = omega arith; prev_in = omega arith; some = omega arith }

  pub can_push : {x : ℕ} → Absent list_count f x → x < z.room → CanAttach z s t x
  can_push {x} o b =
      record {
        list = t_k;
        node = b;
        next_in = lists-first_in r t_k;
        space = omega (arith, r.counts t t_k, ring_shorter z.room (cols z s Next) (cols z s Prev) (z.room + t) (f t) (lists-ring r t_k) x b (o t t_k));
      }

  -- what was read of a list is its length
  pub read_length : {n : ℕ} → GetsField z s Head (4 + t) n → n ≡ length (f t)
  read_length a = a.value ∙ r.counts t t_k

  -- take, of stores
  pub lists_took : {s' : List ℕ} {x : ℕ} → Detached z s s' t x → (a b : List ℕ) → f t ≡ a ++ x ∷ b → Lists z (cols z s') (upd f t (a ++ b))
  lists_took {s'} {x} w a b e = rw w.columns (lists-take r t_k a x b e)

-- an end is a member
pub first-among : {x : ℕ} {l : List ℕ} → First x l → Among x l
first-among p = record { front = []; back = p.back; is = p.is }
