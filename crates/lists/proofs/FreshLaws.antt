-- Laws of setting up: the lists are emptied one by one, then the nodes are freed one by one.
-- Assumes nothing.
use mathlib.Core.Path.{◌≡◌, refl, sym, ap, ◌∙◌}
use mathlib.Core.Logic.{◌≢◌}
use mathlib.Core.List.{List, [], ◌∷◌}
use Prim.Native.Nat.{ℕ, zero, suc, ◌+◌, ◌≤◌, ◌<◌}
use native.Mathlib.Omega.{arith}
use borrow.Author.Count.{below_more}
use lib.ListN.{length, set, length-set}
use lib.Seq.{get_or-set_same, get_or-set_other}
use Rattle.cells.proofs.MembersLaws.{every_map}
use Rattle.cells.specs.Members.{Every, Out}
use Rattle.cells.proofs.TurnsLaws.{Turns, turns_start, turns_next, turns_end}
use Rattle.nodes.specs.Nodes.{Head, Next, Prev, Queue, Cols, cols, over, SetsField}
use Rattle.nodes.specs.declared.Shape.{Shape}
use Rattle.nodes.proofs.NodesLaws.{length-cols}
use Rattle.lists.specs.Ring.{Ring}
use Rattle.lists.specs.Pool.{Absent, upd}
use Rattle.lists.specs.Lists.{list_count, many, Lists, in_all, Untouched, CanAttach, Attached}
use Rattle.lists.specs.Fresh.{stack, all_free, Fresh, emptied, EmptyList}
use Rattle.lists.proofs.EveryLaws.{high}
use Rattle.lists.proofs.RingLaws.{ring_nx, ring_pv}
use Rattle.lists.proofs.ListsLaws.{four, lists_push, lists_ext, can_push}
use Rattle.lists.proofs.FrameLaws.{same-all, same_then, same-but, attached-same}

-- ---- a list is emptied

pub empty-done : {z : Shape} {s s₁ s₂ s₃ : List ℕ} {t : ℕ} → SetsField z s s₁ Next (z.room + t) (z.room + t)
    → SetsField z s₁ s₂ Prev (z.room + t) (z.room + t) → SetsField z s₂ s₃ Head (4 + t) 0 → EmptyList z s s₃ t
unfolding emptied
empty-done a b d = record { columns = d.columns ∙ rw (b.columns, a.columns) }

-- list i has no node
pub record Bare (z : Shape) (c : Cols) (i : ℕ) : Type 0 where
  pub ring : Ring z.room (c Next) (c Prev) (z.room + i) []
  pub count : many c i ≡ 0

module _ (z : Shape) (c : Cols) (t : ℕ) where
  emptied-same : t < list_count → Untouched c (emptied z c t)
  unfolding emptied over
  emptied-same b = same-but b refl refl refl refl refl refl (λ i n. get_or-set_other (c Head) (4 + t) i 0 0 n)

  emptied-own : z.room + t < length (c Next) → z.room + t < length (c Prev) → 4 + t < length (c Head) → Bare z (emptied z c t) t
  unfolding emptied over
  emptied-own n p h =
      record {
        ring = record {
          seg = (get_or-set_same (c Next) (z.room + t) (z.room + t) 0 n, get_or-set_same (c Prev) (z.room + t) (z.room + t) 0 p);
          nodes = tt;
          low = omega arith;
          in_nx = rw length-set n;
          in_pv = rw length-set p;
        };
        count = get_or-set_same (c Head) (4 + t) 0 0 h;
      }

  emptied-other : (i : ℕ) → i ≢ t → Bare z c i → Bare z (emptied z c t) i
  unfolding emptied over
  emptied-other i n b =
      let h : ℕ = z.room + t in
      let r : Ring z.room (set (c Next) h h) (c Prev) (z.room + i) [] =
      ring_nx z.room (c Next) (c Prev) (z.room + i) [] b.ring h h (omega arith, tt) in
      record {
        ring = ring_pv z.room (set (c Next) h h) (c Prev) (z.room + i) [] r h h (omega arith, tt);
        count = get_or-set_other (c Head) (4 + t) (4 + i) 0 0 (omega arith) ∙ b.count;
      }

-- the lists below t are empty
pub record EmptyingLists (z : Shape) (s₀ s : List ℕ) (t : ℕ) : Type 0 where
  pub bare : (i : ℕ) → i < t → Bare z (cols z s) i
  pub untouched : Untouched (cols z s₀) (cols z s)

emptying_start : (z : Shape) (s : List ℕ) → EmptyingLists z s s 0
emptying_start z s = record { bare = λ i b. absurd (omega arith); untouched = same-all (cols z s) }

module _ {z : Shape} {s₀ s : List ℕ} {t : ℕ} (e : EmptyingLists z s₀ s t) where
  emptying_next : {s₁ : List ℕ} → t < list_count → EmptyList z s s₁ t → EmptyingLists z s₀ s₁ (t + 1)
  emptying_next {s₁} b d =
      let c : Cols = cols z s in
      record {
        bare =
            rw d.columns
            (below_more (λ i. Bare z (emptied z c t) i) t (λ i h. emptied-other z c t i (omega arith) (e.bare i h))
            (emptied-own z c t (omega (arith, length-cols z s Next refl)) (omega (arith, length-cols z s Prev refl))
            (omega (arith, length-cols z s Head refl))));
        untouched = same_then e.untouched (rw d.columns (emptied-same z c t b));
      }

none : (i : ℕ) → i < list_count → all_free 0 i ≡ []
none = four (λ i. all_free 0 i ≡ []) refl refl refl refl

emptying_end : {z : Shape} {s₀ s : List ℕ} → EmptyingLists z s₀ s list_count → Fresh z s₀ s 0
emptying_end {z} {s₀} {s} d =
    record {
      lists = record {
        pool = record {
          rings = λ i b. rw (none i b) (d.bare i b).ring;
          tags = λ i b. rw (none i b) tt;
          in_q = omega (arith, length-cols z s Queue refl);
        };
        counts = λ i b. rw (none i b) (d.bare i b).count;
        in_head = omega (arith, length-cols z s Head refl);
      };
      untouched = d.untouched;
    }

-- one after the other, all four
pub emptied_all : {z : Shape} {s s₁ s₂ s₃ s₄ : List ℕ} → EmptyList z s s₁ 0 → EmptyList z s₁ s₂ 1 → EmptyList z s₂ s₃ 2 → EmptyList z s₃ s₄ 3
    → Fresh z s s₄ 0
emptied_all {z} {s} a b c d =
    emptying_end
    (emptying_next (emptying_next (emptying_next (emptying_next (emptying_start z s) (omega arith) a) (omega arith) b) (omega arith) c) (omega arith) d)

-- ---- the nodes are freed

pub stack-length : (n : ℕ) → length (stack n) ≡ n
stack-length zero = refl
stack-length (suc n) = ap suc (stack-length n)

stack-below : (n : ℕ) → Every (λ y. y < n) (stack n)
stack-below zero = tt
stack-below (suc n) = (omega arith, every_map (stack n) (λ y (b : y < n). omega arith) (stack-below n))

-- every node is in a list
pub free-total : (n : ℕ) → in_all (all_free n) ≡ n
free-total n = omega (arith, stack-length n)

free-out : (n : ℕ) → Absent list_count (all_free n) n
free-out n = four (λ t. Out n (all_free n t)) (high n n (stack n) (omega arith) (stack-below n)) tt tt tt

stack-next : (n : ℕ) → stack (n + 1) ≡ n ∷ stack n
stack-next n = ap stack (let e : n + 1 ≡ suc n = omega arith in e)

free-next : (n t : ℕ) → t < list_count → upd (all_free n) 0 (n ∷ all_free n 0) t ≡ all_free (n + 1) t
free-next n = four (λ t. upd (all_free n) 0 (n ∷ all_free n 0) t ≡ all_free (n + 1) t) (sym (stack-next n)) refl refl refl

pub freeing_start : {z : Shape} {s : List ℕ} → Lists z (cols z s) (all_free 0) → Turns (Fresh z s) z.room s s 0
freeing_start {z} {s} l = turns_start (record { lists = l; untouched = same-all (cols z s) })

-- the first x nodes are free
module _ {z : Shape} {s₀ s : List ℕ} {x : ℕ} (e : Turns (Fresh z s₀) z.room s₀ s x) where
  pub freeing_push : x < z.room → CanAttach z s 0 x
  freeing_push b = can_push e.so_far.lists (omega arith) (free-out x) b

  pub freeing_next : {s₁ : List ℕ} → x < z.room → Attached z s s₁ 0 x → length s₁ ≡ length s → Turns (Fresh z s₀) z.room s₀ s₁ (x + 1)
  freeing_next b p l =
      turns_next e b l
      (record {
        lists = rw p.columns (lists_ext (lists_push e.so_far.lists (free-out x) b (omega arith)) (free-next x));
        untouched = same_then e.so_far.untouched (rw p.columns (attached-same (cols z s) (omega arith) x z));
      })

  pub freeing_end : z.room ≤ x → Fresh z s₀ s z.room
  freeing_end h = turns_end e h
