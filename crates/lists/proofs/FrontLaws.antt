-- A node of a list goes to the head of it: the same columns as after a detach and an attach, since its tag and the list's length stay.
-- Assumes nothing.
use mathlib.Core.Path.{◌≡◌, refl, sym, ap, ◌∙◌, fun_ext}
use mathlib.Core.List.{List}
use Prim.Native.Nat.{ℕ, ◌+◌, ◌-◌, ◌≤◌, ◌<◌}
use native.Mathlib.Omega.{arith}
use lib.ListN.{length, get_or, set}
use lib.Seq.{get_or-set_same, set-set, set-get_or}
use Rattle.cells.specs.Members.{Among}
use Rattle.nodes.specs.Nodes.{Field, Head, Key, Value, Next, Prev, Chain, Queue, Freq, Bucket, Rest, Cols, cols, over}
use Rattle.nodes.specs.declared.Shape.{Shape}
use Rattle.lists.specs.Lists.{list_count, Lists, unlink, link, detached, attached, fronted, CanDetach, CanFront}
use Rattle.lists.proofs.ListsLaws.{lists-take, lists-tag, lists-some, lists-first_in, can_take}

-- a number that is written less one, and then plus one, is the number that stood there
count-back : (h : List ℕ) (i : ℕ) → i < length h → 1 ≤ get_or h i 0 → set (set h i (get_or h i 0 - 1)) i (get_or (set h i (get_or h i 0 - 1)) i 0 + 1) ≡ h
count-back h i b n =
    let e : get_or (set h i (get_or h i 0 - 1)) i 0 + 1 ≡ get_or h i 0 = omega (arith, get_or-set_same h i (get_or h i 0 - 1) 0 b) in
    set-set h i (get_or h i 0 - 1) (get_or (set h i (get_or h i 0 - 1)) i 0 + 1) ∙ rw e (set-get_or h i 0)

module _ {z : Shape} {c : Cols} {f : ℕ → List ℕ} (r : Lists z c f) {t : ℕ} (t_k : t < list_count) {x : ℕ} (p : Among x (f t)) where
  -- field by field; the links are written alike
  front_at : (g : Field) → attached z (detached c t x) t x g ≡ fronted z c t x g
  unfolding fronted attached detached link unlink over
  front_at Head = count-back (c Head) (4 + t) (omega (arith, r.in_head)) (omega (arith, lists-some r t_k p.front x p.back p.is))
  front_at Key = refl
  front_at Value = refl
  front_at Next = refl
  front_at Prev = refl
  front_at Chain = refl
  front_at Queue = ap (set (c Queue) x) (sym (lists-tag r t_k p.front x p.back p.is)) ∙ set-get_or (c Queue) x 0
  front_at Freq = refl
  front_at Bucket = refl
  front_at Rest = refl

  pub front_same : fronted z c t x ≡ attached z (detached c t x) t x
  front_same = sym (fun_ext front_at)

  -- the head is in reach when x is out of its ring
  front-first : get_or (unlink c x Next) (z.room + t) 0 < z.room + 4
  unfolding detached over
  front-first = lists-first_in (lists-take r t_k p.front x p.back p.is) t_k

pub can_front : {z : Shape} {s : List ℕ} {f : ℕ → List ℕ} → Lists z (cols z s) f → {t : ℕ} → t < list_count → {x : ℕ} → Among x (f t) → CanFront z s t x
can_front {z} {s} r {t} t_k {x} p =
    let k : CanDetach z s t x = can_take r t_k p in
    record { list = t_k; node = k.node; next_in = k.next_in; prev_in = k.prev_in; first_in = front-first r t_k p }
