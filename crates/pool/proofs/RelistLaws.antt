-- A node goes from list t to the head of list u: by a detach and an attach, or, where both are one list, by its links alone.
-- Assumes nothing.
use mathlib.Core.Path.{◌≡◌, ap, ◌∙◌}
use mathlib.Core.List.{List}
use Prim.Native.Nat.{ℕ}
use Rattle.nodes.specs.Nodes.{Cols, cols}
use Rattle.nodes.specs.declared.Shape.{Shape}
use Rattle.lists.specs.Lists.{detached, attached, CanDetach, Detached, CanAttach, Attached, CanFront, ToFront}
use Rattle.lists.proofs.ListsLaws.{lists-node, lists-gone, lists-take, lists_push, lists_took, can_take, can_push}
use Rattle.lists.proofs.FrontLaws.{front_same, can_front}
use Rattle.lists.proofs.FrameLaws.{same_then, detached-same, attached-same, detached-queue, attached-queue}
use Rattle.pool.specs.Relist.{CanRelist, Relisted}

module _ {z : Shape} {s : List ℕ} {t u x : ℕ} (k : CanRelist z s t u x) where
  -- both ways leave the same columns
  relisted-by : {s' : List ℕ} → cols z s' ≡ attached z (detached (cols z s) t x) u x → Relisted z s s' t u x
  relisted-by e = record {
    untouched = rw e (same_then (detached-same (cols z s) k.from x) (attached-same (detached (cols z s) t x) k.to x z));
    queue = rw (e, attached-queue, detached-queue);
    of = λ f r a b i. rw e (lists_push (lists-take r k.from a x b i) (lists-gone r k.from a x b i) (lists-node r k.from a x b i) k.to);
  }

  -- ---- from list to list

  pub relist_take : CanDetach z s t x
  relist_take = can_take k.lists k.from k.among

  module _ {s₁ : List ℕ} (w : Detached z s s₁ t x) where
    pub relist_push : CanAttach z s₁ u x
    relist_push =
        can_push (lists_took k.lists k.from w k.among.front k.among.back k.among.is) k.to
        (lists-gone k.lists k.from k.among.front x k.among.back k.among.is) relist_take.node

    pub relisted : {s₂ : List ℕ} → Attached z s₁ s₂ u x → Relisted z s s₂ t u x
    relisted p = relisted-by (p.columns ∙ ap (λ (c : Cols). attached z c u x) w.columns)

-- ---- within a list

module _ {z : Shape} {s : List ℕ} {t x : ℕ} (k : CanRelist z s t t x) where
  pub relist_front : CanFront z s t x
  relist_front = can_front k.lists k.from k.among

  pub relisted-front : {s' : List ℕ} → ToFront z s s' t x → Relisted z s s' t t x
  relisted-front w = relisted-by k (w.columns ∙ front_same k.lists k.from k.among)
