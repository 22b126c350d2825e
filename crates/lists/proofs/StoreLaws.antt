-- The stores of a function are one change of the columns.
-- Assumes nothing.
use mathlib.Core.Path.{◌∙◌}
use mathlib.Core.List.{List}
use Prim.Native.Nat.{ℕ, ◌+◌, ◌-◌}
use native.Mathlib.Omega.{arith}
use Rattle.nodes.specs.Nodes.{Head, Next, Prev, Queue, over, SetsField, GetsField}
use Rattle.nodes.specs.declared.Shape.{Shape}
use Rattle.lists.specs.Lists.{unlink, link, detached, attached, fronted, CanUnlink, Unlinked, CanLink, Linked, CanDetach, Detached, CanAttach, Attached}
use Rattle.lists.specs.Lists.{CanFront, ToFront}

module _ {z : Shape} where
  pub unlinked : {s s₁ s₂ : List ℕ} {x p n : ℕ} → GetsField z s Next x n → GetsField z s Prev x p → SetsField z s s₁ Next p n
      → SetsField z s₁ s₂ Prev n p → Unlinked z s s₂ x
  unfolding unlink
  unlinked a b d e = record { columns = e.columns ∙ rw (d.columns, a.value, b.value) }

  pub linked : {s s₁ s₂ s₃ s₄ : List ℕ} {h x n : ℕ} → GetsField z s Next h n → SetsField z s s₁ Next x n → SetsField z s₁ s₂ Next h x
      → SetsField z s₂ s₃ Prev x h → SetsField z s₃ s₄ Prev n x → Linked z s s₄ h x
  unfolding link
  linked a b d e g = record { columns = g.columns ∙ rw (e.columns, d.columns, b.columns, a.value) }

  pub detach_unlink : {s : List ℕ} {t x : ℕ} → CanDetach z s t x → CanUnlink z s x
  detach_unlink k = record { node = omega (arith, k.node); next_in = k.next_in; prev_in = k.prev_in }

  pub detach_done : {s s₁ s₂ : List ℕ} {t x n : ℕ} → GetsField z s Head (4 + t) n → Unlinked z s s₁ x → SetsField z s₁ s₂ Head (4 + t) (n - 1)
      → Detached z s s₂ t x
  unfolding detached
  detach_done a b d = record { columns = d.columns ∙ rw (b.columns, a.value) }

  -- the tag is no part of what linking reads
  pub attach_link : {s s₁ : List ℕ} {t x : ℕ} → CanAttach z s t x → SetsField z s s₁ Queue x t → CanLink z s₁ (z.room + t) x
  unfolding over
  attach_link k w = record { head = omega (arith, k.list); node = omega (arith, k.node); next_in = rw w.columns k.next_in }

  pub attach_done : {s s₁ s₂ s₃ : List ℕ} {t x n : ℕ} → GetsField z s Head (4 + t) n → SetsField z s s₁ Queue x t → Linked z s₁ s₂ (z.room + t) x
      → SetsField z s₂ s₃ Head (4 + t) (n + 1) → Attached z s s₃ t x
  unfolding attached
  attach_done a b d e = record { columns = e.columns ∙ rw (d.columns, b.columns, a.value) }

  pub front-unlink : {s : List ℕ} {t x : ℕ} → CanFront z s t x → CanUnlink z s x
  front-unlink k = record { node = omega (arith, k.node); next_in = k.next_in; prev_in = k.prev_in }

  pub front-link : {s s₁ : List ℕ} {t x : ℕ} → CanFront z s t x → Unlinked z s s₁ x → CanLink z s₁ (z.room + t) x
  front-link k w = record { head = omega (arith, k.list); node = omega (arith, k.node); next_in = rw w.columns k.first_in }

  pub front-done : {s s₁ s₂ : List ℕ} {t x : ℕ} → Unlinked z s s₁ x → Linked z s₁ s₂ (z.room + t) x → ToFront z s s₂ t x
  unfolding fronted
  front-done a b = record { columns = b.columns ∙ rw a.columns }
