-- The laws of one step: what was picked, popped and moved is the rules' step.
-- Assumes nothing.
use mathlib.Core.Path.{◌≡◌, sym, ap, ap₂, ◌∙◌}
use mathlib.Core.List.{List, [], append-nil}
use Prim.Native.Nat.{ℕ}
use native.Mathlib.Omega.{arith}
use Rattle.std.specs.Prelude.{Option, Some, None}
use Rattle.nodes.specs.declared.Shape.{Shape}
use Rattle.rules.specs.State.{State, Small, Main, set_queue}
use Rattle.rules.specs.Eviction.{moved, left, back, ghosted, step}
use Rattle.rules.proofs.EngineLaws.{step-moves, step-leaves}
use Rattle.rules.proofs.SoundLaws.{moved-sound, left-sound}
use Rattle.store.specs.declared.QueueKind.{QueueKind}
use Rattle.store.specs.declared.QueueKind.TheVariants.{Small as Small·, Main as Main·}
use Rattle.store.specs.Holds.{state_in, Held}
use Rattle.store.specs.Seats.{queue_kind, Seated, Tail, EntryRemoved}
use Rattle.store.proofs.LookLaws.{tail_seated}
use Rattle.ghost_list.specs.Ghosts.{RecordedTail}
use Rattle.evict.specs.declared.Cold.{Cold}
use Rattle.evict.specs.declared.Pushed.{Pushed}
use Rattle.evict.specs.Evicts.{Picks, PopsTail, StepsOn, Leaves}
use Rattle.evict.proofs.PopLaws.{cold-wanted}

-- ---- what leaves

pub leaves-small : {z : Shape} {s s' : List ℕ} {x : ℕ} (q : QueueKind) → q ≡ Small· → RecordedTail z s s' x → Leaves z s s' (queue_kind q) x
leaves-small q e m = rw e (record { of = m.of })

pub leaves-main : {z : Shape} {s s' : List ℕ} {x : ℕ} (q : QueueKind) → q ≡ Main· → EntryRemoved z s s' Main x → Leaves z s s' (queue_kind q) x
leaves-main {z} {s} {s'} {x} q e m = rw e (record { of = λ b y t. rw (← append-nil b) (m.of b y [] t) })

-- a tail of a known queue
pub tail-small : {z : Shape} {s : List ℕ} {x : ℕ} (q : QueueKind) → q ≡ Small· → Tail z s (queue_kind q) x → Tail z s Small x
tail-small q e t = rw e at t

pub seated_main : {z : Shape} {s : List ℕ} {x : ℕ} (q : QueueKind) → q ≡ Main· → Tail z s (queue_kind q) x → Seated z s Main x
seated_main q e t = rw e at (tail_seated t)

-- ---- the step

module _ {z : Shape} {s : List ℕ} (h : Held z s) (q : QueueKind) (v : Picks z s (queue_kind q)) {s₁ : List ℕ} {r : Option Cold}
    (p : PopsTail z s s₁ (queue_kind q) r) where
  pub steps-moved : r ≡ None → {a : Option Pushed} → a ≡ None → StepsOn z s s₁ (queue_kind q) a
  steps-moved e i =
      let σ : State = state_in z s in
      let w = p.went e in
      let n : step σ ≡ moved (queue_kind q) (back (queue_kind q) p.before p.entry σ) =
      step-moves σ (queue_kind q) p.before p.entry v.picked p.tail_is w.warm in
      record {
        held = record { keeps = w.becomes.keeps; sound = rw w.becomes.state (moved-sound n h.sound) };
        turn = rw i (n ∙ ap (moved (queue_kind q)) (sym w.becomes.state));
        from = λ p j. let n : ◌≡◌ {A = ℕ} 0 1 = cc in absurd (omega arith);
        rest = w.becomes.rest;
      }

  pub steps-left : {d : Cold} → r ≡ Some d → {s₂ : List ℕ} → Leaves z s₁ s₂ (queue_kind q) d.node
      → (a : Pushed) → a.from ≡ q → a.key ≡ d.key → a.value ≡ d.value → StepsOn z s s₂ (queue_kind q) (Some a)
  steps-left {d} e {s₂} m₀ a f k u =
      let σ : State = state_in z s in
      let c = p.stays d e in
      let m : Leaves z s s₂ (queue_kind q) d.node = rw c.same at m₀ in
      let n : step σ ≡ left (queue_kind q) p.entry (ghosted (queue_kind q) p.entry (set_queue (queue_kind q) p.before σ)) =
      step-leaves σ (queue_kind q) p.before p.entry v.picked p.tail_is (cold-wanted p e) in
      let b = m.of p.before p.entry c.seat in
      record {
        held = record { keeps = b.keeps; sound = rw b.state (left-sound n h.sound) };
        turn = rw (f, k, u) (n ∙ ap₂ (left (queue_kind q)) c.pair (sym b.state));
        from = λ p j. let same : a ≡ p = cc in ap queue_kind (ap (λ (y : Pushed). y.from) (sym same) ∙ f);
        rest = b.rest;
      }
