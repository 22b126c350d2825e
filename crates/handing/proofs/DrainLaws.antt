-- A queue is drained by releasing its tail until it is empty.
-- Assumes nothing.
use mathlib.Core.Path.{◌≡◌, refl, sym, ap, ◌∙◌}
use mathlib.Core.List.{List, [], ◌∷◌, append-nil}
use Prim.Native.Nat.{ℕ, ◌≤◌, ◌<◌}
use native.Mathlib.Omega.{arith}
use lib.ListN.{length, length-append}
use Rattle.nodes.specs.declared.Shape.{Shape}
use Rattle.rules.specs.State.{Entry, State, Queue, queue_of, set_queue}
use Rattle.rules.proofs.PartsLaws.{nil}
use Rattle.rules.proofs.StateLaws.{set-again, set_own, own-queue}
use Rattle.store.specs.Holds.{state_in, rest_in, Keeps, Becomes}
use Rattle.store.specs.Seats.{Tail, EntryRemoved}
use Rattle.store.proofs.KeepsLaws.{seat-queue}
use Rattle.handing.specs.Handing.{Drained}

-- what is left when the queue is empty is as it was
pub record Draining (z : Shape) (s₀ s : List ℕ) (q : Queue) : Type 0 where
  pub keeps : Keeps z s
  pub state : set_queue q [] (state_in z s) ≡ set_queue q [] (state_in z s₀)
  pub rest : rest_in z s ≡ rest_in z s₀
  pub same : length s ≡ length s₀

pub left : Shape → Queue → List ℕ → ℕ
left z q s = length (queue_of q (state_in z s))

pub draining_start : {z : Shape} {s : List ℕ} (q : Queue) → Keeps z s → Draining z s s q
draining_start q k = record { keeps = k; state = refl; rest = refl; same = refl }

module _ {z : Shape} {s₀ s : List ℕ} {q : Queue} (c : Draining z s₀ s q) where
  module _ {s₁ : List ℕ} {x : ℕ} (t : Tail z s q x) (m : EntryRemoved z s s₁ q x) where
    fell : Becomes z s s₁ (set_queue q t.before (state_in z s))
    fell = rw (← append-nil t.before) (m.of t.before t.entry [] t.seat)

    pub draining_next : length s₁ ≡ length s → Draining z s₀ s₁ q
    draining_next n =
        record {
          keeps = fell.keeps;
          state = ap (set_queue q []) fell.state ∙ set-again q [] t.before (state_in z s) ∙ c.state;
          rest = fell.rest ∙ c.rest;
          same = n ∙ c.same;
        }

    pub draining_less : left z q s₁ < left z q s
    unfolding left
    draining_less =
        omega (
          arith,
          ap (λ (σ : State). length (queue_of q σ)) fell.state,
          ap length (own-queue q t.before (state_in z s)),
          ap length (seat-queue z s t.seat),
          length-append t.before (t.entry ∷ []),
        )

  pub draining_end : {n : ℕ} → n ≡ length (queue_of q (state_in z s)) → n ≤ 0 → Drained z s₀ s q
  draining_end e h =
      let v = nil (queue_of q (state_in z s)) (omega arith) in
      let e = sym (set_own q (state_in z s)) ∙ ap (λ (l : List Entry). set_queue q l (state_in z s)) v ∙ c.state in
      record { becomes = record { keeps = c.keeps; state = e; rest = c.rest } }
