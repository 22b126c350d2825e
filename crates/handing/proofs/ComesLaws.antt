-- Parts of a request: what comes of nothing, and of one change after the other.
-- Assumes nothing.
use mathlib.Core.Path.{◌≡◌, refl}
use mathlib.Core.List.{List}
use Prim.Native.Nat.{ℕ}
use Rattle.nodes.specs.declared.Shape.{Shape}
use Rattle.rules.specs.State.{State}
use Rattle.rules.specs.Records.{Reply, Outcome}
use Rattle.store.specs.Holds.{state_in, Keeps, Becomes}
use Rattle.store.proofs.KeepsLaws.{becomes_then}
use Rattle.handing.specs.Handing.{Comes}

-- nothing changes
pub becomes-same : {z : Shape} {s : List ℕ} → Keeps z s → Becomes z s s (state_in z s)
becomes-same k = record { keeps = k; state = refl; rest = refl }

-- a part of a request: from what the rules come to, and after a change of the state
module _ {z : Shape} {s : List ℕ} where
  pub comes_as : {s' : List ℕ} {o p : Outcome} {l : List Reply} → o ≡ p → Comes z s s' p l → Comes z s s' o l
  comes_as e c = rw e c

  pub comes_then : {s₁ s₂ : List ℕ} {τ : State} {l : List Reply} (f : State → Outcome) → Becomes z s s₁ τ → Comes z s₁ s₂ (f (state_in z s₁)) l
      → Comes z s s₂ (f τ) l
  comes_then f b c = let d = rw b.state at c in record { becomes = becomes_then b d.becomes; replies = d.replies }
