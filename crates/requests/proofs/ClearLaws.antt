-- Clear: the ghosts emptied and both queues drained, together.
-- Assumes nothing.
use mathlib.Core.Path.{◌≡◌, refl, ap, ◌∙◌}
use mathlib.Core.List.{List, []}
use Prim.Native.Nat.{ℕ}
use Rattle.nodes.specs.declared.Shape.{Shape}
use Rattle.rules.specs.State.{Small, Main, set_queue, empty_at}
use Rattle.rules.specs.Records.{CL, OK, says}
use Rattle.rules.specs.Requests.{apply}
use Rattle.store.specs.Holds.{state_in}
use Rattle.wire.specs.declared.Reply.TheVariants.{Cleared}
use Rattle.ghost_list.specs.Ghosts.{Emptied}
use Rattle.handing.specs.Handing.{Drained}
use Rattle.requests.specs.declared.Spoken.{Spoken}
use Rattle.requests.specs.Answers.{spoken_of, alone, Answers}
use Rattle.requests.proofs.KeyLaws.{answers}

-- ghosts and both queues
pub clears : {z : Shape} {s s₁ s₂ s₃ : List ℕ} → Emptied z s s₁ → Drained z s₁ s₂ Small → Drained z s₂ s₃ Main → {a : Spoken} → a ≡ alone Cleared
    → Answers z s s₃ CL a
unfolding apply
clears {z} {s} g d m w =
    answers (says (empty_at (state_in z s).limits) OK) refl
    (record {
      keeps = m.becomes.keeps;
      state = m.becomes.state ∙ ap (set_queue Main []) (d.becomes.state ∙ ap (set_queue Small []) g.becomes.state);
      rest = m.becomes.rest ∙ d.becomes.rest ∙ g.becomes.rest;
    })
    (ap spoken_of w) (λ u. absurd u)
