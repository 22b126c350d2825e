-- evict_one: eviction, and what is handed out after it, is what the rules say.
-- Assumes nothing.
use mathlib.Core.Path.{◌≡◌, refl, ap₂, ◌∙◌}
use mathlib.Core.List.{List, [], ◌∷◌, ◌++◌}
use Prim.Native.Nat.{ℕ}
use Rattle.nodes.specs.declared.Shape.{Shape}
use Rattle.rules.specs.Records.{EV, Reply, tell_first}
use Rattle.rules.specs.Eviction.{evict_if_full}
use Rattle.rules.specs.Requests.{apply, on_evict_one}
use Rattle.store.specs.Holds.{state_in}
use Rattle.wire.specs.declared.Reply.{Reply as Reply·}
use Rattle.wire.specs.Wire.{told}
use Rattle.evict.specs.declared.Evicted.{Evicted as Evicted·}
use Rattle.evict.specs.Evicts.{pushed_of, Makes}
use Rattle.handing.specs.Handing.{Comes, first_of}
use Rattle.handing.proofs.ComesLaws.{comes_then}
use Rattle.requests.specs.declared.Spoken.{Spoken}
use Rattle.requests.specs.Answers.{Answers}
use Rattle.requests.proofs.KeyLaws.{answers}

pub evicts_one : {z : Shape} {s s₁ s₂ : List ℕ} {w : Evicted·} → Makes z s s₁ (evict_if_full (state_in z s)) w → {c : Reply·}
    → Comes z s₁ s₂ (first_of (state_in z s₁)) (told c ∷ [])
    → (a : Spoken) → a.pushed ≡ w.pushed → a.closing ≡ c → Answers z s s₂ EV a
unfolding apply on_evict_one
evicts_one {z} {s} m {c} f a e d =
    let o = comes_then first_of m.becomes f in
    answers (tell_first (evict_if_full (state_in z s)).told (first_of (evict_if_full (state_in z s)).state)) refl o.becomes
    (ap₂ (λ p r. pushed_of p ++ (told r ∷ [])) e d ∙ ap₂ (λ (l m : List Reply). l ++ m) m.told o.replies) (λ u. absurd u)
