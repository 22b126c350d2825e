-- What the check's answer is to its callers: there is one only, a fresh store is never damaged, and neither is one that holds a state.
-- Assumes nothing.
use mathlib.Core.Path.{◌≡◌, refl, sym, ap, ◌∙◌}
use mathlib.Core.List.{List}
use Prim.Native.Nat.{ℕ}
use Rattle.nodes.specs.declared.Shape.{Shape}
use Rattle.std.specs.Prelude.{Result, Ok, Err}
use Rattle.rules.specs.declared.Turned.{Turned}
use Rattle.rules.specs.State.{Limits, empty_at}
use Rattle.store.specs.Holds.{state_in, Held, Holds}
use Rattle.store.specs.Created.{SetUp}
use Rattle.store.proofs.HoldsLaws.{held-holds, held_shape}
use Rattle.store.proofs.CreatedLaws.{created-holds}
use Rattle.soundness.specs.Checks.{Checks}

-- a sound store holds the state that it reads as
pub sound-holds : {s : List ℕ} {r : Result Shape Turned} {z : Shape} → Checks s r → r ≡ Ok z → Holds s (state_in z s)
sound-holds {z = z} h e = held-holds (h.sound z e)

-- a store that is as it should be is not damaged: what an accepted call leaves
pub held-passes : {z : Shape} {s : List ℕ} {r : Result Shape Turned} → Held z s → Checks s r → {e : Turned} → r ≡ Err e → ⊥
held-passes {z} {s} k h {e} i = h.damaged e i (state_in z s) (held-holds k)

-- nor is a fresh one
pub created-passes : {L : Limits} {s s' : List ℕ} {r : Result Shape Turned} → SetUp L s s' → Checks s' r → {e : Turned} → r ≡ Err e → ⊥
created-passes {L} k h {e} i = h.damaged e i (empty_at L) (created-holds k)

-- no two answers are right
pub checks_once : {s : List ℕ} (r q : Result Shape Turned) → Checks s r → Checks s q → r ≡ q
checks_once (Ok z) (Ok w) a b = ap Ok (held_shape (a.sound z refl) (b.sound w refl))
checks_once (Ok z) (Err d) a b = absurd (held-passes (a.sound z refl) b refl)
checks_once (Err e) (Ok w) a b = absurd (held-passes (b.sound w refl) a refl)
checks_once (Err e) (Err d) a b = ap Err (a.refusal e refl ∙ sym (b.refusal d refl))
