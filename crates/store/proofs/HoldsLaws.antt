-- What a store holds: one state at most, since the header stands at the same bytes whatever the limits are; and how large a store is by its limits.
-- Assumes nothing.
use mathlib.Core.Path.{◌≡◌, refl, sym, ap, ◌∙◌, subst}
use mathlib.Core.List.{List}
use Prim.Native.Nat.{ℕ, ◌≤◌}
use native.Mathlib.Omega.{arith}
use lib.ListN.{length}
use Rattle.nodes.specs.Nodes.{Head, cols, Room, GetsField}
use Rattle.nodes.specs.declared.Shape.{Shape}
use Rattle.rules.specs.State.{Limits, State, Fine}
use Rattle.rules.specs.Refusals.{store_bytes}
use Rattle.store.specs.Holds.{limits_in, state_in, shape_for, Held, Holds}
use Rattle.store.specs.Created.{Stated}
use Rattle.store.proofs.ShownLaws.{limits_by}

-- ---- the header

-- it stands in front of all that depends on the shape
pub same-header : (z w : Shape) (s : List ℕ) → cols z s Head ≡ cols w s Head
unfolding cols
same-header z w s = refl

pub same-limits : (z w : Shape) (s : List ℕ) → limits_in (cols z s) ≡ limits_in (cols w s)
same-limits z w s = ap limits_by (same-header z w s)

-- what was read of it at one shape stands there at every shape
pub stated : {z : Shape} {s : List ℕ} {L : Limits} → GetsField z s Head 0 L.capacity → GetsField z s Head 1 L.small_limit
    → GetsField z s Head 2 L.ghost_limit → Stated s L
stated {z} {s} a b c =
    record { limits = λ w. (λ i. record { capacity = a.value i; small_limit = b.value i; ghost_limit = c.value i }) ∙ same-limits z w s }

-- the state's limits are the header's
pub limits-shown : (z : Shape) (s : List ℕ) → (state_in z s).limits ≡ limits_in (cols z s)
unfolding state_in
limits-shown z s = refl

-- ---- one state

-- the limits that a store holds are its header's, by whatever shape it is read
pub holds-limits : {s : List ℕ} {σ : State} → Holds s σ → (z : Shape) → σ.limits ≡ limits_in (cols z s)
holds-limits {s} {σ} h z =
    sym (ap (λ (τ : State). τ.limits) h.state) ∙ limits-shown (shape_for σ.limits) s ∙ same-limits (shape_for σ.limits) z s

pub holds-once : {s : List ℕ} {σ τ : State} → Holds s σ → Holds s τ → σ ≡ τ
holds-once {s} {σ} {τ} h k =
    let l : σ.limits ≡ τ.limits = holds-limits h (shape_for τ.limits) ∙ sym (holds-limits k (shape_for τ.limits)) in
    sym h.state ∙ ap (λ (m : Limits). state_in (shape_for m) s) l ∙ k.state

-- what is held at a shape is held
pub held-holds : {z : Shape} {s : List ℕ} → Held z s → Holds s (state_in z s)
held-holds {z} {s} h =
    let e : z ≡ shape_for (state_in z s).limits = h.keeps.shaped ∙ ap shape_for (sym (limits-shown z s)) in
    record { held = subst (λ (w : Shape). Held w s) e h; state = ap (λ (w : Shape). state_in w s) (sym e) }

-- and a state is held at the header's shape alone
pub holds-held : {z : Shape} {s : List ℕ} {σ : State} → z ≡ shape_for (limits_in (cols z s)) → Holds s σ → Held z s
holds-held {z} {s} e h = subst (λ (w : Shape). Held w s) (ap shape_for (holds-limits h z) ∙ sym e) h.held

-- so there is one shape at most
pub held_shape : {z w : Shape} {s : List ℕ} → Held z s → Held w s → z ≡ w
held_shape {z} {w} {s} h k = h.keeps.shaped ∙ ap shape_for (same-limits z w s) ∙ sym k.keeps.shaped

-- ---- the size of a store

-- the one fixed size has room for all limits that are fine
pub shape_room : {L : Limits} {s : List ℕ} → Fine L → store_bytes ≤ length s → Room (shape_for L) s
shape_room f h =
    record {
      some_room = omega (arith, f.some_room);
      some_buckets = omega (arith, f.some_room);
      few = omega (arith, f.capacity_fits, f.ghost_fits);
      few_buckets = omega (arith, f.capacity_fits, f.ghost_fits);
      fits = omega (arith, f.capacity_fits, f.ghost_fits);
    }

-- the same for a shape that was worked out
pub room_for : {L : Limits} {z : Shape} {s : List ℕ} → Fine L → store_bytes ≤ length s → z ≡ shape_for L → Room z s
room_for {s = s} f h e = subst (λ (w : Shape). Room w s) (sym e) (shape_room f h)
