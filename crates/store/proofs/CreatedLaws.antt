-- A store set up from any bytes holds the empty state with its limits.
-- Assumes nothing.
use mathlib.Core.Path.{◌≡◌, refl, sym, ap, ◌∙◌, subst}
use mathlib.Core.List.{List, map}
use Prim.Native.Nat.{ℕ, ◌≤◌}
use native.Mathlib.Omega.{arith}
use lib.ListN.{length, get_or, set, length-set}
use lib.Seq.{get_or-set_same, get_or-set_other}
use Rattle.nodes.specs.Nodes.{Head, Rest, cols, over, Room}
use Rattle.nodes.specs.declared.Shape.{Shape}
use Rattle.nodes.proofs.NodesLaws.{length-cols, room-kept}
use Rattle.pool.specs.Carries.{PoolSetUp}
use Rattle.rules.specs.State.{Limits, Small, Main, empty_at, Fine, Sound}
use Rattle.rules.specs.Refusals.{store_bytes}
use Rattle.rules.proofs.SoundLaws.{empty-sound}
use Rattle.store.specs.Holds.{entry_at, key_at, limits_in, state_in, shape_for, Holds}
use Rattle.store.specs.Created.{limited, Limited, SetUp}
use Rattle.store.proofs.ShownLaws.{limits-aside}
use Rattle.store.proofs.KeepsLaws.{kind, ghost_kind}
use Rattle.store.proofs.HoldsLaws.{shape_room, room_for}

-- ---- the limits in the header

-- what three cells written one after the other hold
three_set : (h : List ℕ) (a b c : ℕ) → length h ≡ 16
    → (get_or (set (set (set h 0 a) 1 b) 2 c) 0 0 ≡ a) × (get_or (set (set (set h 0 a) 1 b) 2 c) 1 0 ≡ b) × (get_or (set (set (set h 0 a) 1 b) 2 c) 2 0 ≡ c)
three_set h a b c n = (
  get_or-set_other (set (set h 0 a) 1 b) 2 0 c 0 (omega arith) ∙ get_or-set_other (set h 0 a) 1 0 b 0 (omega arith) ∙ get_or-set_same h 0 a 0 (omega arith),
  get_or-set_other (set (set h 0 a) 1 b) 2 1 c 0 (omega arith) ∙ get_or-set_same (set h 0 a) 1 b 0 (simp length-set (omega arith)),
  get_or-set_same (set (set h 0 a) 1 b) 2 c 0 (simp length-set (omega arith)),
)

module _ {z : Shape} {s s' : List ℕ} {L : Limits} (w : Limited z s s' L) where
  limited-limits : limits_in (cols z s') ≡ L
  unfolding limited over
  limited-limits =
      let t = three_set (cols z s Head) L.capacity L.small_limit L.ghost_limit (length-cols z s Head refl) in
      ap limits_in w.columns ∙ (λ i. record { capacity = t.0 i; small_limit = t.1 i; ghost_limit = t.2 i })

  limited-rest : cols z s' Rest ≡ cols z s Rest
  unfolding limited over
  limited-rest = rw w.columns

  pub limited-room : Fine L → store_bytes ≤ length s → z ≡ shape_for L → length s' ≡ length s → Room z s'
  limited-room f h e n = let r : Room z s = room_for f h e in room-kept r n

-- ---- and the pool set up behind it

set-up-state : {z : Shape} {s s' : List ℕ} → PoolSetUp z s s' → state_in z s' ≡ empty_at (limits_in (cols z s))
unfolding state_in
set-up-state {z} {s} {s'} l = λ i.
    record {
      limits = limits-aside l.aside i;
      small = map (entry_at (cols z s')) (l.none 1 (kind Small) i);
      main = map (entry_at (cols z s')) (l.none 2 (kind Main) i);
      ghosts = map (key_at (cols z s')) (l.none 3 ghost_kind i);
    }

made : {L : Limits} {s s₁ s₂ : List ℕ} → Fine L → store_bytes ≤ length s₂ → Limited (shape_for L) s s₁ L → PoolSetUp (shape_for L) s₁ s₂ → SetUp L s s₂
made {L} {s} {s₁} {s₂} f b w l =
    let e : state_in (shape_for L) s₂ ≡ empty_at L = set-up-state l ∙ ap empty_at (limited-limits w) in
    record {
      held = record {
        keeps = record {
          room = shape_room f b;
          pooled = record { carries = l.carries };
          shaped = ap shape_for (sym (limits-aside l.aside ∙ limited-limits w));
        };
        sound = subst Sound (sym e) (empty-sound L f);
      };
      state = e;
      rest = l.aside.rest ∙ limited-rest w;
    }

pub created : {L : Limits} {z : Shape} {s s₁ s₂ : List ℕ} → Fine L → store_bytes ≤ length s → z ≡ shape_for L → length s₁ ≡ length s → length s₂ ≡ length s₁
    → Limited z s s₁ L → PoolSetUp z s₁ s₂ → SetUp L s s₂
created {L} {z} {s} {s₁} {s₂} f b e n₁ n₂ w l =
    made f (omega arith) (subst (λ (y : Shape). Limited y s s₁ L) e w) (subst (λ (y : Shape). PoolSetUp y s₁ s₂) e l)

-- so it is not damaged
pub created-holds : {L : Limits} {s s' : List ℕ} → SetUp L s s' → Holds s' (empty_at L)
created-holds h = record { held = h.held; state = h.state }
