-- The soundness check's tests, one by one, and what they come to.
-- Assumes nothing.
use mathlib.Core.Path.{◌≡◌, sym, ap, ◌∙◌, subst}
use mathlib.Core.Bool.{Bool, true, false, not}
use mathlib.Core.List.{List}
use Prim.Native.Nat.{ℕ, ◌+◌, ◌-◌, ◌≤◌, ◌<◌}
use native.Mathlib.Omega.{arith}
use lib.Dec.{leb}
use lib.ListN.{length}
use borrow.Author.Tests.{not-true, not-false, leb-true, leb-false}
use Rattle.cells.specs.Cells.{Bytes}
use Rattle.cells.specs.Decides.{Decides, All}
use Rattle.cells.proofs.DecidesLaws.{refuse, decides_map}
use Rattle.nodes.specs.Nodes.{Room}
use Rattle.nodes.specs.declared.Shape.{Shape}
use Rattle.pool.specs.Carries.{Pooled}
use Rattle.rules.specs.State.{Limits, State, residents, Fine}
use Rattle.std.specs.Prelude.{Result, Ok, Err}
use Rattle.rules.specs.declared.Turned.{Turned}
use Rattle.rules.specs.declared.Turned.TheVariants.{DamagedStore}
use Rattle.rules.specs.Refusals.{store_bytes}
use Rattle.rules.proofs.PartsLaws.{length-total}
use Rattle.store.specs.Holds.{state_in, shape_for, Keeps, Held, Holds}
use Rattle.store.specs.Created.{Stated}
use Rattle.store.proofs.PooledLaws.{pooled-places, bytes-narrow, nodes-cool, cool-nodes}
use Rattle.store.proofs.HoldsLaws.{limits-shown, holds-limits, holds-held, room_for}
use Rattle.soundness.specs.Checks.{Shaped, Few, Cool, Checks}

-- ---- limits

module _ {L : Limits} where
  -- past the test
  module _ {r : Bool} (d : Decides (Fine L) r) (e : not r ≡ false) where
    pub fine-held : Fine L
    fine-held = d.holds (not-false r e)

    pub fine-room : {z : Shape} {s : List ℕ} → store_bytes ≤ length s → z ≡ shape_for L → Room z s
    fine-room h i = room_for fine-held h i

    pub fine-shaped : {z : Shape} {s : List ℕ} → Stated s L → z ≡ shape_for L → Shaped z s
    fine-shaped {z} {s} l i = record { shaped = i ∙ ap shape_for (l.limits z); fine = subst Fine (l.limits z) fine-held }

-- ---- how many there are

pub sums : (σ : State) → residents σ ≡ length σ.small + length σ.main
sums σ = omega (arith, length-total σ.small, length-total σ.main)

-- the tests in their order, and what each says where it is the last
module _ {σ : State} {a m : ℕ} (ra : a ≡ σ.limits.capacity) (rm : m ≡ length σ.small) where
  pub small_crowded : a < m → Decides (Few σ) false
  small_crowded h = refuse (λ k. omega (arith, k.within, sums σ))

  module _ {n : ℕ} (rn : n ≡ length σ.main) where
    pub main_crowded : m ≤ a → a - m < n → Decides (Few σ) false
    main_crowded i h = refuse (λ k. omega (arith, k.within, sums σ))

    pub few_decides : m ≤ a → n ≤ a - m → {g l : ℕ} → l ≡ σ.limits.ghost_limit → g ≡ length σ.ghosts → Decides (Few σ) (leb g l)
    few_decides i h {g} {l} rl rg =
        record {
          holds = λ e. record { within = omega (arith, sums σ); few_ghosts = omega (arith, leb-true g l e) };
          fails = λ e k. omega (arith, leb-false g l e, k.few_ghosts);
        }

-- ---- at one shape

module _ {z : Shape} {s : List ℕ} where
  module _ {p : Bool} (d : Decides (Pooled z s) p) where
    pub no_pool : p ≡ false → {r : Bool} → r ≡ false → Decides (Held z s) r
    no_pool e i = rw i (refuse (λ h. d.fails e h.keeps.pooled))

    module _ (e : p ≡ true) (h : Shaped z s) where
      pub pool-keeps : Room z s → Keeps z s
      pool-keeps r = record { room = r; pooled = d.holds e; shaped = h.shaped }

      module _ {q : Bool} (g : Decides (Few (state_in z s)) q) where
        pub all_decide : Bytes s → Room z s → q ≡ true → {r : Bool} → Decides (All (Cool z s) z.room) r → Decides (Held z s) r
        all_decide b r i = decides_map to from
          where
            from : Held z s → All (Cool z s) z.room
            from k = record { all = λ y l. record { cool = cool-nodes z s k.keeps.pooled k.sound.cool_enough y l } }

            to : All (Cool z s) z.room → Held z s
            to a =
                let k : Keeps z s = pool-keeps r in
                let w : Few (state_in z s) = g.holds i in
                record {
                  keeps = k;
                  sound = record {
                    fine = subst Fine (sym (limits-shown z s)) h.fine;
                    within = w.within;
                    once = pooled-places z s k.pooled;
                    cool_enough = nodes-cool z s k.pooled (λ y l. (a.all y l).cool);
                    few_ghosts = w.few_ghosts;
                    narrow = bytes-narrow z s b;
                  };
                }

  pub too_many : {q : Bool} → Decides (Few (state_in z s)) q → q ≡ false → {r : Bool} → r ≡ false → Decides (Held z s) r
  too_many g e i = rw i (refuse (λ h. g.fails e (record { within = h.sound.within; few_ghosts = h.sound.few_ghosts })))

-- ---- the answer

module _ {s : List ℕ} where
  damaged-is : ((σ : State) → Holds s σ → ⊥) → Checks s (Err DamagedStore)
  damaged-is n =
      record {
        sound = λ z i. let j : ◌≡◌ {A = ℕ} 0 1 = cc in absurd (omega arith);
        refusal = λ e i. let j : DamagedStore ≡ e = cc in sym j;
        damaged = λ e i. n;
      }

  -- limits that are not fine
  pub bad_limits : {L : Limits} {r : Bool} → Stated s L → Decides (Fine L) r → not r ≡ true → Checks s (Err DamagedStore)
  bad_limits {L} {r} l d e =
      damaged-is (λ σ h. d.fails (not-true r e) (subst Fine (holds-limits h (shape_for σ.limits) ∙ sym (l.limits (shape_for σ.limits))) (fine_of σ h)))
    where
      fine_of : (σ : State) → Holds s σ → Fine σ.limits
      fine_of σ h = subst (λ (τ : State). Fine τ.limits) h.state h.held.sound.fine

  module _ {z : Shape} {r : Bool} (d : Decides (Held z s) r) where
    -- nothing is held at the header's shape
    pub not-held : {L : Limits} → Stated s L → z ≡ shape_for L → not r ≡ true → Checks s (Err DamagedStore)
    not-held l i e = damaged-is (λ σ h. d.fails (not-true r e) (holds-held (i ∙ ap shape_for (l.limits z)) h))

    pub is-sound : not r ≡ false → Checks s (Ok z)
    is-sound e =
        record {
          sound = λ w i. subst (λ (y : Shape). Held y s) (same_shape i) (d.holds (not-false r e));
          refusal = λ t i. let j : ◌≡◌ {A = ℕ} 0 1 = cc in absurd (omega arith);
          damaged = λ t i. let j : ◌≡◌ {A = ℕ} 0 1 = cc in absurd (omega arith);
        }
      where
        same_shape : {w : Shape} → ◌≡◌ {A = Result Shape Turned} (Ok z) (Ok w) → z ≡ w
        same_shape i = cc
