-- The laws of the loop: what is still to come completes the whole, and F falls.
-- Assumes nothing.
use mathlib.Core.Path.{◌≡◌, refl, sym, ap, ◌∙◌}
use mathlib.Core.Bool.{Bool, true, false, true≢false}
use mathlib.Core.List.{List, [], ◌∷◌}
use Prim.Native.Nat.{ℕ, ◌+◌, ◌*◌, ◌≤◌, ◌<◌}
use native.Mathlib.Omega.{arith}
use native.Mathlib.Nat.{zero-add}
use lib.ListN.{length}
use borrow.Author.Tests.{le-leb, lt-leb}
use mir.Syntax.{w64}
use mir.Val.{Fits}
use Rattle.std.specs.Prelude.{Option, Some, None}
use Rattle.std.specs.Option.{is_some}
use Rattle.nodes.specs.declared.Shape.{Shape}
use Rattle.rules.specs.State.{Entry, Queue, max_freq, most, fresh, residents, one, warmth}
use Rattle.rules.specs.Eviction.{moved, step, evict, evict_if_full, tell}
use Rattle.rules.proofs.PartsLaws.{length-total}
use Rattle.rules.proofs.EngineLaws.{after, after-moved, evict-left}
use Rattle.rules.proofs.EvictionLaws.{Moves, step_law, moves-total, moves_colder}
use Rattle.rules.proofs.SoundLaws.{warmth-most}
use Rattle.store.specs.Holds.{state_in, rest_in, Held}
use Rattle.store.specs.Seats.{queue_kind}
use Rattle.evict.specs.declared.Pushed.{Pushed}
use Rattle.evict.specs.declared.Evicted.{Evicted as Evicted·}
use Rattle.evict.specs.Evicts.{pushed_of, Steps, Makes}

-- after n pops the store s is where the eviction of s₀ goes on
pub record Going (z : Shape) (s₀ s : List ℕ) (n : ℕ) : Type 0 where
  pub held : Held z s
  pub some : 1 ≤ residents (state_in z s)
  pub on : evict (state_in z s₀) ≡ after n (evict (state_in z s))
  pub few : n + warmth (state_in z s) ≤ max_freq * most
  pub rest : rest_in z s ≡ rest_in z s₀
  pub same : length s ≡ length s₀

-- F of the state that a store holds: what falls
pub heat : Shape → List ℕ → ℕ
heat z s = warmth (state_in z s)

pub going_start : {z : Shape} {s : List ℕ} → Held z s → 1 ≤ residents (state_in z s) → Going z s s 0
going_start {z} {s} h some =
    record {
      held = h;
      some = some;
      on = (λ i. record { state = (evict (state_in z s)).state; told = (evict (state_in z s)).told; pops = sym (zero-add (evict (state_in z s)).pops) i });
      few = omega (arith, warmth-most (state_in z s) h.sound);
      rest = refl;
      same = refl;
    }

module _ {z : Shape} {s₀ s : List ℕ} {n : ℕ} (g : Going z s₀ s n) where
  pub going_few : n < 65536
  going_few = omega (arith, g.few)

  -- no pair left: the tail went to Main's head
  turned_to : {s₁ : List ℕ} (r : Option Pushed) (t : Steps z s s₁ r) → is_some r ≡ false → step (state_in z s) ≡ moved t.popped (state_in z s₁)
  turned_to None t e = t.on.turn
  turned_to (Some p) t e = absurd (true≢false e)

  module _ {s₁ : List ℕ} {r : Option Pushed} (t : Steps z s s₁ r) {b : Bool} (a : b ≡ is_some r) (e : b ≡ false) where
    turn_is : step (state_in z s) ≡ moved t.popped (state_in z s₁)
    turn_is = turned_to r t (sym a ∙ e)

    moves : Moves (state_in z s) t.popped (state_in z s₁)
    moves = rw turn_is at (step_law (state_in z s))

    cooler : warmth (state_in z s₁) < warmth (state_in z s)
    cooler = moves_colder g.held.sound.fine moves

    pub going_next : length s₁ ≡ length s → Going z s₀ s₁ (n + 1)
    going_next l =
        record {
          held = t.on.held;
          some = omega (arith, g.some, moves-total one (λ p y. refl) moves);
          on = g.on ∙ after-moved n (state_in z s) (state_in z s₁) t.popped g.held.sound.fine g.some turn_is;
          few = omega (arith, g.few, cooler);
          rest = t.on.rest ∙ g.rest;
          same = l ∙ g.same;
        }

    pub going_less : heat z s₁ < heat z s
    unfolding heat
    going_less = cooler

  pub going_end : {s₁ : List ℕ} (r : Option Pushed) → Steps z s s₁ r → {b : Bool} → b ≡ is_some r → b ≡ true
      → (w : Evicted·) → w.pushed ≡ r → w.pops ≡ n + 1 → Makes z s₀ s₁ (evict (state_in z s₀)) w
  going_end None t a e w m c = absurd (true≢false (sym e ∙ a))
  going_end {s₁} (Some p) t a e w m c =
      let q : Queue = queue_kind p.from in
      let y : Entry = fresh p.key.0 p.value.0 in
      let all : evict (state_in z s₀) ≡ record { state = state_in z s₁; told = tell q y ∷ []; pops = n + 1 } =
      g.on ∙ ap (after n) (evict-left (state_in z s) (state_in z s₁) q y g.held.sound.fine g.some t.on.turn) in
      rw all (record { becomes = record { keeps = t.on.held.keeps; state = refl; rest = t.on.rest ∙ g.rest }; told = ap pushed_of m; pops = c })

-- ---- eviction where the cache is full

module _ {z : Shape} {s : List ℕ} (h : Held z s) {n m : ℕ} (e : n ≡ residents (state_in z s)) (f : m ≡ (state_in z s).limits.capacity) where
  pub makes_nothing : n < m → (w : Evicted·) → w.pushed ≡ None → w.pops ≡ 0 → Makes z s s (evict_if_full (state_in z s)) w
  unfolding evict_if_full
  makes_nothing l w p c =
      rw (lt-leb (state_in z s).limits.capacity (residents (state_in z s)) (omega arith))
      (record { becomes = record { keeps = h.keeps; state = refl; rest = refl }; told = ap pushed_of p; pops = c })

  pub makes_full : m ≤ n → {s' : List ℕ} {w : Evicted·} → Makes z s s' (evict (state_in z s)) w → Makes z s s' (evict_if_full (state_in z s)) w
  unfolding evict_if_full
  makes_full l g = rw (le-leb (state_in z s).limits.capacity (residents (state_in z s)) (omega arith)) g

-- how many residents there are
module _ {z : Shape} {s : List ℕ} (h : Held z s) {a b : ℕ} (e : a ≡ length (state_in z s).small) (f : b ≡ length (state_in z s).main) where
  pub residents-are : a + b ≡ residents (state_in z s)
  residents-are = omega (arith, length-total (state_in z s).small, length-total (state_in z s).main)

  pub residents-fit : Fits w64 (a + b)
  residents-fit = omega (arith, residents-are, h.sound.within, h.sound.fine.capacity_fits)
