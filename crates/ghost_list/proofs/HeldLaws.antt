-- The ghost list's functions leave the residents as they are and keep a store sound, so that a caller can go on with it.
-- Assumes nothing.
use mathlib.Core.Path.{◌≡◌, refl, ap}
use mathlib.Core.Bool.{Bool, true, false}
use mathlib.Core.List.{List}
use Prim.Native.Nat.{ℕ, zero, suc, ◌+◌, ◌≤◌, ◌<◌}
use native.Mathlib.Omega.{arith}
use lib.Dec.{eqb}
use borrow.Author.Tests.{eq-eqb, eqb-true}
use Rattle.std.specs.Prelude.{Option}
use Rattle.nodes.specs.declared.Shape.{Shape}
use Rattle.rules.specs.declared.GuestBlock.{GuestBlock}
use Rattle.rules.specs.Parts.{bit, total, Split, missing, found, split_by}
use Rattle.rules.specs.State.{Limits, State, words, set_ghosts, keyed, wide, residents, Sound}
use Rattle.rules.specs.Ghosts.{without, record_ghost, remove_ghost}
use Rattle.rules.proofs.PartsLaws.{length-total, nil, Splits, split_law}
use Rattle.rules.proofs.GhostsLaws.{drop-total, record-total, record-length, lru_total, record-zero, record-there}
use Rattle.rules.proofs.SoundLaws.{Lessened, kept-sound, narrow_wide}
use Rattle.store.specs.Holds.{state_in, shape_for, Held, Becomes}
use Rattle.store.specs.Created.{SetUp}
use Rattle.ghost_list.specs.Ghosts.{Recorded, Lost, Took, GhostsAlone}

-- ---- fewer ghosts

fewer-ghosts : (σ : State) (g : List ℕ) → ((f : ℕ → ℕ) → total f g ≤ total f σ.ghosts) → Lessened σ (set_ghosts g σ)
fewer-ghosts σ g h =
    record {
      limits-are = refl;
      no_more = omega arith;
      no_oftener = λ k. omega (arith, h (λ y. bit (eqb k y)));
      no_warmer = omega arith;
      no_wider = omega (arith, h wide);
      ghosts-fit = λ few. omega (arith, length-total g, length-total σ.ghosts, h (λ y. 1));
    }

without-total : (f : ℕ → ℕ) (p : ℕ → Bool) (g : List ℕ) (t : Split ℕ) → Splits p g t → total f (without g t).ghosts ≤ total f g
without-total f p g missing h = omega arith
without-total f p g (found b x a) h = omega (arith, drop-total f b x a h.0)

remove_total : (f : ℕ → ℕ) (k : ℕ) (g : List ℕ) → total f (remove_ghost k g).ghosts ≤ total f g
unfolding remove_ghost
remove_total f k g = without-total f (eqb k) g (split_by (eqb k) g) (split_law (eqb k) g)

-- ---- a key is recorded

-- it stands there once
module _ (limit k : ℕ) (g : List ℕ) (h : total (λ y. bit (eqb k y)) g ≤ 1) where
  own-found : (b : List ℕ) (x : ℕ) (a : List ℕ) → split_by (eqb k) g ≡ found b x a → Splits (eqb k) g (found b x a) → (n : ℕ) → limit ≡ n
      → total (λ y. bit (eqb k y)) (record_ghost limit k g).ghosts ≤ 1
  own-found b x a e t zero q = rw (record-zero limit k g q) h
  own-found b x a e t (suc n) q =
      rw (record-there limit k g b x a (omega arith) e)
      (omega (arith, drop-total (λ y. bit (eqb k y)) b x a t.0, ap bit t.1, ap bit (eq-eqb k k refl)))

  own-by : (s : Split ℕ) → split_by (eqb k) g ≡ s → Splits (eqb k) g s → total (λ y. bit (eqb k y)) (record_ghost limit k g).ghosts ≤ 1
  own-by missing e t = omega (arith, record-total (λ y. bit (eqb k y)) limit k g, ap bit (eq-eqb k k refl))
  own-by (found b x a) e t = own-found b x a e t limit refl

  own-once : total (λ y. bit (eqb k y)) (record_ghost limit k g).ghosts ≤ 1
  own-once = own-by (split_by (eqb k) g) refl (split_law (eqb k) g)

module _ (σ : State) (k : ℕ) (absent : keyed k σ ≡ 0) (s : Sound σ) where
  once_by : (j : ℕ) (t : Bool) → eqb j k ≡ t → keyed j σ + total (λ y. bit (eqb j y)) (record_ghost σ.limits.ghost_limit k σ.ghosts).ghosts ≤ 1
  once_by j false e = omega (arith, record-total (λ y. bit (eqb j y)) σ.limits.ghost_limit k σ.ghosts, ap bit e, s.once j)
  once_by j true e = rw (eqb-true j k e) (omega (arith, absent, own-once σ.limits.ghost_limit k σ.ghosts (omega (arith, s.once k))))

  record-sound : k < words → Sound (set_ghosts (record_ghost σ.limits.ghost_limit k σ.ghosts).ghosts σ)
  record-sound w =
      record {
        fine = s.fine;
        within = s.within;
        once = λ j. once_by j (eqb j k) refl;
        cool_enough = s.cool_enough;
        few_ghosts = record-length σ.limits.ghost_limit k σ.ghosts s.few_ghosts;
        narrow = omega (arith, record-total wide σ.limits.ghost_limit k σ.ghosts, narrow_wide k w, s.narrow);
      }

-- ---- a store that holds a sound state holds one afterwards

module _ {z : Shape} {s s' : List ℕ} where
  held_with : {g : List ℕ} → Becomes z s s' (set_ghosts g (state_in z s)) → Sound (set_ghosts g (state_in z s)) → Held z s'
  held_with b h = record { keeps = b.keeps; sound = rw b.state h }

  held-less : {g : List ℕ} → Held z s → Becomes z s s' (set_ghosts g (state_in z s)) → ((f : ℕ → ℕ) → total f g ≤ total f (state_in z s).ghosts) → Held z s'
  held-less {g} h b l = held_with b (kept-sound (fewer-ghosts (state_in z s) g l) h.sound)

  pub recorded-held : {k : ℕ} {r : Option GuestBlock} → Held z s → keyed k (state_in z s) ≡ 0 → k < words → Recorded z s s' k r → Held z s'
  recorded-held {k} h n w g = held_with g.gave.becomes (record-sound (state_in z s) k n h.sound w)

  pub took_held : {k : ℕ} {r : Bool} → Held z s → Took z s s' k r → Held z s'
  took_held {k} h t = held-less h t.becomes (λ f. remove_total f k (state_in z s).ghosts)

  pub lost_held : {r : Option GuestBlock} → Held z s → Lost z s s' r → Held z s'
  lost_held h g = held-less h g.gave.becomes (λ f. lru_total f (state_in z s).ghosts)

-- ---- and one with no resident has none

module _ {z : Shape} {s : List ℕ} (o : GhostsAlone z s) where
  pub alone-keyed : (k : ℕ) → keyed k (state_in z s) ≡ 0
  alone-keyed k =
      let a = nil (state_in z s).small (omega (arith, length-total (state_in z s).small, o.none)) in
      let b = nil (state_in z s).main (omega (arith, length-total (state_in z s).main, o.none)) in
      rw (a, b)

  module _ {s' : List ℕ} where
    alone-with : {g : List ℕ} → Becomes z s s' (set_ghosts g (state_in z s)) → Held z s' → GhostsAlone z s'
    alone-with b h = record { held = h; none = omega (arith, ap residents b.state, o.none) }

    pub recorded-alone : {k : ℕ} {r : Option GuestBlock} → k < words → Recorded z s s' k r → GhostsAlone z s'
    recorded-alone {k} w g = alone-with g.gave.becomes (recorded-held o.held (alone-keyed k) w g)

    pub took_alone : {k : ℕ} {r : Bool} → Took z s s' k r → GhostsAlone z s'
    took_alone t = alone-with t.becomes (took_held o.held t)

    pub lost_alone : {r : Option GuestBlock} → Lost z s s' r → GhostsAlone z s'
    lost_alone g = alone-with g.gave.becomes (lost_held o.held g)

-- as in a fresh store
pub set-up-alone : {L : Limits} {s s' : List ℕ} → SetUp L s s' → GhostsAlone (shape_for L) s'
set-up-alone h = record { held = h.held; none = ap residents h.state }
