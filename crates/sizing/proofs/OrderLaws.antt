-- The tests of the settings in their order, as the code makes them, and what the rules answer after each.
-- Assumes nothing.
use mathlib.Core.Path.{◌≡◌, sym, ◌∙◌}
use mathlib.Core.Bool.{true, false, cond}
use Prim.Native.Nat.{ℕ, ◌^◌, ◌≤◌, ◌<◌}
use native.Mathlib.Omega.{arith}
use lib.Dec.{ltb}
use lib.Ieee.{Float, lt}
use borrow.Author.Tests.{eq-eqb, ne_eqb, lt-ltb, le-ltb}
use Rattle.rules.specs.Sizing.{limits, refused, sizing_up_to, limits_for, is_bad_ratio, unit, product, nearest, beyond}
use Rattle.sizing.specs.Cut.{Factors, cut}
use Rattle.sizing.proofs.ProductsLaws.{product_no_nan, product_finite, small-at-most}
use Rattle.sizing.proofs.CutLaws.{cut-beyond, cut-nearest, not_beyond}

-- the first two tests are passed: the capacity is within the limit
pub record CapacityFits (top c : ℕ) : Type 0 where
  pub limit : top < 2 ^ 52
  pub some : c ≡ 0 → ⊥
  pub within : c ≤ top

-- and the small ratio's: it is a ratio, at most 1
pub record SmallFits (top c : ℕ) (s : Float) : Type 0 where
  pub room : CapacityFits top c
  pub ratio : is_bad_ratio s ≡ false
  pub most : lt unit s ≡ false

-- and the ghost ratio's: it is a ratio
pub record RatiosFit (top c : ℕ) (s g : Float) : Type 0 where
  pub small : SmallFits top c s
  pub ratio : is_bad_ratio g ≡ false

-- so both products may be made: a capacity within the limit is a double exactly
pub small_factors : {top c : ℕ} {s : Float} → SmallFits top c s → Factors c s
small_factors p = record { exact = omega arith; good = p.ratio }

pub ghost_factors : {top c : ℕ} {s g : Float} → RatiosFit top c s g → Factors c g
ghost_factors p = record { exact = omega arith; good = p.ratio }

module _ (top c : ℕ) (s g : Float) where
  pub is_1 : c ≡ 0 → refused 1 0 ≡ sizing_up_to top c s g
  unfolding sizing_up_to
  is_1 z = simp (eq-eqb c 0 z)

  pub is_2 : (c ≡ 0 → ⊥) → top < c → refused 2 0 ≡ sizing_up_to top c s g
  unfolding sizing_up_to
  is_2 n l = simp (ne_eqb c 0 n, lt-ltb top c l)

  pub is_3 : CapacityFits top c → is_bad_ratio s ≡ true → refused 3 0 ≡ sizing_up_to top c s g
  unfolding sizing_up_to
  is_3 r b = simp (ne_eqb c 0 r.some, le-ltb top c r.within, b)

  pub is_3_above : CapacityFits top c → is_bad_ratio s ≡ false → lt unit s ≡ true → refused 3 0 ≡ sizing_up_to top c s g
  unfolding sizing_up_to
  is_3_above r b l = simp (ne_eqb c 0 r.some, le-ltb top c r.within, b, l)

  pub is_4 : SmallFits top c s → is_bad_ratio g ≡ true → refused 4 0 ≡ sizing_up_to top c s g
  unfolding sizing_up_to
  is_4 p b = simp (ne_eqb c 0 p.room.some, le-ltb top c p.room.within, p.ratio, p.most, b)

-- past the tests of the settings, that of the ghost limit is left
module _ {top c : ℕ} {s g : Float} (p : RatiosFit top c s g) where
  left : sizing_up_to top c s g ≡ cond (beyond top (product c g)) (refused 5 0) (limits (limits_for c s g))
  unfolding sizing_up_to
  left = simp (ne_eqb c 0 p.small.room.some, le-ltb top c p.small.room.within, p.small.ratio, p.small.most, p.ratio)

  tested : beyond top (product c g) ≡ ltb top (cut (product c g))
  tested = cut-beyond top (product c g) p.small.room.limit (product_no_nan (ghost_factors p))

  small_is : cut (product c s) ≡ nearest (product c s)
  small_is =
      let f = small_factors p.small in
      let n = small-at-most f p.small.most in
      cut-nearest (product c s) (product_finite f p.small.most) (omega arith)

  pub is_5 : top < cut (product c g) → refused 5 0 ≡ sizing_up_to top c s g
  is_5 l = sym (left ∙ simp (tested ∙ lt-ltb top (cut (product c g)) l))

  pub accepted : cut (product c g) ≤ top
      → limits (record { capacity = c; small_limit = cut (product c s); ghost_limit = cut (product c g) }) ≡ sizing_up_to top c s g
  unfolding limits_for
  accepted l =
      let b = not_beyond top (product c g) (tested ∙ le-ltb top (cut (product c g)) l) in
      sym (left ∙ simp (tested ∙ le-ltb top (cut (product c g)) l, small_is, cut-nearest (product c g) b.0 (omega arith)))
