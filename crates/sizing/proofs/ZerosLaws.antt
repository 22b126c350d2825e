-- A ratio of zero, with either sign: the limit is 0, and the sign makes no difference to what settings come to.
-- Assumes nothing.
use mathlib.Core.Path.{◌≡◌, refl, sym, ap, ◌∙◌}
use mathlib.Core.Bool.{Bool, true, false}
use Prim.Native.Nat.{ℕ, ◌*◌, ◌^◌, ◌≤◌, ◌<◌}
use native.Mathlib.Nat.{mul-one}
use native.Mathlib.Omega.{arith}
use lib.Dec.{lit<}
use lib.IntN.{ℤ, pos}
use lib.Ieee.{Float, nan, inf, fin, binary64, up, down, unlike, neg, round, mul, lt, of_int, of_bits}
use lib.Ieee.Fits.{down_pos}
use lib.Ieee.Scale.{finite, round_same}
use Rattle.rules.specs.Sizing.{limits, nought, is_bad_ratio, product, nearest, sizing_up_to}
use Rattle.sizing.specs.NearestBits.{sign_bit}
use Rattle.sizing.proofs.ProductsLaws.{product_finite}
use Rattle.sizing.proofs.CutLaws.{cut-nearest}
use Rattle.sizing.proofs.OrderLaws.{CapacityFits, RatiosFit, ghost_factors, accepted}

-- as bits, 0 is 0.0, and the sign alone is -0.0
pub zero_bits : (of_bits binary64 0 ≡ nought) × (of_bits binary64 sign_bit ≡ neg nought)
unfolding of_bits neg
zero_bits = (refl, refl)

-- ---- a product with zero

-- zero, with the sign t
abbrev zero : Bool → Float
zero t = fin t 0 (pos 0)

times_zero : (s t : Bool) (m : ℕ) (e : ℤ) → mul binary64 (fin s m e) (zero t) ≡ zero (unlike s t)
unfolding mul round
times_zero s t m e =
    let p : 0 < down e * 1 = rw (mul-one (down e)) (down_pos e) in
    round_same binary64 (unlike s t) (m * up e * (0 * 1)) (down e * 1) 0 1 p (lit< tt) (omega arith)

nothing : (t : Bool) (x : Float) → nearest (mul binary64 x (zero t)) ≡ 0
unfolding mul nearest
nothing t nan = refl
nothing t (inf s) = refl
nothing t (fin s m e) = ap nearest (times_zero s t m e)

as_finite : (t : Bool) (x : Float) → finite (mul binary64 x (zero t)) ≡ finite x
unfolding mul
as_finite t nan = refl
as_finite t (inf s) = refl
as_finite t (fin s m e) = ap finite (times_zero s t m e)

-- ---- the limits

-- a capacity times -0.0 goes to 0
pub zero-limit : (c : ℕ) → nearest (product c (neg nought)) ≡ 0
unfolding product neg
zero-limit c = nothing true _

module _ (top c : ℕ) where
  -- settings with -0.0 come to what they come to with 0.0
  pub small-zeros : (g : Float) → sizing_up_to top c (neg nought) g ≡ sizing_up_to top c nought g
  unfolding sizing_up_to product neg
  small-zeros g = simp (nothing true (of_int binary64 (pos c)), nothing false (of_int binary64 (pos c)))

  pub ghost_zeros : (s : Float) → sizing_up_to top c s (neg nought) ≡ sizing_up_to top c s nought
  unfolding sizing_up_to product neg
  ghost_zeros s =
      let x = of_int binary64 (pos c) in
      simp (nothing true x, nothing false x, as_finite true x, as_finite false x)

  -- and with -0.0 for both they are taken at any capacity, with limits of 0
  pub zeros-taken : top < 2 ^ 52 → (c ≡ 0 → ⊥) → c ≤ top
      → sizing_up_to top c (neg nought) (neg nought) ≡ limits (record { capacity = c; small_limit = 0; ghost_limit = 0 })
  unfolding is_bad_ratio lt neg
  zeros-taken h n l =
      let room : CapacityFits top c = record { limit = h; some = n; within = l } in
      let p : RatiosFit top c (neg nought) (neg nought) = record { small = record { room = room; ratio = refl; most = refl }; ratio = refl } in
      let k = cut-nearest (product c (neg nought)) (product_finite (ghost_factors p) refl) (omega (arith, zero-limit c)) ∙ zero-limit c in
      sym (accepted p (omega (arith, k))) ∙ ap (λ (m : ℕ). limits (record { capacity = c; small_limit = m; ghost_limit = m })) k
