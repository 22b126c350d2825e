-- A capacity times a ratio: it is no NaN, and where the ratio is at most 1 it is finite and rounds to at most the capacity.
-- Assumes nothing.
use mathlib.Core.Path.{◌≡◌, sym, ap, ◌∙◌}
use mathlib.Core.Bool.{true, false, not, true≢false}
use Prim.Native.Nat.{ℕ, ◌+◌, ◌*◌, ◌≤◌}
use native.Mathlib.Nat.{le_trans, le_of_eq, mul_assoc, mul-le-mul_left, mul-one, mul-pos}
use native.Mathlib.Omega.{arith}
use lib.Pow.{pow_pos}
use lib.Dec.{T}
use lib.Ieee.{Float, nan, inf, fin, binary64, up, down, round, lt, le, of_int, is_nan}
use lib.Ieee.Exact.{HasValue}
use lib.Ieee.Back.{round_whole}
use lib.Ieee.Order.{round_mono}
use lib.Ieee.Positive.{num, den, den_pos, value→cross}
use lib.Ieee.Scale.{finite}
use borrow.Author.Tests.{ltb-false}
use Rattle.rules.specs.Sizing.{unit, is_bad_ratio, product, nearest}
use Rattle.sizing.specs.Cut.{Factors}
use Rattle.sizing.proofs.RoundLaws.{at_most}
use Rattle.sizing.proofs.MagnitudeLaws.{Rounded, round_rounded, rounded-le, rounded_no_nan, mag, mag_same, mul-mag}

-- ---- what the rules let through

good_finite : (r : Float) → is_bad_ratio r ≡ false → T (finite r)
unfolding is_bad_ratio
good_finite nan b = absurd (true≢false b)
good_finite (inf s) b = absurd (true≢false b)
good_finite (fin s m e) b = tt

good-up-to-one : (r : Float) → is_bad_ratio r ≡ false → lt unit r ≡ false → num r ≤ den r
unfolding is_bad_ratio lt
good-up-to-one nan b u = absurd (true≢false b)
good-up-to-one (inf s) b u = absurd (true≢false b)
good-up-to-one (fin true n d) b u = omega (arith, ltb-false 0 (n * up d * 1 + 0 * 1 * down d) b)
good-up-to-one (fin false n d) b u = omega (arith, ltb-false (1 * 1 * down d) (n * up d * 1) u)

-- ---- the product

module _ {c : ℕ} {r : Float} (F : Factors c r) where
  -- the capacity as a float
  abbrev cap : Float
  cap = round binary64 false c 1

  whole : HasValue cap false c 1
  whole = round_whole binary64 false c F.exact

  -- numerator and denominator of the product before it is rounded
  abbrev n : ℕ
  n = num cap * num r

  abbrev d : ℕ
  d = den cap * den r

  value_finite : (x : Float) → HasValue x false c 1 → T (finite x)
  value_finite nan v = elim v [ ]
  value_finite (inf _) v = elim v [ ]
  value_finite (fin s m e) v = tt

  size_is : mag (product c r) ≡ round binary64 false n d
  unfolding product of_int
  size_is = mul-mag cap r (value_finite cap whole) (good_finite r F.good)

  rounded : Rounded binary64 (mag (product c r))
  rounded = rw size_is (round_rounded binary64 n d)

  pub product_no_nan : T (not (is_nan (product c r)))
  product_no_nan = rounded_no_nan binary64 (product c r) rounded

  below : lt unit r ≡ false → T (le (round binary64 false n d) cap)
  below u =
      round_mono binary64 n d c 1 (mul-pos (den_pos cap) (den_pos r)) (pow_pos 0)
      (le_trans (le_of_eq (mul-one n ∙ ap (λ (z : ℕ). z * num r) (sym (mul-one (num cap)) ∙ value→cross cap c 1 whole)))
      (le_trans (mul-le-mul_left (c * den cap) (good-up-to-one r F.good u)) (le_of_eq (mul_assoc c (den cap) (den r)))))

  small : lt unit r ≡ false → T (finite (product c r)) × (num (product c r) ≤ c * den (product c r))
  small u =
      mag_same (product c r) c (rounded-le binary64 (mag (product c r)) cap c rounded whole (rw size_is (below u)))

  pub product_finite : lt unit r ≡ false → T (finite (product c r))
  product_finite u = (small u).0

  pub small-at-most : lt unit r ≡ false → nearest (product c r) ≤ c
  unfolding nearest
  small-at-most u = at_most (num (product c r)) (den (product c r)) c (den_pos (product c r)) (small u).1
