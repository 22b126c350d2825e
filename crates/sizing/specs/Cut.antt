-- One limit in the code: what is multiplied, and what one rounding gives.
-- Assumes nothing.
use Rattle.std.specs.Prelude.{◌≡◌, false, ℕ, ◌^◌, ◌≤◌, min, Float}
use Rattle.std.specs.Float.{nan, inf, fin}
use Rattle.rules.specs.Sizing.{is_bad_ratio, nearest}

-- a capacity that is a double exactly, and a ratio
pub record Factors (capacity : ℕ) (ratio : Float) : Type 0 where
  pub exact : capacity ≤ 2 ^ 53
  pub good : is_bad_ratio ratio ≡ false

-- the nearest whole number, cut off at 2 ^ 52, which an infinity gives too
unfoldable pub cut : Float → ℕ
unfolding nearest
cut nan = 0
cut (inf s) = 2 ^ 52
cut (fin s m e) = min (nearest (fin s m e)) (2 ^ 52)
