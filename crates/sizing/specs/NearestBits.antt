-- Which doubles are no ratios, and the nearest whole number to one, from a double's bits alone: no float has to be believed to read it.
-- Assumes nothing.
use Rattle.std.specs.Prelude.{◌≡◌, Bool, ◌||◌, ℕ, zero, suc, ◌+◌, ◌*◌, ◌/◌, ◌%◌, ◌^◌, ◌≤◌, ◌<◌, leb, ltb, eqb, Float}
use Rattle.std.specs.Float.{nan, inf}
use Rattle.std.specs.Float.Ieee.Exact.{HasValue}

-- ---- a pattern's fields, and the number that they stand for

-- the highest bit, the sign; alone it is -0.0
abbrev pub sign_bit : ℕ
sign_bit = 2 ^ 63

abbrev pub negative : ℕ → Bool
negative b = leb sign_bit b

abbrev pub field : ℕ → ℕ
field b = b % sign_bit / 2 ^ 52

-- the field of an infinity and of a NaN
abbrev pub full : ℕ
full = 2047

abbrev pub digits : ℕ → ℕ
digits b = b % 2 ^ 52

-- the size in units of 2 ^ -1074, by the exponent's field and the digits
abbrev pub units : ℕ → ℕ → ℕ
units zero t = t
units (suc j) t = (2 ^ 52 + t) * 2 ^ j

-- what sign, exponent's field and digits stand for; `read-bits` says it of every pattern
pub data BitsRead (s : Bool) (x t : ℕ) (v : Float) : Type 0 where
  endless : x ≡ full → v ≡ inf s → BitsRead s x t v
  no_number : x ≡ full → v ≡ nan → BitsRead s x t v
  number : x < full → HasValue v s (units x t) (2 ^ 1074) → BitsRead s x t v

-- no ratio's: an infinity's or a NaN's, or above those of -0.0
abbrev pub no_ratio : ℕ → Bool
no_ratio b = eqb (field b) full || ltb sign_bit b

-- c is nearest to the finite number with the bits b, halves up: 2c - 1 <= 2p < 2c + 1, where p is so many units
pub record NearestBits (b c : ℕ) : Type 0 where
  pub low : 2 * c * 2 ^ 1074 ≤ 2 * units (field b) (digits b) + 2 ^ 1074
  pub high : 2 * units (field b) (digits b) < (2 * c + 1) * 2 ^ 1074
