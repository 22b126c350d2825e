-- What sizing means: from a capacity and two ratios to the limits, or to a refusal by its number (RULES 2, and the refusals 1 to 5 of RULES 8.1).
-- A float is lib.Ieee's: `fin s m e` is m * 2 ^ e exactly, with its sign apart, and num / den is its size as a fraction of two whole numbers.
-- Assumes nothing.
use Rattle.std.specs.Prelude.{Bool, false, not, ◌&&◌, ◌||◌, cond, List, ℕ, ◌+◌, ◌*◌, ◌/◌, ◌≤◌, ◌<◌, ltb, leb, eqb, pos, length, get_or, Float}
use Rattle.std.specs.Float.{fin, binary64}
use Rattle.std.specs.Float.Ieee.{mul, round, of_int, of_bits, lt}
use Rattle.std.specs.Float.Ieee.Positive.{num, den}
use Rattle.std.specs.Float.Ieee.Scale.{finite}
use Rattle.cells.specs.Cells.{le}
use Rattle.rules.specs.State.{Limits, most}
use Rattle.rules.specs.Bytes.{mark, marks}

-- ---- one limit: a product, taken to the nearest whole number

-- capacity times a ratio: one multiplication, rounded once
unfoldable pub product : ℕ → Float → Float
product capacity ratio = mul binary64 (of_int binary64 (pos capacity)) ratio

-- the whole number nearest to n / d, halves up: the floor of n / d + 1 / 2
unfoldable pub half_up : ℕ → ℕ → ℕ
half_up n d = (2 * n + d) / (2 * d)

-- of a finite float, by its size: what is accepted is not below zero, so its size is its value
unfoldable pub nearest : Float → ℕ
unfolding half_up
nearest p = half_up (num p) (den p)

-- 2c - 1 <= 2p < 2c + 1, with p = num p / den p, over whole numbers: what fixes c (RULES 2.2)
pub record Nearest (p : Float) (c : ℕ) : Type 0 where
  pub low : 2 * c * den p ≤ 2 * num p + den p
  pub high : 2 * num p < (2 * c + 1) * den p

-- ---- what is refused

-- 0.0 and 1.0
abbrev pub nought : Float
nought = fin false 0 (pos 0)

abbrev pub unit : Float
unit = fin false 1 (pos 0)

-- no ratio: a NaN, an infinity, or below zero, as floats compare; -0.0 is not
unfoldable pub is_bad_ratio : Float → Bool
unfolding lt
is_bad_ratio r = not (finite r) || lt r nought

-- the product gives more than l, an infinite one included
unfoldable pub beyond : ℕ → Float → Bool
unfolding nearest
beyond l p = not (finite p) || ltb l (nearest p)

-- ---- the answer

-- the limits, or a refusal: its number and its detail
pub data Sized : Type 0 where
  limits : Limits → Sized
  refused : ℕ → ℕ → Sized

-- the limits of a capacity and two ratios, where nothing is refused
unfoldable pub limits_for : ℕ → Float → Float → Limits
unfolding product nearest
limits_for capacity small ghost = record { capacity = capacity; small_limit = nearest (product capacity small); ghost_limit = nearest (product capacity ghost) }

-- at a largest capacity and ghost limit of `top`: the first line whose test holds
unfoldable pub sizing_up_to : ℕ → ℕ → Float → Float → Sized
unfolding is_bad_ratio beyond product lt limits_for
sizing_up_to top capacity small ghost =
    cond (eqb capacity 0) (refused 1 0)
    (cond (ltb top capacity) (refused 2 0)
    (cond (is_bad_ratio small || lt unit small) (refused 3 0)
    (cond (is_bad_ratio ghost) (refused 4 0)
    (cond (beyond top (product capacity ghost)) (refused 5 0)
    (limits (limits_for capacity small ghost))))))

-- the rule, at the one limit
abbrev pub sizing : ℕ → Float → Float → Sized
sizing = sizing_up_to most

-- ---- settings, and settings as bytes: the mark CF and three numbers of 8 bytes, the ratios as the bits of a double

-- what is asked for: a capacity, the small ratio and the ghost ratio; or the bytes are wrong or too few
pub data Asked : Type 0 where
  asks : ℕ → Float → Float → Asked
  no_settings : Asked

-- the default ratios, 0.1 and 0.9, each as the double nearest to it
abbrev pub defaults_for : ℕ → Asked
defaults_for capacity = asks capacity (round binary64 false 1 10) (round binary64 false 9 10)

-- the double whose bits stand at a place; every NaN pattern is the one `nan`
abbrev pub double : List ℕ → ℕ → Float
double s at = of_bits binary64 (le 8 s at)

-- the three numbers from a place on
abbrev pub settings_at : List ℕ → ℕ → Asked
settings_at s at = asks (le 8 s at) (double s (at + 8)) (double s (at + 16))

-- the bytes of CF, mark and all
abbrev pub settings_bytes : ℕ
settings_bytes = 26

-- what bytes that should start with CF ask for: C is 67, F is 70, and what follows the record is not looked at
unfoldable pub settings_of : List ℕ → Asked
settings_of s = cond (leb settings_bytes (length s) && marks (get_or s 0 0) (get_or s 1 0) (mark 67 70)) (settings_at s 2) no_settings
