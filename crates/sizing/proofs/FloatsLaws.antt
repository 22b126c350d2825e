-- What the code's tests say of a float: when it is a NaN, and when it is a ratio.
-- Assumes nothing.
use mathlib.Core.Path.{◌≡◌, refl, sym}
use mathlib.Core.Bool.{true, false, not, true≢false, false≢true}
use lib.Ieee.{Float, nan, inf, fin, is_nan, lt}
use Rattle.rules.specs.Sizing.{nought, is_bad_ratio}

pub is-nan : (x : Float) → is_nan x ≡ true → x ≡ nan
unfolding is_nan
is-nan nan h = refl
is-nan (inf s) h = absurd (false≢true h)
is-nan (fin s m e) h = absurd (false≢true h)

-- below zero
pub bad_below : (x : Float) → lt x nought ≡ true → true ≡ is_bad_ratio x
unfolding is_bad_ratio
bad_below nan h = refl
bad_below (inf s) h = refl
bad_below (fin s m e) h = sym h

-- and else: what is not below the infinity
pub bad_else : (x : Float) → lt x nought ≡ false → not (lt x (inf false)) ≡ is_bad_ratio x
unfolding is_bad_ratio lt
bad_else nan h = refl
bad_else (inf true) h = absurd (true≢false h)
bad_else (inf false) h = refl
bad_else (fin s m e) h = sym h
