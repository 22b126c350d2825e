-- A product by its size, the sign left aside: what rounding gives is an infinity or a number, and never a NaN.
-- Assumes nothing.
use mathlib.Core.Path.{◌≡◌, refl, sym, ap, ◌∙◌, subst}
use mathlib.Core.Bool.{Bool, true, false, not, ◌&&◌, ◌||◌, cond, true≢false}
use Prim.Native.Nat.{ℕ, zero, suc, ◌+◌, ◌*◌, ◌^◌, ◌≤◌, ◌<◌}
use native.Mathlib.Nat.{le_trans, le_of_eq, le_of_lt, mul_right_comm, mul-one, le_of_mul-le-mul_right}
use lib.Dec.{T, ltb, eqb, ltb→lt, eqb→eq}
use lib.Ieee.{Float, nan, inf, fin, Format, binary64, prec, emax, low, up, down, unlike, odd, units, round, mul, le, is_nan}
use lib.Ieee.Fits.{down_pos, and_l, round_is}
use lib.Ieee.Exact.{HasValue, odd_sign}
use lib.Ieee.Positive.{num, den}
use lib.Ieee.Scale.{finite}

-- ---- what `round` gives with the sign clear

pub data Rounded (f : Format) (x : Float) : Type 0 where
  endless : x ≡ inf false → Rounded f x
  number : (g : ℕ) → HasValue x false g (2 ^ low f) → Rounded f x

units-rounded : (f : Format) (q k : ℕ) → Rounded f (units f false q k)
unfolding units
units-rounded f q k = go (ltb (q * 2 ^ k) (2 ^ (low f + suc (emax f))))
  where
    go : (b : Bool) → Rounded f (cond b (odd (suc (prec f)) false q k (low f)) (inf false))
    go true = number (q * 2 ^ k) (odd_sign (suc (prec f)) false q k (low f))
    go false = endless refl

pub round_rounded : (f : Format) (a b : ℕ) → Rounded f (round f false a b)
round_rounded f a b = rw (round_is f false a b) (units-rounded f _ _)

-- ---- at most a whole number c, where c is a float

or-le : (a b : ℕ) (t : Bool) → T (ltb a b || (eqb a b && t)) → a ≤ b
or-le a b t = go (ltb a b) (ltb→lt a b)
  where
    go : (u : Bool) → (T u → a < b) → T (u || (eqb a b && t)) → a ≤ b
    go true p h = le_of_lt (p tt)
    go false p h = le_of_eq (eqb→eq a b (and_l (eqb a b) t h))

value-le : (x : Float) (g l : ℕ) (y : Float) (c : ℕ) → HasValue x false g l → HasValue y false c 1 → T (le x y) → T (finite x) × (num x ≤ c * den x)
unfolding le
value-le nan g l y c v w h = elim v [ ]
value-le (inf _) g l y c v w h = elim v [ ]
value-le (fin false m e) g l nan c v w h = elim w [ ]
value-le (fin false m e) g l (inf _) c v w h = elim w [ ]
value-le (fin true m e) g l y c v w h = absurd (true≢false v.0)
value-le (fin false m e) g l (fin true n d) c v w h = absurd (true≢false w.0)
value-le (fin false m e) g l (fin false n d) c v w h = (
  tt,
  le_of_mul-le-mul_right
      (le_trans (or-le (m * up e * down d) (n * up d * down e) true h)
      (le_of_eq (ap (λ (z : ℕ). z * down e) (sym (mul-one (n * up d)) ∙ w.1) ∙ mul_right_comm c (down d) (down e))))
      (down_pos d),
)

pub rounded-le : (f : Format) (x y : Float) (c : ℕ) → Rounded f x → HasValue y false c 1 → T (le x y) → T (finite x) × (num x ≤ c * den x)
unfolding le
rounded-le f x y c (number g v) w h = value-le x g (2 ^ low f) y c v w h
rounded-le f x y c (endless e) w h = absurd (no_inf y w (subst (λ (z : Float). T (le z y)) e h))
  where
    no_inf : (y : Float) → HasValue y false c 1 → T (le (inf false) y) → ⊥
    no_inf nan w h = elim w [ ]
    no_inf (inf _) w h = elim w [ ]
    no_inf (fin t n d) w h = h

-- ---- the size of a float: the sign cleared

abbrev pub mag : Float → Float
mag nan = nan
mag (inf s) = inf false
mag (fin s m e) = fin false m e

mag_odd : (d : ℕ) (s : Bool) (q k l : ℕ) → mag (odd d s q k l) ≡ odd d false q k l
unfolding odd
mag_odd d s zero k l = refl
mag_odd d s (suc q) k l = refl

mag-units : (f : Format) (s : Bool) (q k : ℕ) → mag (units f s q k) ≡ units f false q k
unfolding units
mag-units f s q k = go (ltb (q * 2 ^ k) (2 ^ (low f + suc (emax f))))
  where
    go : (b : Bool) → mag (cond b (odd (suc (prec f)) s q k (low f)) (inf s)) ≡ cond b (odd (suc (prec f)) false q k (low f)) (inf false)
    go true = mag_odd (suc (prec f)) s q k (low f)
    go false = refl

mag_round : (f : Format) (s : Bool) (a b : ℕ) → mag (round f s a b) ≡ round f false a b
mag_round f s a b = ap mag (round_is f s a b) ∙ mag-units f s _ _ ∙ sym (round_is f false a b)

pub rounded_no_nan : (f : Format) (x : Float) → Rounded f (mag x) → T (not (is_nan x))
unfolding is_nan
rounded_no_nan f nan (endless e) = subst (λ (z : Float). T (not (is_nan z))) (sym e) tt
rounded_no_nan f nan (number g v) = absurd v
rounded_no_nan f (inf t) k = tt
rounded_no_nan f (fin t m e) k = tt

pub mag_same : (x : Float) (c : ℕ) → T (finite (mag x)) × (num (mag x) ≤ c * den (mag x)) → T (finite x) × (num x ≤ c * den x)
mag_same nan c h = absurd h.0
mag_same (inf s) c h = absurd h.0
mag_same (fin s m e) c h = h

-- ---- the product of two numbers, by its size

pub mul-mag : (x r : Float) → T (finite x) → T (finite r) → mag (mul binary64 x r) ≡ round binary64 false (num x * num r) (den x * den r)
unfolding mul
mul-mag nan r f g = elim f [ ]
mul-mag (inf _) r f g = elim f [ ]
mul-mag (fin s m e) nan f g = elim g [ ]
mul-mag (fin s m e) (inf _) f g = elim g [ ]
mul-mag (fin s m e) (fin t n d) f g = mag_round binary64 (unlike s t) (m * up e * (n * up d)) (down e * down d)
