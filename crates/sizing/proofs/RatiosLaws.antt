-- Which patterns of bits are no ratio's.
-- Assumes nothing.
use mathlib.Core.Path.{◌≡◌, refl, sym, ap, ◌∙◌}
use mathlib.Core.Bool.{Bool, true, false, ◌&&◌, true≢false, false≢true}
use Prim.Native.Nat.{ℕ, zero, suc, ◌+◌, ◌*◌, ◌^◌, ◌≤◌, ◌<◌}
use native.Mathlib.Nat.{zero-mul, mul-pos}
use native.Mathlib.Omega.{arith}
use native.Mathlib.Decide.{ℕ_discrete, dec_lt}
use lib.Dec.{ltb}
use lib.Arith.{lt_of_le-ne}
use lib.Pow.{pow_pos}
use lib.Ieee.{Float, nan, inf, fin, binary64, up, down, lt, of_bits}
use lib.Ieee.Fits.{down_pos}
use lib.Ieee.Exact.{HasValue}
use borrow.Author.Tests.{eq-eqb, ne_eqb, lt-ltb, le-ltb, le-leb, lt-leb}
use Rattle.rules.specs.Sizing.{is_bad_ratio}
use Rattle.sizing.specs.NearestBits.{sign_bit, negative, field, full, digits, units, endless, no_number, number, no_ratio}
use Rattle.sizing.proofs.PatternsLaws.{read-bits}

-- a size is 0 in one measure exactly where it is in the other
some_alike : (a b c d : ℕ) → 0 < b → 0 < c → a * b ≡ d * c → ltb 0 a ≡ ltb 0 d
some_alike zero b c zero p q h = refl
some_alike zero b c (suc d) p q h = absurd (omega (arith, mul-pos {m = suc d} {n = c} (omega arith) q, zero-mul b))
some_alike (suc a) b c zero p q h = absurd (omega (arith, mul-pos {m = suc a} {n = b} (omega arith) p, zero-mul c))
some_alike (suc a) b c (suc d) p q h = lt-ltb 0 (suc a) (omega arith) ∙ sym (lt-ltb 0 (suc d) (omega arith))

bad_value : (v : Float) (s : Bool) (u : ℕ) → HasValue v s u (2 ^ 1074) → is_bad_ratio v ≡ (s && ltb 0 u)
unfolding is_bad_ratio lt
bad_value nan s u h = absurd h
bad_value (inf t) s u h = absurd h
bad_value (fin true m e) false u h = absurd (true≢false h.0)
bad_value (fin false m e) true u h = absurd (false≢true h.0)
bad_value (fin false m e) false u h = le-ltb (m * up e * 1) (0 * 1 * down e) (omega arith)
bad_value (fin true m e) true u h =
    let l : m * up e * 1 + 0 * 1 * down e ≡ m * up e = omega arith in
    ap (ltb 0) l ∙ some_alike (m * up e) (2 ^ 1074) (down e) u (pow_pos 1074) (down_pos e) h.1

some-units : (x t : ℕ) → 0 < x + t → ltb 0 (units x t) ≡ true
some-units zero t h = lt-ltb 0 t (omega arith)
some-units (suc j) t h = lt-ltb 0 ((2 ^ 52 + t) * 2 ^ j) (mul-pos (omega arith) (pow_pos j))

no_units : (x t : ℕ) → x ≡ 0 → t ≡ 0 → units x t ≡ 0
no_units zero t h g = g
no_units (suc j) t h g = absurd (omega arith)

-- of a number: it is below zero where its bits are above those of -0.0
below-zero : (b : ℕ) → b < 2 ^ 64 → (negative b && ltb 0 (units (field b) (digits b))) ≡ ltb sign_bit b
below-zero b h = above (dec_lt sign_bit b)
  where
    none : (s : Bool) → (s && false) ≡ false
    none true = refl
    none false = refl

    at_most : Dec (b ≡ sign_bit) → b ≤ sign_bit → (negative b && ltb 0 (units (field b) (digits b))) ≡ false
    at_most (yes e) l = simp (no_units (field b) (digits b) (omega arith) (omega arith)) (none (negative b))
    at_most (no n) l = simp (lt-leb sign_bit b (lt_of_le-ne l n))

    above : Dec (sign_bit < b) → (negative b && ltb 0 (units (field b) (digits b))) ≡ ltb sign_bit b
    above (yes l) =
        simp (le-leb sign_bit b (omega arith), some-units (field b) (digits b) (omega arith), lt-ltb sign_bit b l)
    above (no n) = at_most (ℕ_discrete b sign_bit) (omega arith) ∙ sym (le-ltb sign_bit b (omega arith))

pub ratio-bits : (b : ℕ) → b < 2 ^ 64 → is_bad_ratio (of_bits binary64 b) ≡ no_ratio b
unfolding is_bad_ratio
ratio-bits b h = elim (read-bits b) [
  | endless x e ↦ ap is_bad_ratio e ∙ sym (simp (eq-eqb (field b) full x))
  | no_number x e ↦ ap is_bad_ratio e ∙ sym (simp (eq-eqb (field b) full x))
  | number x v ↦
      bad_value (of_bits binary64 b) (negative b) (units (field b) (digits b)) v
      ∙ below-zero b h
      ∙ sym (simp (ne_eqb (field b) full (omega arith)))
]
