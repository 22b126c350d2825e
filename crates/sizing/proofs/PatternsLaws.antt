-- What a pattern of 64 bits says of the float that it stands for: `cut` worked out from the bits, as the code does.
-- Assumes nothing.
use mathlib.Core.Path.{◌≡◌, refl, sym, ap, ◌∙◌, subst}
use mathlib.Core.Bool.{Bool, true, false, not, cond}
use Prim.Native.Nat.{ℕ, zero, suc, ◌+◌, ◌-◌, ◌*◌, ◌/◌, ◌^◌, ◌≤◌, ◌<◌, min}
use native.Mathlib.Nat.{mul-one, div-le_self, min-eq_left, min-eq_right, le_of_suc-le-suc}
use native.Mathlib.Omega.{arith}
use lib.Dec.{T, eqb, eqb→eq, lit<}
use lib.Arith.{lt_of_le-ne}
use lib.Pow.{pow_pos}
use lib.Ieee.{Float, nan, inf, fin, binary64, up, down, odd, fits, is_nan, of_fields, of_bits, to_bits}
use lib.Ieee.Fits.{down_pos, eq→eqb}
use lib.Ieee.Bits.{of_bits-to_bits}
use lib.Ieee.Exact.{HasValue, odd_sign}
use Rattle.rules.specs.Sizing.{nearest, half_up}
use Rattle.sizing.specs.Cut.{cut}
use Rattle.sizing.specs.NearestBits.{negative, field, full, digits, units, BitsRead, endless, no_number, number}
use Rattle.sizing.proofs.RoundLaws.{same, low, high, middle}

-- ---- a pattern's fields, and the number that they stand for

read : (s : Bool) (x t : ℕ) → x < 2048 → BitsRead s x t (of_fields binary64 s x t)
unfolding of_fields
read s zero t h = number (lit< tt) (simp mul-one at (odd_sign 53 s t 0 1074))
read s (suc j) t h = go (eqb (suc j) full) (eqb→eq (suc j) full) (λ e. eq→eqb e) (eqb t 0)
  where
    go : (b : Bool) → (T b → suc j ≡ full) → (suc j ≡ full → T b) → (z : Bool)
        → BitsRead s (suc j) t (cond b (cond z (inf s) nan) (odd 53 s (2 ^ 52 + t) j 1074))
    go true p q true = endless (p tt) refl
    go true p q false = no_number (p tt) refl
    go false p q z = number (lt_of_le-ne (le_of_suc-le-suc h) q) (odd_sign 53 s (2 ^ 52 + t) j 1074)

pub read-bits : (b : ℕ) → BitsRead (negative b) (field b) (digits b) (of_bits binary64 b)
unfolding of_bits
read-bits b = read (negative b) (field b) (digits b) (omega arith)

-- ---- `half_up` of the units, by the field

low-units : (x t : ℕ) → t < 2 ^ 52 → x < 1022 → half_up (units x t) (2 ^ 1074) ≡ 0
low-units zero t h l = simp mul-one at (low t 0 1074 (omega arith) (omega arith))
low-units (suc j) t h l = low (2 ^ 52 + t) j 1074 (omega arith) (omega arith)

high-units : (x t : ℕ) → 1074 < x → 2 ^ 52 ≤ half_up (units x t) (2 ^ 1074)
high-units zero t l = absurd (omega arith)
high-units (suc j) t l = high (2 ^ 52 + t) j 1074 (omega arith) (omega arith)

middle-units : (x t : ℕ) → 1022 ≤ x → x ≤ 1074 → half_up (units x t) (2 ^ 1074) ≡ ((2 ^ 52 + t) / 2 ^ (1074 - x) + 1) / 2
middle-units zero t l h = absurd (omega arith)
middle-units (suc j) t l h = middle (2 ^ 52 + t) j 1074 (omega arith)

-- rounding sees only the value
pub nearest-value : (v : Float) (s : Bool) (u : ℕ) → HasValue v s u (2 ^ 1074) → nearest v ≡ half_up u (2 ^ 1074)
unfolding nearest
nearest-value nan s u h = absurd h
nearest-value (inf t) s u h = absurd h
nearest-value (fin t m e) s u h = same (m * up e) (down e) u (2 ^ 1074) (down_pos e) (pow_pos 1074) h.1

cut-value : (v : Float) (s : Bool) (u : ℕ) → HasValue v s u (2 ^ 1074) → cut v ≡ min (half_up u (2 ^ 1074)) (2 ^ 52)
unfolding cut
cut-value nan s u h = absurd h
cut-value (inf t) s u h = absurd h
cut-value (fin t m e) s u h = ap (λ (x : ℕ). min x (2 ^ 52)) (nearest-value (fin t m e) s u h)

cut_inf : (v : Float) (s : Bool) → v ≡ inf s → 2 ^ 52 ≡ cut v
unfolding cut
cut_inf v s e = sym (ap cut e)

no_nan : (v : Float) → T (not (is_nan v)) → v ≡ nan → ⊥
unfolding is_nan
no_nan v n e = subst (λ (x : Float). T (not (is_nan x))) e n

-- ---- of a value that the format holds and that is no NaN, by the bits that it has

module _ (v : Float) (F : T (fits binary64 v)) (N : T (not (is_nan v))) where
  abbrev bits : ℕ
  bits = to_bits binary64 v

  abbrev size : ℕ
  size = units (field bits) (digits bits)

  read_of : BitsRead (negative bits) (field bits) (digits bits) v
  read_of = rw (of_bits-to_bits binary64 v F) at (read-bits bits)

  pub cut_low : field bits < 1022 → 0 ≡ cut v
  cut_low l = elim read_of [
    | endless x e ↦ absurd (omega arith)
    | no_number x e ↦ absurd (omega arith)
    | number x h ↦ sym (cut-value v (negative bits) size h ∙ simp (low-units (field bits) (digits bits) (omega arith) l))
  ]

  pub cut_high : 1074 < field bits → 2 ^ 52 ≡ cut v
  cut_high l = elim read_of [
    | endless x e ↦ cut_inf v (negative bits) e
    | no_number x e ↦ absurd (no_nan v N e)
    | number x h ↦ sym (cut-value v (negative bits) size h ∙ min-eq_right (high-units (field bits) (digits bits) l))
  ]

  pub cut-middle : 1022 ≤ field bits → field bits ≤ 1074 → ((2 ^ 52 + digits bits) / 2 ^ (1074 - field bits) + 1) / 2 ≡ cut v
  cut-middle l u = elim read_of [
    | endless x e ↦ absurd (omega arith)
    | no_number x e ↦ absurd (omega arith)
    | number x h ↦
        sym
        (cut-value v (negative bits) size h
        ∙ simp (middle-units (field bits) (digits bits) l u) (min-eq_left (omega (arith, div-le_self (2 ^ 52 + digits bits) (2 ^ (1074 - field bits))))))
  ]
