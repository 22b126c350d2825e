-- The rounding is the only number that the rule's inequality allows (RULES 2.2); and so it is from the bits.
-- Assumes nothing.
use mathlib.Core.Path.{◌≡◌, sym, ◌∙◌}
use Prim.Native.Nat.{ℕ, ◌^◌, ◌<◌}
use native.Mathlib.Omega.{arith}
use lib.Pow.{pow_pos}
use lib.Ieee.{Float, binary64, of_bits}
use lib.Ieee.Positive.{num, den, den_pos}
use Rattle.rules.specs.Sizing.{half_up, nearest, Nearest}
use Rattle.sizing.proofs.RoundLaws.{is, only}
use Rattle.sizing.specs.NearestBits.{negative, field, full, digits, units, endless, no_number, number, NearestBits}
use Rattle.sizing.proofs.PatternsLaws.{read-bits, nearest-value}

-- 2c - 1 <= 2p < 2c + 1 holds at the rounding
pub nearest-is : (p : Float) → Nearest p (nearest p)
unfolding nearest
nearest-is p = let h = is (num p) (den p) (den_pos p) in record { low = h.0; high = h.1 }

-- and at no other number
pub nearest-only : (p : Float) (c : ℕ) → Nearest p c → c ≡ nearest p
unfolding nearest
nearest-only p c h = only (num p) (den p) c h.low h.high

rounded : (b : ℕ) → field b < full → nearest (of_bits binary64 b) ≡ half_up (units (field b) (digits b)) (2 ^ 1074)
rounded b h = elim (read-bits b) [
  | endless x e ↦ absurd (omega arith)
  | no_number x e ↦ absurd (omega arith)
  | number x v ↦ nearest-value (of_bits binary64 b) (negative b) (units (field b) (digits b)) v
]

-- the same with the number read from the bits
pub nearest-bits : (b : ℕ) → field b < full → NearestBits b (nearest (of_bits binary64 b))
nearest-bits b h =
    let k = is (units (field b) (digits b)) (2 ^ 1074) (pow_pos 1074) in
    rw (rounded b h) (record { low = k.0; high = k.1 })

pub nearest-bits-only : (b c : ℕ) → field b < full → NearestBits b c → c ≡ nearest (of_bits binary64 b)
nearest-bits-only b c h k = only (units (field b) (digits b)) (2 ^ 1074) c k.low k.high ∙ sym (rounded b h)
