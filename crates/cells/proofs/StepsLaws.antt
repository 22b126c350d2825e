-- A number is read from its most significant byte on, and written from its least significant one on: the start, the turn and the end of each loop.
-- Assumes nothing.
use mathlib.Core.Path.{◌≡◌, refl, sym, subst, ◌∙◌}
use Prim.Native.Nat.{ℕ, zero, suc, ◌+◌, ◌-◌, ◌*◌, ◌/◌, ◌%◌, ◌^◌, ◌≤◌, ◌<◌}
use native.Mathlib.Nat.{pow-suc, add_assoc, add-zero, pow-le-pow_right}
use native.Mathlib.Omega.{arith}
use mathlib.Core.List.{List}
use lib.ListN.{length, get_or, set, length-set}
use Rattle.cells.specs.Cells.{le, put_le}

-- ---- reading

-- of w bytes from `at` on all but the first i were read: they spell v
pub record ReadDown (w : ℕ) (s : List ℕ) (at i v : ℕ) : Type 0 where
  pub done : ℕ
  pub all : i + done ≡ w
  pub is : v ≡ le done s (at + i)
  pub small : v < 256 ^ done

pub reading_start : (w : ℕ) (s : List ℕ) (at : ℕ) → ReadDown w s at w 0
unfolding le
reading_start w s at = record { done = 0; all = omega arith; is = refl; small = omega arith }

module _ {w : ℕ} {s : List ℕ} {at i v : ℕ} (r : ReadDown w s at i v) (h : 0 < i) where
  pub reading_next : get_or s (at + (i - 1)) 0 < 256 → ReadDown w s at (i - 1) (v * 256 + get_or s (at + (i - 1)) 0)
  unfolding le
  reading_next l =
      let e : at + i ≡ at + (i - 1) + 1 = omega arith in
      let t : v ≡ le r.done s (at + (i - 1) + 1) = rw (← e) r.is in
      record { done = suc r.done; all = omega (arith, r.all); is = omega (arith, t); small = rw pow-suc (omega (arith, r.small)) }

  -- one more byte fits in 64 bits
  pub reading_fits : w ≤ 8 → {b : ℕ} → b < 256 → v * 256 + b < 18446744073709551616
  reading_fits k l =
      let p : 256 ^ r.done ≤ 256 ^ 7 = pow-le-pow_right (omega arith) {j = 7} (omega (arith, r.all)) in
      omega (arith, r.small, p)

  pub reading_room : w ≤ 8 → v * 256 < 18446744073709551616
  reading_room k = omega (arith, reading_fits k {b = 0} (omega arith))

module _ {w : ℕ} {s : List ℕ} {at v : ℕ} (r : ReadDown w s at 0 v) where
  pub reading_end : v ≡ le w s at
  reading_end = let e : r.done ≡ w = omega (arith, r.all) in let z : at + 0 ≡ at = omega arith in rw (← e) (rw z at r.is)

  pub reading_small : v < 256 ^ w
  reading_small = let e : r.done ≡ w = omega (arith, r.all) in rw (← e) r.small

-- ---- writing

-- of w bytes from `at` on the first i were written, and the others are to hold `rest`
pub record WrittenUp (w : ℕ) (s₀ s : List ℕ) (at v i rest : ℕ) : Type 0 where
  pub left : ℕ
  pub all : i + left ≡ w
  pub kept : length s ≡ length s₀
  pub is : put_le w s₀ at v ≡ put_le left s (at + i) rest

pub writing_start : (w : ℕ) (s : List ℕ) (at v : ℕ) → WrittenUp w s s at v 0 v
writing_start w s at v = record { left = w; all = omega arith; kept = refl; is = rw (add-zero at) }

writing_more : (k w : ℕ) (s₀ s : List ℕ) (at v i rest : ℕ) → i + k ≡ w → i < w → put_le w s₀ at v ≡ put_le k s (at + i) rest
    → length s ≡ length s₀ → WrittenUp w s₀ (set s (at + i) (rest % 256)) at v (i + 1) (rest / 256)
unfolding put_le
writing_more zero w s₀ s at v i rest e h p l = absurd (omega arith)
writing_more (suc k) w s₀ s at v i rest e h p l =
    record { left = k; all = omega arith; kept = length-set s (at + i) (rest % 256) ∙ l; is = rw (← add_assoc at i 1) p }

module _ {w : ℕ} {s₀ s : List ℕ} {at v i rest : ℕ} (r : WrittenUp w s₀ s at v i rest) where
  pub writing_next : i < w → WrittenUp w s₀ (set s (at + i) (rest % 256)) at v (i + 1) (rest / 256)
  writing_next h = writing_more r.left w s₀ s at v i rest r.all h r.is r.kept

  pub writing_end : w ≤ i → s ≡ put_le w s₀ at v
  unfolding put_le
  writing_end h = let e : r.left ≡ 0 = omega (arith, r.all) in sym (subst (λ (k : ℕ). put_le w s₀ at v ≡ put_le k s (at + i) rest) e r.is)
