-- `half_up n d`, the whole number nearest to n / d, halves up: what fixes it, that it sees only the fraction's value, and what it is for a pattern's digits.
-- Nothing here is about floats.
-- Assumes nothing.
use mathlib.Core.Path.{◌≡◌, sym, ap, ◌∙◌}
use Prim.Native.Nat.{ℕ, suc, ◌+◌, ◌-◌, ◌*◌, ◌/◌, ◌^◌, ◌≤◌, ◌<◌}
use native.Mathlib.Nat.{le_of_suc-le-suc, mul_comm, mul_assoc, mul-pos, mul-le-mul, div-eq_of_lt, div-eq_of_lt-le, div-mul-le_self, le-div_iff_mul-le}
use native.Mathlib.Nat.{div-lt_iff_lt-mul, add-div_right, div-div-eq-div-mul}
use native.Mathlib.Omega.{arith}
use lib.Pow.{pow-add, pow_pos, pow_mono, shl_lt}
use lib.Ieee.Nearest.{div_same}
use Rattle.rules.specs.Sizing.{half_up}

-- ---- the fraction's value is all that counts

pub same : (n d a l : ℕ) → 0 < d → 0 < l → n * l ≡ a * d → half_up n d ≡ half_up a l
unfolding half_up
same n d a l D L e =
    div_same (2 * n + d) (2 * d) (2 * a + l) (2 * l) (omega arith) (omega arith) (omega (arith, mul_comm d l))

-- below a half
pub under-half : (n d : ℕ) → 2 * n < d → half_up n d ≡ 0
unfolding half_up
under-half n d h = div-eq_of_lt (omega arith)

-- a divisor of 2 * k: the quotient by k, plus one, halved
pub by-even : (q k : ℕ) → 0 < k → half_up q (2 * k) ≡ (q / k + 1) / 2
unfolding half_up
by-even q k K =
    div_same (2 * q + 2 * k) (2 * (2 * k)) (q + k) (k * 2) (omega arith) (omega arith) (omega arith)
    ∙ sym (div-div-eq-div-mul (q + k) k 2)
    ∙ ap (λ (x : ℕ). x / 2) (add-div_right q K)

-- ---- what fixes the number: 2c - 1 <= 2n / d < 2c + 1

pub is : (n d : ℕ) → 0 < d → (2 * half_up n d * d ≤ 2 * n + d) × (2 * n < (2 * half_up n d + 1) * d)
unfolding half_up
is n d D =
    let c = (2 * n + d) / (2 * d) in
    let lo : c * (2 * d) ≤ 2 * n + d = div-mul-le_self (2 * n + d) (2 * d) in
    let hi : 2 * n + d < (c + 1) * (2 * d) = (div-lt_iff_lt-mul {k = 2 * d} {x = 2 * n + d} {y = c + 1} (omega arith)).0 (omega arith) in
    (omega arith, omega arith)

pub only : (n d c : ℕ) → 2 * c * d ≤ 2 * n + d → 2 * n < (2 * c + 1) * d → c ≡ half_up n d
unfolding half_up
only n d c lo hi = sym (div-eq_of_lt-le (2 * d) (omega arith) (omega arith))

-- a fraction up to c gives at most c
pub at_most : (n d c : ℕ) → 0 < d → n ≤ c * d → half_up n d ≤ c
unfolding half_up
at_most n d c D h = le_of_suc-le-suc ((div-lt_iff_lt-mul (omega arith)).1 (omega arith))

-- ---- q * 2 ^ j units of 2 ^ -l

-- below a half, where q has 53 digits at most
pub low : (q j l : ℕ) → q < 2 ^ 53 → 54 + j ≤ l → half_up (q * 2 ^ j) (2 ^ l) ≡ 0
low q j l q-small j-small =
    let size : q * 2 ^ j < 2 ^ (53 + j) = shl_lt 53 j q-small in
    let room : 1 + (53 + j) ≤ l = omega arith in
    let power = pow_mono room in
    under-half (q * 2 ^ j) (2 ^ l) (omega (arith, pow-add 2 1 (53 + j)))

-- from 2 ^ 52 on, where q has 53 digits
pub high : (q j l : ℕ) → 2 ^ 52 ≤ q → l ≤ j → 2 ^ 52 ≤ half_up (q * 2 ^ j) (2 ^ l)
unfolding half_up
high q j l q-large j-large =
    let size : 2 ^ 52 * 2 ^ l ≤ q * 2 ^ j = mul-le-mul q-large (pow_mono j-large) in
    (le-div_iff_mul-le (mul-pos (pow_pos 1) (pow_pos l))).1 (omega arith)

-- between: the digits shifted down to halves, plus one, halved
pub middle : (q j l : ℕ) → j < l → half_up (q * 2 ^ j) (2 ^ l) ≡ (q / 2 ^ (l - suc j) + 1) / 2
middle q j l j-small =
    let k = l - suc j in
    let whole : j + (1 + k) ≡ l = omega arith in
    let split : 2 ^ j * (2 * 2 ^ k) ≡ 2 ^ l =
    ap (λ (x : ℕ). 2 ^ j * x) (sym (pow-add 2 1 k)) ∙ sym (pow-add 2 j (1 + k)) ∙ ap (λ (x : ℕ). 2 ^ x) whole in
    same (q * 2 ^ j) (2 ^ l) q (2 * 2 ^ k) (pow_pos l) (mul-pos (pow_pos 1) (pow_pos k)) (mul_assoc q (2 ^ j) (2 * 2 ^ k) ∙ ap (λ (x : ℕ). q * x) split)
    ∙ by-even q (2 ^ k) (pow_pos k)
