-- From what the code tests to what the rules ask: `cut` in the place of `nearest` and of `beyond`.
-- Assumes nothing.
use mathlib.Core.Path.{◌≡◌, refl, sym}
use mathlib.Core.Bool.{Bool, true, false, not, true≢false}
use mathlib.Core.List.{[], ◌∷◌, map}
use Prim.Native.Nat.{ℕ, ◌^◌, ◌≤◌, ◌<◌, min}
use native.Mathlib.Nat.{min-eq_left}
use native.Mathlib.Omega.{arith}
use lib.Dec.{T, ltb, ltb→lt, nltb→le}
use lib.Ieee.{Float, nan, inf, fin, round, mul, of_int, is_nan}
use lib.Ieee.Scale.{finite}
use borrow.Author.Tests.{lt-ltb, le-ltb, ltb-false}
use Rattle.rules.specs.Sizing.{product, nearest, beyond}
use Rattle.sizing.specs.Cut.{cut}
use Rattle.rules.specs.Traces.{dec}

-- the fourth row's product and the last row's: with a half added and then cut off the first would be 1, and with halves to even
-- the second would be 1,024
pub told-apart : map cut (product 1 (dec 49999999999999994 17) ∷ product 1024 (dec 100048828125 11) ∷ []) ≡ 0 ∷ 1025 ∷ []
unfolding cut product round mul of_int
told-apart = refl

min_ltb : (l n c : ℕ) → l < c → ltb l n ≡ ltb l (min n c)
min_ltb l n c h = go (ltb l n) (ltb→lt l n) (nltb→le l n)
  where
    go : (t : Bool) → (T t → l < n) → (T (not t) → n ≤ l) → t ≡ ltb l (min n c)
    go true p q = let k = p tt in sym (lt-ltb l (min n c) (omega arith))
    go false p q = let k = q tt in sym (le-ltb l (min n c) (omega arith))

-- the code's test of the cut number is the rules' test of the product
pub cut-beyond : (l : ℕ) (p : Float) → l < 2 ^ 52 → T (not (is_nan p)) → beyond l p ≡ ltb l (cut p)
unfolding cut beyond is_nan
cut-beyond l nan h n = absurd n
cut-beyond l (inf s) h n = sym (lt-ltb l (2 ^ 52) h)
cut-beyond l (fin s m e) h n = min_ltb l (nearest (fin s m e)) (2 ^ 52) h

-- what isn't cut off is the number itself
pub cut-nearest : (p : Float) → T (finite p) → nearest p ≤ 2 ^ 52 → cut p ≡ nearest p
unfolding cut
cut-nearest nan f h = absurd f
cut-nearest (inf s) f h = absurd f
cut-nearest (fin s m e) f h = min-eq_left h

-- what isn't beyond l is finite, and at most l
pub not_beyond : (l : ℕ) (p : Float) → beyond l p ≡ false → T (finite p) × (nearest p ≤ l)
unfolding beyond
not_beyond l nan h = absurd (true≢false h)
not_beyond l (inf s) h = absurd (true≢false h)
not_beyond l (fin s m e) h = (tt, ltb-false l (nearest (fin s m e)) h)
