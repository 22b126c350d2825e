-- The loop `for i in 0..n { f(s, i); }` over bytes: its start, its turn and its end.
-- Assumes nothing.
use mathlib.Core.Path.{◌≡◌, refl, ◌∙◌, subst}
use mathlib.Core.List.{List}
use Prim.Native.Nat.{ℕ, ◌+◌, ◌≤◌, ◌<◌}
use native.Mathlib.Omega.{arith}
use lib.ListN.{length}

-- i of n turns have led from s₀ to s, as many bytes, of which P holds with i
pub record Turns (P : List ℕ → ℕ → Type 0) (n : ℕ) (s₀ s : List ℕ) (i : ℕ) : Type 0 where
  pub kept : length s ≡ length s₀
  pub bound : i ≤ n
  pub so_far : P s i

module _ {P : List ℕ → ℕ → Type 0} {n : ℕ} where
  pub turns_start : {s : List ℕ} → P s 0 → Turns P n s s 0
  turns_start p = record { kept = refl; bound = omega arith; so_far = p }

  module _ {s₀ s : List ℕ} {i : ℕ} (e : Turns P n s₀ s i) where
    pub turns_next : {t : List ℕ} → i < n → length t ≡ length s → P t (i + 1) → Turns P n s₀ t (i + 1)
    turns_next b l p = record { kept = l ∙ e.kept; bound = omega arith; so_far = p }

    pub turns_end : n ≤ i → P s n
    turns_end h = let q : i ≡ n = omega (arith, e.bound) in subst (P s) q e.so_far
