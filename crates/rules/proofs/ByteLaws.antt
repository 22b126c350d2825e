-- Parts of bytes are bytes, and so are bytes one after the other.
-- Assumes nothing.
use Prim.Native.Nat.{ℕ, zero, suc, ◌+◌, ◌<◌}
use native.Mathlib.Omega.{arith}
use mathlib.Core.Path.{sym, subst}
use mathlib.Core.List.{List, [], ◌∷◌, ◌++◌}
use lib.ListN.{take, drop}
use lib.Seq.{get_or-drop}
use Rattle.cells.specs.Cells.{Bytes}

pub bytes_take : (n : ℕ) (s : List ℕ) → Bytes s → Bytes (take n s)
bytes_take zero s b j = omega arith
bytes_take (suc n) [] b j = omega arith
bytes_take (suc n) (x ∷ xs) b zero = b 0
bytes_take (suc n) (x ∷ xs) b (suc j) = bytes_take n xs (λ k. b (suc k)) j

pub bytes_drop : (n : ℕ) (s : List ℕ) → Bytes s → Bytes (drop n s)
bytes_drop n s b j = subst (λ (x : ℕ). x < 256) (sym (get_or-drop n s j 0)) (b (n + j))

pub bytes-append : (a b : List ℕ) → Bytes a → Bytes b → Bytes (a ++ b)
bytes-append [] b h g j = g j
bytes-append (x ∷ a) b h g zero = h 0
bytes-append (x ∷ a) b h g (suc j) = bytes-append a b (λ k. h (suc k)) g j
