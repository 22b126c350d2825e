-- The laws of the record's form: how it is laid out, put in front of the bytes lent, and compared with them.
-- Assumes nothing.
use mathlib.Core.Path.{◌≡◌, refl, sym, ap, ap₂, ◌∙◌}
use mathlib.Core.Bool.{Bool, true, false}
use mathlib.Core.List.{List, ◌∷◌, ◌++◌, append-nil}
use Prim.Native.Nat.{ℕ, zero, suc, ◌-◌, ◌%◌, ◌≤◌}
use native.Mathlib.Nat.{sub-zero, zero-sub, suc-sub-suc}
use native.Mathlib.Omega.{arith}
use lib.ListN.{length, take, drop, replicate}
use lib.Seq.{take-length}
use mir.Val.{bool_byte}
use Rattle.cells.specs.Cells.{put_le}
use Rattle.rules.specs.Parts.{bit}
use Rattle.rules.specs.Bytes.{bytes_of}
use Rattle.rules.specs.Carry.{carry_bytes, kept_room, carry_written}
use Rattle.carry.specs.Carries.{LaidOut}

-- ---- laid out over zeros

abbrev zeros : ℕ → List ℕ
zeros n = replicate n 0

-- zeros, less so many of them
fewer-zeros : (k n : ℕ) → drop k (zeros n) ≡ zeros (n - k)
fewer-zeros zero n = ap zeros (sym (sub-zero n))
fewer-zeros (suc k) zero = ap zeros (sym (zero-sub (suc k)))
fewer-zeros (suc k) (suc n) = fewer-zeros k n ∙ ap zeros (sym (suc-sub-suc n k))

-- the byte of a bool is its bit
bit_byte : (t : Bool) → bool_byte t % 256 ≡ bit t
bit_byte true = refl
bit_byte false = refl

-- the three numbers in front
numbers : (o n t : ℕ) → put_le 1 (put_le 1 (put_le 8 (zeros carry_bytes) 0 o) 8 n) 9 t ≡ bytes_of 8 o ++ (n % 256 ∷ t % 256 ∷ zeros kept_room)
unfolding put_le bytes_of
numbers o n t = refl

-- ten bytes in front, and the bytes kept copied over the zeros behind them
module _ (o : ℕ) (t : Bool) (k : List ℕ) where
  -- the part behind, once they are copied
  abbrev behind : List ℕ → List ℕ
  behind s = take (length k) k ++ drop (length k) (take kept_room (drop 10 s))

  behind_is : {s : List ℕ} → s ≡ bytes_of 8 o ++ (length k ∷ bit t ∷ zeros kept_room) → behind s ≡ k ++ zeros (kept_room - length k)
  unfolding bytes_of
  behind_is {s} e =
      ap behind e ∙ ap (λ (l : List ℕ). l ++ drop (length k) (zeros kept_room)) (take-length k) ∙ ap (λ (z : List ℕ). k ++ z) (fewer-zeros (length k) kept_room)

  -- four writes lay the record out
  pub laid_out : {z s₁ s₂ s₃ part : List ℕ} → length k ≤ kept_room → z ≡ zeros carry_bytes → s₁ ≡ put_le 8 z 0 o → s₂ ≡ put_le 1 s₁ 8 (length k)
      → s₃ ≡ put_le 1 s₂ 9 (bool_byte t) → part ≡ behind s₃
      → LaidOut (record { offset = o; kept = k; stopped = t }) (take 10 s₃ ++ (part ++ drop kept_room (drop 10 s₃)))
  unfolding carry_written bytes_of
  laid_out {s₁ = s₁} {s₂} {s₃} {part} h z a b d f =
      let n : length k % 256 ≡ length k = omega arith in
      let writes : s₃ ≡ put_le 1 (put_le 1 (put_le 8 (zeros carry_bytes) 0 o) 8 (length k)) 9 (bool_byte t) =
      d ∙ ap (λ (l : List ℕ). put_le 1 l 9 (bool_byte t)) (b ∙ ap (λ (l : List ℕ). put_le 1 l 8 (length k)) (a ∙ ap (λ (l : List ℕ). put_le 8 l 0 o) z)) in
      let front : s₃ ≡ bytes_of 8 o ++ (length k ∷ bit t ∷ zeros kept_room) =
      writes ∙ numbers o (length k) (bool_byte t) ∙ ap₂ (λ (x y : ℕ). bytes_of 8 o ++ (x ∷ y ∷ zeros kept_room)) n (bit_byte t) in
      record {
        is = ap₂ (λ (l p : List ℕ). take 10 l ++ (p ++ drop kept_room (drop 10 l))) front (f ∙ behind_is front)
            ∙ ap (λ (l : List ℕ). bytes_of 8 o ++ (length k ∷ bit t ∷ l)) (append-nil (k ++ zeros (kept_room - length k)));
      }
