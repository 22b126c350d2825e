-- The laws of the carried record's bytes: what they say of the record that was written, and that they can be no other.
-- Assumes nothing.
use Prim.Native.Nat.{ℕ, ◌-◌, ◌≤◌}
use native.Mathlib.Omega.{arith}
use mathlib.Core.Path.{◌≡◌, refl, sym, ap, ◌∙◌}
use mathlib.Core.Bool.{Bool, true, false}
use mathlib.Core.List.{List, ◌∷◌, ◌++◌, append_assoc}
use lib.Dec.{eqb}
use lib.ListN.{length, get_or, take, drop, replicate, take-append-drop, length-append, length-replicate}
use lib.Seq.{take-append_seam}
use Rattle.cells.specs.Cells.{le}
use Rattle.rules.specs.Parts.{bit}
use Rattle.rules.specs.Bytes.{bytes_of}
use Rattle.rules.specs.Carry.{Carry, last_offset, carry_bytes, kept_room, carry_written, CarryAs}
use Rattle.rules.proofs.TripLaws.{bytes-length, le_bytes}
use Rattle.rules.proofs.CouldLaws.{could-few}

-- ---- the record's bytes

-- as many as there should be
pub carry-length : (c : Carry) → length c.kept ≤ kept_room → length (carry_written c) ≡ carry_bytes
unfolding carry_written
carry-length c h =
    let k = c.kept in
    let z : List ℕ = replicate (kept_room - length k) 0 in
    let rest : List ℕ = length k ∷ bit c.stopped ∷ (k ++ z) in
    omega (arith, length-append (bytes_of 8 c.offset) rest, bytes-length 8 c.offset, length-append k z, length-replicate {A = ℕ} (kept_room - length k) 0)

-- the one record that bytes can be
abbrev pub shown : List ℕ → Carry
shown bs = record { offset = le 8 bs 0; kept = take (get_or bs 8 0) (drop 10 bs); stopped = eqb (get_or bs 9 0) 1 }

-- a bit read back
bit_is : (t : Bool) → eqb (bit t) 1 ≡ t
bit_is true = refl
bit_is false = refl

module _ (c : Carry) (l : c.offset ≤ last_offset) (rest : List ℕ) where
  -- the bytes kept, and the zeros behind them
  tail : List ℕ
  tail = c.kept ++ replicate (kept_room - length c.kept) 0

  -- each part of it is shown by its bytes
  shows-offset : le 8 (carry_written c ++ rest) 0 ≡ c.offset
  unfolding carry_written tail
  shows-offset =
      let back : List ℕ = length c.kept ∷ bit c.stopped ∷ tail in
      ap (λ (s : List ℕ). le 8 s 0) (append_assoc (bytes_of 8 c.offset) back rest) ∙ le_bytes 8 c.offset (back ++ rest) (omega arith)

  shows-count : get_or (carry_written c ++ rest) 8 0 ≡ length c.kept
  unfolding carry_written bytes_of
  shows-count = refl

  shows-stopped : get_or (carry_written c ++ rest) 9 0 ≡ bit c.stopped
  unfolding carry_written bytes_of
  shows-stopped = refl

  shows_kept : take (length c.kept) (drop 10 (carry_written c ++ rest)) ≡ c.kept
  unfolding carry_written bytes_of tail
  shows_kept =
      let z : List ℕ = replicate (kept_room - length c.kept) 0 in
      ap (take (length c.kept)) (append_assoc c.kept z rest) ∙ take-append_seam c.kept (z ++ rest)

  -- and so is all of it
  shows : c ≡ shown (carry_written c ++ rest)
  shows i = record {
    offset = sym shows-offset i;
    kept = (sym shows_kept ∙ ap (λ (n : ℕ). take n (drop 10 (carry_written c ++ rest))) (sym shows-count)) i;
    stopped = (sym (bit_is c.stopped) ∙ ap (λ (n : ℕ). eqb n 1) (sym shows-stopped)) i;
  }

module _ {bs : List ℕ} {c : Carry} (a : CarryAs bs c) where
  -- the bytes lent are the record and what stands behind it
  starts : bs ≡ carry_written c ++ drop carry_bytes bs
  starts = sym (take-append-drop carry_bytes bs) ∙ ap (λ (s : List ℕ). s ++ drop carry_bytes bs) a.written

  -- bytes are no other record than the one they show
  pub only-shown : c ≡ shown bs
  only-shown = shows c (could-few c a.could).1 (drop carry_bytes bs) ∙ ap shown (sym starts)

  -- so many bytes are kept as they say
  pub count-shown : get_or bs 8 0 ≡ length c.kept
  count-shown = ap (λ (s : List ℕ). get_or s 8 0) starts ∙ shows-count c (could-few c a.could).1 (drop carry_bytes bs)

-- bytes are one record at the most
pub carry-one : {bs : List ℕ} {c d : Carry} → CarryAs bs c → CarryAs bs d → c ≡ d
carry-one a b = only-shown a ∙ sym (only-shown b)
