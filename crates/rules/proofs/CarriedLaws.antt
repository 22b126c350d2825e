-- What the bytes lent to a feed read as: one thing; and what a feed writes there is read again.
-- Assumes nothing.
use native.Mathlib.Omega.{arith}
use mathlib.Core.Path.{◌≡◌, refl, sym, ap, ◌∙◌, subst}
use mathlib.Core.Bool.{true}
use mathlib.Core.List.{List, ◌++◌}
use Prim.Native.Nat.{ℕ}
use lib.ListN.{length, get_or, take, drop, length-append}
use lib.Seq.{take_at, drop_at}
use Rattle.cells.specs.Cells.{Bytes}
use Rattle.rules.specs.Carry.{Carry, could_leave, carry_bytes, carry_written, CarryAs, Carried, unfit, carries, ReadsCarry}
use Rattle.rules.proofs.ByteLaws.{bytes_take, bytes_drop}
use Rattle.rules.proofs.CouldLaws.{could-few}
use Rattle.rules.proofs.CarryLaws.{carry-length, only-shown, carry-one}

pub carried-once : (bs : List ℕ) (a b : Carried) → ReadsCarry bs a → ReadsCarry bs b → a ≡ b
carried-once bs unfit unfit h g = refl
carried-once bs unfit (carries c) h g = absurd (h c g)
carried-once bs (carries c) unfit h g = absurd (g c h)
carried-once bs (carries c) (carries d) h g = ap carries (carry-one h g)

module _ {bs : List ℕ} (rest : List ℕ) (c : Carry) (e : bs ≡ carry_written c ++ rest) (h : could_leave c ≡ true) where
  written-length : length (carry_written c) ≡ carry_bytes
  written-length = let f = (could-few c h).0 in carry-length c (omega arith)

  -- what was written in front is read again
  pub carry-written : CarryAs bs c
  carry-written =
      record {
        long = omega (arith, ap length e, length-append (carry_written c) rest, written-length);
        written = ap (take carry_bytes) e ∙ take_at (carry_written c) rest carry_bytes written-length;
        could = h;
      }

  -- and the surplus stands behind it
  pub carry-surplus : drop carry_bytes bs ≡ rest
  carry-surplus = ap (drop carry_bytes) e ∙ drop_at (carry_written c) rest carry_bytes written-length

-- what is kept in bytes is bytes
pub kept-bytes : {bs : List ℕ} {c : Carry} → CarryAs bs c → Bytes bs → Bytes c.kept
kept-bytes {bs} a b = subst Bytes (ap (λ (d : Carry). d.kept) (sym (only-shown a))) (bytes_take (get_or bs 8 0) (drop 10 bs) (bytes_drop 10 bs b))
