-- The carried record in the code's terms: what the bytes lent say, and what writing them leaves.
-- Assumes nothing.
use Rattle.std.specs.Prelude.{◌≡◌, true, false, cond, ◌&&◌, List, [], ◌++◌, ℕ, ◌+◌, leb, length, take, drop, Result, Ok, Err}
use Rattle.rules.specs.declared.Turned.{Turned}
use Rattle.rules.specs.declared.Turned.TheVariants.{BadCarry}
use Rattle.rules.specs.Parts.{null}
use Rattle.rules.specs.Bytes.{spot_at}
use Rattle.rules.specs.Carry.{Carry, last_offset, waits, carry_bytes, carry_written, Carried, unfit, carries, ReadsCarry}
use Rattle.carry.specs.declared.Brought.{Brought}
use Rattle.carry.specs.declared.Brought.TheVariants.{Going, Stopped}

-- so many bytes kept, in the bytes lent
abbrev pub kept_in : List ℕ → ℕ → List ℕ
kept_in bs n = take n (drop 10 bs)

-- the rules' form of the answer
abbrev pub carried_by : List ℕ → Result Brought Turned → Carried
carried_by bs (Ok (Going o n)) = carries (record { offset = o; kept = kept_in bs n; stopped = false })
carried_by bs (Ok (Stopped o)) = carries (record { offset = o; kept = []; stopped = true })
carried_by bs (Err t) = unfit

-- the answer is what the bytes lent read as, and there is one refusal
pub record Brings (bs : List ℕ) (r : Result Brought Turned) : Type 0 where
  pub is : ReadsCarry bs (carried_by bs r)
  pub only : (t : Turned) → r ≡ Err t → t ≡ BadCarry

-- the record c stands in front, and the surplus stayed
pub record CarryPut (before : List ℕ) (c : Carry) (after : List ℕ) : Type 0 where
  pub is : after ≡ carry_written c ++ drop carry_bytes before

-- ---- what the parts of `put` and `read` promise

-- the bytes are those of the record c
pub record LaidOut (c : Carry) (after : List ℕ) : Type 0 where
  pub is : after ≡ carry_written c

-- a stream that has stopped keeps nothing, and both bytes of the mark have come
pub record Halts (o : ℕ) (kept : List ℕ) (r : Result Brought Turned) : Type 0 where
  pub is : r ≡ cond (null kept && leb (o + 2) last_offset) (Ok (Stopped o)) (Err BadCarry)

-- one that goes on keeps no whole record, and no mark that is known to be none
pub record GoesOn (o : ℕ) (kept : List ℕ) (r : Result Brought Turned) : Type 0 where
  pub is : r ≡ cond (waits (spot_at kept 0) && leb (o + length kept) last_offset) (Ok (Going o (length kept))) (Err BadCarry)
