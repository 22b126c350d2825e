-- What one feed of a stream carries to the next (RULES 7.4): the record, which of its values a feed can leave, and its bytes.
-- Assumes nothing.
use Rattle.std.specs.Prelude.{ℕ, ◌+◌, ◌-◌, ◌%◌, ◌^◌, ◌≤◌, ◌≡◌, Bool, true, false, cond, ◌&&◌, List, [], ◌∷◌, ◌++◌, eqb, leb, length, take, drop, replicate}
use Rattle.rules.specs.Parts.{null, bit}
use Rattle.rules.specs.Bytes.{bytes_of, longest_record, Spot, at, unknown, cut, over, spot_at, End, whole, unknown_at, cut_at}

-- the bytes kept of a record that is cut, and the offset in the stream at which they start; or the offset of the unknown mark that stopped the stream
pub record Carry : Type 0 where
  pub offset : ℕ
  pub kept : List ℕ
  pub stopped : Bool

-- a stream of which nothing has come yet
abbrev pub opening : Carry
opening = record { offset = 0; kept = []; stopped = false }

-- what is left of bytes that start at an offset of the stream, by how reading them ended
abbrev pub left_by : ℕ → List ℕ → End → Carry
left_by o bs whole = record { offset = o + length bs; kept = []; stopped = false }
left_by o bs (cut_at i) = record { offset = o + i; kept = drop i bs; stopped = false }
left_by o bs (unknown_at i) = record { offset = o + i; kept = []; stopped = true }

-- ---- whether a feed could have left it

-- the largest offset
abbrev pub last_offset : ℕ
last_offset = 2 ^ 64 - 1

-- no record is whole, and no mark is known to be none
abbrev pub waits : Spot → Bool
waits (at k) = false
waits unknown = false
waits cut = true
waits over = true

-- every record has an even number of bytes
abbrev pub even : ℕ → Bool
even n = eqb (n % 2) 0

-- both bytes of the mark have come
abbrev pub could_stop : Carry → Bool
could_stop c = null c.kept && leb (c.offset + 2) last_offset

abbrev pub could_wait : Carry → Bool
could_wait c = waits (spot_at c.kept 0) && leb (c.offset + length c.kept) last_offset

unfoldable pub could_leave : Carry → Bool
unfolding spot_at
could_leave c = even c.offset && cond c.stopped (could_stop c) (could_wait c)

-- ---- the record as bytes: offset, how many bytes are kept, 1 if the stream has stopped, the bytes kept and then zeros

abbrev pub carry_bytes : ℕ
carry_bytes = 32

-- what there is for the bytes kept, and how many of a record are kept at the most
abbrev pub kept_room : ℕ
kept_room = 22

abbrev pub most_kept : ℕ
most_kept = longest_record - 1

unfoldable pub carry_written : Carry → List ℕ
unfolding bytes_of
carry_written c = bytes_of 8 c.offset ++ (length c.kept ∷ bit c.stopped ∷ (c.kept ++ replicate (kept_room - length c.kept) 0))

-- the bytes lent start with the record c, and a feed could have left it
pub record CarryAs (bs : List ℕ) (c : Carry) : Type 0 where
  pub long : carry_bytes ≤ length bs
  pub written : take carry_bytes bs ≡ carry_written c
  pub could : could_leave c ≡ true

-- what the bytes lent read as: a record that no feed could have left, or what is carried
pub data Carried : Type 0 where
  unfit : Carried
  carries : Carry → Carried

abbrev pub ReadsCarry : List ℕ → Carried → Type 0
ReadsCarry bs unfit = (c : Carry) → CarryAs bs c → ⊥
ReadsCarry bs (carries c) = CarryAs bs c
