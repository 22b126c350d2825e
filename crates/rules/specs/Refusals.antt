-- The table of refusals (RULES 8.1): the number and the detail for each case of the code's enum, and when each applies to a creation and a run. The rows of a
-- feed and of a finish stand in Feed.antt.
-- Rows 1 to 5 are sizing's (`sizing_up_to`); 6 and 7 of a call are told by what the store reads as (`call`), 7 where it holds no state.
-- Assumes nothing.
use Rattle.std.specs.Prelude.{ℕ, Bool, true, false, List, [], ◌∷◌, ltb}
use Rattle.rules.specs.declared.Turned.{Turned}
use Rattle.rules.specs.declared.Turned.TheVariants.{NoCapacity, CapacityAbove, SmallRatio, GhostRatio, GhostLimit}
use Rattle.rules.specs.declared.Turned.TheVariants.{ShortStore, DamagedStore, LongRequests, BadRecord, NoRoom, BadCarry}
use Rattle.rules.specs.Records.{Request}
use Rattle.rules.specs.Bytes.{End, whole, unknown_at, cut_at, Parsed, room_for}

-- the one fixed size of a store
abbrev pub store_bytes : ℕ
store_bytes = 61696

-- the longest requests of one call
abbrev pub most_request_bytes : ℕ
most_request_bytes = 32768

abbrev pub number_of : Turned → ℕ
number_of NoCapacity = 1
number_of CapacityAbove = 2
number_of SmallRatio = 3
number_of GhostRatio = 4
number_of GhostLimit = 5
number_of ShortStore = 6
number_of DamagedStore = 7
number_of LongRequests = 8
number_of (BadRecord at) = 9
number_of (NoRoom room) = 10
number_of BadCarry = 17

abbrev pub detail_of : Turned → ℕ
detail_of NoCapacity = 0
detail_of CapacityAbove = 0
detail_of SmallRatio = 0
detail_of GhostRatio = 0
detail_of GhostLimit = 0
detail_of ShortStore = 0
detail_of DamagedStore = 0
detail_of LongRequests = 0
detail_of (BadRecord at) = at
detail_of (NoRoom room) = room
detail_of BadCarry = 0

-- ---- when each applies

-- a row: its test, and the refusal
pub record RefusalRow : Type 0 where
  pub when : Bool
  pub why : Turned

-- creation, in a store of so many bytes
abbrev pub create_rows : ℕ → List RefusalRow
create_rows bytes = record { when = ltb bytes store_bytes; why = ShortStore } ∷ []

-- whether there is a record that is none, and its offset
abbrev pub broken : End → Bool
broken whole = false
broken (unknown_at i) = true
broken (cut_at i) = true

abbrev pub broken_at : End → ℕ
broken_at whole = 0
broken_at (unknown_at i) = i
broken_at (cut_at i) = i

-- a call on a sound store, with requests of so many bytes that parse so, and room for so many reply bytes
abbrev pub run_rows : ℕ → Parsed Request → ℕ → List RefusalRow
run_rows bytes p room =
    record { when = ltb most_request_bytes bytes; why = LongRequests }
    ∷ record { when = broken p.end; why = BadRecord (broken_at p.end) }
    ∷ record { when = ltb room (room_for p.requests); why = NoRoom (room_for p.requests) }
    ∷ []
