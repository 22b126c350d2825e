-- Requests that arrive in pieces (RULES 7.3): what a feed carries out, when it is turned away, and what a finish says.
-- Assumes nothing.
use Rattle.std.specs.Prelude.{ℕ, ◌+◌, ◌≡◌, Bool, true, false, not, cond, ◌&&◌, ◌||◌, List, [], ◌∷◌, ◌++◌, ltb, length}
use Rattle.rules.specs.declared.Turned.TheVariants.{ShortStore, DamagedStore, LongRequests, BadRecord, NoRoom, BadCarry}
use Rattle.rules.specs.Parts.{null}
use Rattle.cells.specs.Cells.{Bytes}
use Rattle.rules.specs.State.{State, Sound}
use Rattle.rules.specs.Records.{Request, Reply, Outcome}
use Rattle.rules.specs.Requests.{run}
use Rattle.rules.specs.Bytes.{End, whole, unknown_at, cut_at, Parsed, parse, room_for, encode_all}
use Rattle.rules.specs.Refusals.{most_request_bytes, RefusalRow}
use Rattle.rules.specs.Verdict.{Verdict, done, turned_away, unless, Reads, short, damaged, reads}
use Rattle.rules.specs.Carry.{Carry, opening, left_by, last_offset, Carried, unfit, carries}

-- ---- what a feed carries out

pub record Flow : Type 0 where
  pub state : State
  pub replies : List Reply
  pub carry : Carry

abbrev pub still : State → Carry → Flow
still σ c = record { state = σ; replies = []; carry = c }

abbrev pub flow : Carry → Outcome → Flow
flow c w = record { state = w.state; replies = w.replies; carry = c }

abbrev pub flowing : State → ℕ → List ℕ → Parsed Request → Flow
flowing σ o bs p = flow (left_by o bs p.end) (run σ p.requests)

-- the bytes kept are read again with the piece behind them; a stopped stream takes nothing more
abbrev pub on_carry : State → Carry → List ℕ → Bool → Flow
on_carry σ c piece true = still σ c
on_carry σ c piece false = flowing σ c.offset (c.kept ++ piece) (parse (c.kept ++ piece))

unfoldable pub feed_on : State → Carry → List ℕ → Flow
unfolding parse run
feed_on σ c piece = on_carry σ c piece c.stopped

abbrev pub after_replies : List Reply → Flow → Flow
after_replies rs w = record { state = w.state; replies = rs ++ w.replies; carry = w.carry }

abbrev pub and_then : Flow → (State → Carry → Flow) → Flow
and_then w more = after_replies w.replies (more w.state w.carry)

-- pieces one after the other, each fed what the last one left
unfoldable pub feed_all : State → Carry → List (List ℕ) → Flow
unfolding feed_on
feed_all σ c [] = still σ c
feed_all σ c (p ∷ ps) = and_then (feed_on σ c p) (λ τ d. feed_all τ d ps)

abbrev pub glued : List (List ℕ) → List ℕ
glued [] = []
glued (p ∷ ps) = p ++ glued ps

-- ---- when it is turned away

-- the records that a piece completes
unfoldable pub completed : Carry → List ℕ → List Request
unfolding parse
completed c piece = (parse (c.kept ++ piece)).requests

-- those that a feed carries out: a stopped stream takes nothing more
abbrev pub completed_of : Carried → List ℕ → List Request
completed_of unfit piece = []
completed_of (carries c) piece = cond c.stopped [] (completed c piece)

-- a piece of so many bytes ends past the last offset
abbrev pub runs_over : Carry → ℕ → Bool
runs_over c n = not c.stopped && ltb last_offset (c.offset + length c.kept + n)

-- a feed on a sound store: 17, 8, the 9 of a stream that has stopped before, and 10 over the records that this feed completes
abbrev pub feed_rows : Carry → ℕ → List Request → ℕ → List RefusalRow
feed_rows c bytes rs room =
    record { when = runs_over c bytes; why = BadCarry }
    ∷ record { when = ltb most_request_bytes bytes; why = LongRequests }
    ∷ record { when = c.stopped; why = BadRecord c.offset }
    ∷ record { when = ltb room (room_for rs); why = NoRoom (room_for rs) }
    ∷ []

-- what a feed leaves: the state, and what is carried on, which says whether the stream has stopped
pub record Onward : Type 0 where
  pub state : State
  pub carry : Carry

abbrev pub fed : Flow → Verdict Onward
fed w = done (record { state = w.state; carry = w.carry }) (encode_all w.replies)

unfoldable pub feed : Reads → Carried → List ℕ → ℕ → Verdict Onward
unfolding feed_on completed encode_all room_for
feed short k piece room = turned_away ShortStore
feed damaged k piece room = turned_away DamagedStore
feed (reads σ) unfit piece room = turned_away BadCarry
feed (reads σ) (carries c) piece room = unless (feed_rows c (length piece) (completed c piece) room) (fed (feed_on σ c piece))

-- ---- a finish: 17, then 9 for a stream that has stopped or a record that is still cut

abbrev pub finish_rows : Carry → List RefusalRow
finish_rows c = record { when = c.stopped || not (null c.kept); why = BadRecord c.offset } ∷ []

-- nothing is left to say of a state, and nothing is replied
abbrev pub finish_on : Carried → Verdict (Unit {0})
finish_on unfit = turned_away BadCarry
finish_on (carries c) = unless (finish_rows c) (done tt [])

-- how a stream ended, by how reading all of it ends: complete, or as one call's 9 would say
abbrev pub ended : End → Verdict (Unit {0})
ended whole = done tt []
ended (unknown_at i) = turned_away (BadRecord i)
ended (cut_at i) = turned_away (BadRecord i)

-- ---- what feeds leave: a new stream's record, and whatever an accepted feed of bytes on a sound state leaves of one that was left

pub data Reached : Carry → Type 0 where
  begins : Reached opening
  feeds : {c d : Carry} {σ τ : State} {bs : List ℕ} (piece : List ℕ) (room : ℕ) → Reached c → Sound σ → Bytes piece
      → feed (reads σ) (carries c) piece room ≡ done (record { state = τ; carry = d }) bs → Reached d
