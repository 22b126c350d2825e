-- The verdict on a whole call: what is turned away, in the order of the table of refusals (RULES 8.2), and what an accepted call gives (RULES 7).
-- Assumes nothing.
use Rattle.std.specs.Prelude.{ℕ, ◌≤◌, cond, List, [], ◌∷◌, length, Float}
use Rattle.rules.specs.declared.Turned.{Turned}
use Rattle.rules.specs.declared.Turned.TheVariants.{ShortStore, DamagedStore}
use Rattle.rules.specs.State.{State, empty_at, Sound}
use Rattle.rules.specs.Records.{Outcome}
use Rattle.rules.specs.Requests.{run}
use Rattle.rules.specs.Sizing.{Sized, limits, refused as misfit, sizing, sizing_up_to, Asked, asks, no_settings}
use Rattle.rules.specs.Bytes.{parse, room_for, encode_all}
use Rattle.rules.specs.Refusals.{store_bytes, number_of, detail_of, RefusalRow, create_rows, run_rows}

-- turned away by a number, with a detail; or done: the state, of any type, and the reply bytes
pub data Verdict (S : Type 0) : Type 0 where
  refused : ℕ → ℕ → Verdict S
  done : S → List ℕ → Verdict S

abbrev pub turned_away : {S : Type 0} → Turned → Verdict S
turned_away t = refused (number_of t) (detail_of t)

-- the first row that applies, and the verdict where none does
abbrev pub unless : {S : Type 0} → List RefusalRow → Verdict S → Verdict S
unless [] v = v
unless (r ∷ rs) v = cond r.when (turned_away r.why) (unless rs v)

-- ---- creating

abbrev pub on_sized : ℕ → Sized → Verdict State
on_sized bytes (misfit n d) = refused n d
on_sized bytes (limits L) = unless (create_rows bytes) (done (empty_at L) [])

-- settings, and a store of so many bytes: rows 1 to 6
unfoldable pub create : ℕ → Float → Float → ℕ → Verdict State
unfolding sizing_up_to
create capacity small ghost bytes = on_sized bytes (sizing capacity small ghost)

-- ---- running requests

-- what a store reads as: too short, damaged, or a sound state
pub data Reads : Type 0 where
  short damaged : Reads
  reads : State → Reads

abbrev pub finished : Outcome → Verdict State
finished o = done o.state (encode_all o.replies)

unfoldable pub call : Reads → List ℕ → ℕ → Verdict State
unfolding parse run encode_all room_for
call short bs room = turned_away ShortStore
call damaged bs room = turned_away DamagedStore
call (reads σ) bs room = unless (run_rows (length bs) (parse bs) room) (finished (run σ (parse bs).requests))

-- ---- settings, and requests behind them: one call on the cache that they make, with so much room for the replies

abbrev pub on_created : Verdict State → List ℕ → ℕ → Verdict State
on_created (refused n d) q room = refused n d
on_created (done σ bs) q room = call (reads σ) q room

-- wrong or short settings are refused first; the store is long enough
abbrev pub on_asked : Asked → List ℕ → ℕ → Verdict State
on_asked no_settings q room = refused 9 0
on_asked (asks capacity small ghost) q room = on_created (create capacity small ghost store_bytes) q room

-- ---- what an accepted verdict keeps to

-- its state is sound, and its reply bytes have room
abbrev pub FitsRoom : ℕ → Verdict State → Type 0
FitsRoom room (refused n d) = Unit {0}
FitsRoom room (done σ bs) = Sound σ × (length bs ≤ room)
