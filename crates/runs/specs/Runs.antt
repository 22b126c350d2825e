-- What carrying out a list of requests leaves in the store that held a state, and in the reply buffer; and what a feed of a stream that goes on leaves.
-- Assumes nothing.
use Rattle.std.specs.Prelude.{◌≡◌, true, false, List, ◌++◌, ℕ, ◌≤◌, ◌<◌, length, drop, Result, Ok, Err}
use Rattle.nodes.specs.Nodes.{Rest, cols}
use Rattle.nodes.specs.declared.Shape.{Shape}
use Rattle.rules.specs.Records.{Request, AllPeeks}
use Rattle.rules.specs.Requests.{run}
use Rattle.rules.specs.Bytes.{parse_from, parse, room_for, encode_all}
use Rattle.rules.specs.Carry.{Carry, carry_bytes, carry_written}
use Rattle.wire.specs.CarriedOut.{CarriedOut}
use Rattle.store.specs.Holds.{state_in, Held}
use Rattle.rules.specs.declared.Turned.{Turned}
use Rattle.rules.specs.declared.Turned.TheVariants.{NoRoom}
use Rattle.runs.specs.declared.Fed.{Fed}
use Rattle.runs.specs.declared.Fed.TheVariants.{Done, Stopped}

-- rs were carried out on the store s, which became s', and on the buffer p, which became p', from `out` to r; peeks alone change no byte of the store; and the
-- replies stay within their room
pub record Runs (z : Shape) (s s' : List ℕ) (rs : List Request) (p p' : List ℕ) (out r : ℕ) : Type 0 where
  pub held : Held z s'
  pub carried : CarriedOut (state_in z s) (state_in z s') rs p p' out r
  pub rest : cols z s' Rest ≡ cols z s Rest
  pub same : length s' ≡ length s
  pub untouched : AllPeeks rs → s' ≡ s
  pub sized : length (encode_all (run (state_in z s) rs).replies) ≤ room_for rs

-- what is asked by all that stands in front of a piece, and by the piece from an offset on
abbrev pub asked_across : List ℕ → List ℕ → ℕ → List Request
asked_across head piece from = (parse head).requests ++ (parse_from piece from).requests

-- the requests rs were carried out, with n reply bytes in front of p', and k stands in front of c'
pub record FedRan (z : Shape) (s s' c c' p p' : List ℕ) (rs : List Request) (k : Carry) (n : ℕ) : Type 0 where
  pub runs : Runs z s s' rs p p' 0 n
  pub room : room_for rs ≤ length p
  pub put : c' ≡ carry_written k ++ drop carry_bytes c

-- a feed of a stream that goes on, which completes the requests rs and leaves k: turned away for want of room, and then nothing changes; or done
abbrev pub FedBy : Shape → (s s' c c' p p' : List ℕ) → List Request → Carry → Result Fed Turned → Type 0
FedBy z s s' c c' p p' rs k (Err t) = (t ≡ NoRoom (room_for rs)) × (length p < room_for rs) × (s' ≡ s) × (c' ≡ c) × (p' ≡ p)
FedBy z s s' c c' p p' rs k (Ok (Done n)) = (k.stopped ≡ false) × FedRan z s s' c c' p p' rs k n
FedBy z s s' c c' p p' rs k (Ok (Stopped n at)) = (k.stopped ≡ true) × (k.offset ≡ at) × FedRan z s s' c c' p p' rs k n

pub record FedOn (z : Shape) (s s' c c' p p' : List ℕ) (rs : List Request) (k : Carry) (r : Result Fed Turned) : Type 0 where
  pub fed : FedBy z s s' c c' p p' rs k r
