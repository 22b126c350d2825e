-- What carrying out a list of requests comes to, whatever engine does it: the state, and the replies in the buffer.
-- Assumes nothing.
use Rattle.std.specs.Prelude.{◌≡◌, List, ℕ, ◌+◌, ◌-◌, ◌≤◌, length}
use Rattle.rules.specs.State.{State}
use Rattle.rules.specs.Records.{Request}
use Rattle.rules.specs.Requests.{run}
use Rattle.rules.specs.Bytes.{room_for, encode_all}
use Rattle.wire.specs.Wire.{splice}

-- there is room for the replies to rs, behind the first `out` bytes of p
pub record HasRoom (rs : List Request) (p : List ℕ) (out : ℕ) : Type 0 where
  pub within : out ≤ length p
  pub room : room_for rs ≤ length p - out

-- rs took σ to τ; their replies stand in p' from `out` on, all else is as in p, and r is the offset after them
pub record CarriedOut (σ τ : State) (rs : List Request) (p p' : List ℕ) (out r : ℕ) : Type 0 where
  pub state : τ ≡ (run σ rs).state
  pub replies : p' ≡ splice p out (encode_all (run σ rs).replies)
  pub count : r ≡ out + length (encode_all (run σ rs).replies)
