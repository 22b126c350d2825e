-- What turns a call away, whatever the reply buffer held.
-- Assumes nothing.
use Rattle.std.specs.Prelude.{List, ℕ, Err}
use Rattle.rules.specs.declared.Turned.{Turned}
use Rattle.s3_fifo.specs.Calls.{Called}

-- a call on the store s with the requests q is turned away for t, and changes nothing, whatever the reply buffer held
pub record TurnsAway (s q : List ℕ) (t : Turned) : Type 0 where
  pub called : (p : List ℕ) → Called s q p (Err t) s p
