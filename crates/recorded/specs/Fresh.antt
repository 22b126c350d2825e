-- What the rules say of a case: settings, and requests on the cache that they make.
-- Assumes nothing.
use Rattle.std.specs.Prelude.{◌≡◌, List, ℕ, drop}
use Rattle.rules.specs.State.{State}
use Rattle.rules.specs.Sizing.{settings_bytes, settings_of}
use Rattle.rules.specs.Verdict.{done, on_asked}

-- the rules accept the case q, where there is room for so many reply bytes, with the replies w
pub record Accepted (q : List ℕ) (room : ℕ) (w : List ℕ) : Type 0 where
  pub state : State
  pub is : on_asked (settings_of q) (drop settings_bytes q) room ≡ done state w
