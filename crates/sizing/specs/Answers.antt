-- What the types of this crate stand for in the rules.
-- Assumes nothing.
use Rattle.std.specs.Prelude.{ℕ, Option, Some, None, Result, Ok, Err}
use Rattle.rules.specs.declared.Turned.{Turned}
use Rattle.rules.specs.Refusals.{number_of, detail_of}
use Rattle.rules.specs.State as state
use Rattle.rules.specs.Sizing as rules
use Rattle.sizing.specs.declared.Settings.{Settings}
use Rattle.sizing.specs.declared.Limits.{Limits}

-- the limits as the state carries them
abbrev pub the_limits_of : Limits → state.Limits
the_limits_of l = record { capacity = l.capacity; small_limit = l.small_limit; ghost_limit = l.ghost_limit }

-- what an answer of `size` says
abbrev pub sized_of : Result Limits Turned → rules.Sized
sized_of (Ok l) = rules.limits (the_limits_of l)
sized_of (Err t) = rules.refused (number_of t) (detail_of t)

-- what settings ask for
abbrev pub asks_of : Settings → rules.Asked
asks_of s = rules.asks s.capacity s.small_ratio s.ghost_ratio

-- what an answer of `read_settings` says
abbrev pub asked_of : Option Settings → rules.Asked
asked_of (Some s) = asks_of s
asked_of None = rules.no_settings

-- what these settings come to, at a largest capacity and ghost limit of `top`
abbrev pub sizing_of : ℕ → Settings → rules.Sized
sizing_of top s = rules.sizing_up_to top s.capacity s.small_ratio s.ghost_ratio
