-- What the line on a record says, by the rules (RULES 2).
-- Assumes nothing.
use Rattle.std.specs.Prelude.{List, ℕ}
use Rattle.rules.specs.Sizing.{Sized, limits, refused, sizing, Asked, asks, no_settings, settings_of}
use Rattle.sizes.specs.declared.Line.{Line}
use Rattle.sizes.specs.declared.Line.TheVariants.{Limits, Refused, NoSettings}

-- the limits of a capacity, or the number of a refusal
abbrev pub sized_line : ℕ → Sized → Line
sized_line capacity (limits L) = Limits capacity L.small_limit L.ghost_limit
sized_line capacity (refused n d) = Refused capacity n

abbrev pub line_asked : Asked → Line
line_asked (asks capacity small ghost) = sized_line capacity (sizing capacity small ghost)
line_asked no_settings = NoSettings

-- of the bytes of a record
abbrev pub line_for : List ℕ → Line
line_for s = line_asked (settings_of s)
