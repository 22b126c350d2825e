-- The worked rows, from the rules.
-- Assumes nothing.
use mathlib.Core.Path.{refl}
use lib.Ieee.{round, neg, mul, of_int}
use Rattle.rules.specs.Bytes.{all_written}
use Rattle.rules.specs.Sizing.{sizing_up_to}
use Rattle.rules.specs.Verdict.{create, call}
use Rattle.rules.specs.Traces.{Rows}

pub rows : Rows
unfolding sizing_up_to round neg mul of_int create call all_written
rows = record { sizing_rows = refl; trace_rows = refl }
