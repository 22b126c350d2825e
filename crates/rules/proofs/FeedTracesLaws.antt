-- The worked feeds, from the rules.
-- Assumes nothing.
use mathlib.Core.Path.{refl}
use Rattle.rules.specs.Bytes.{all_written}
use Rattle.rules.specs.Carry.{carry_written}
use Rattle.rules.specs.Feed.{feed}
use Rattle.rules.specs.FeedTraces.{FeedRows}

pub feed-rows : FeedRows
unfolding feed all_written carry_written
feed-rows = record { zeros = refl; feeds = refl; long = refl; finishes = refl }
