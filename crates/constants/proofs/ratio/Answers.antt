-- `constants::ratio` is safe: what is equal to itself is no NaN, and has bits.
use borrow.Author.Rules.{rules}
use lib.Ieee.{is_nan, ne}
use Rattle.constants.proofs.ratio.Goals as goal

pub float_to_bits-value : goal.float_to_bits-value
unfolding is_nan ne
float_to_bits-value g c = search rules
