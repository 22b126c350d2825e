-- `sizing::bad_ratio` meets its contract: its two comparisons say what `is_bad_ratio` says, and 1 / 0 is the infinity.
use borrow.Author.Rules.{rules}
use lib.Ieee.{of_bits, div}
use Rattle.sizing.proofs.FloatsLaws.{bad_below, bad_else}
use Rattle.sizing.proofs.bad_ratio.Goals as goal

ruleset laws = (rules, bad_below, bad_else)

pub returns-then-x : goal.returns-then-x
unfolding div of_bits
returns-then-x c = search laws

pub returns-else-x : goal.returns-else-x
unfolding div of_bits
returns-else-x c = search laws
