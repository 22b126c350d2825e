-- `census::nodes_stand` meets its contract.
use borrow.Author.Rules.{rules}
use Rattle.census.proofs.StandLaws.{standing_start, standing_broken, standing_fits}
use Rattle.census.proofs.StandLaws.{standing_next, standing_sum, standing_uneven, standing_end}
use Rattle.census.proofs.nodes_stand.Goals as goal

ruleset laws = (rules, standing_start, standing_broken, standing_fits, standing_next, standing_sum, standing_uneven, standing_end)

pub loop-x-init : goal.loop-x-init
loop-x-init c = search laws

pub returns-in_default : goal.returns-in_default
returns-in_default c = search laws

pub overflow_add-sum : goal.overflow_add-sum
overflow_add-sum c = search laws

pub loop-x-preserved : goal.loop-x-preserved
loop-x-preserved c = search laws

pub overflow_add-heads : goal.overflow_add-heads
overflow_add-heads c = search laws

pub returns-then-heads-links : goal.returns-then-heads-links
returns-then-heads-links c = search laws

pub returns-else-heads-links : goal.returns-else-heads-links
returns-else-heads-links c = search laws
