-- `cells::get` meets its contract: byte by byte from the last.
use borrow.Author.Rules.{rules}
use Rattle.cells.proofs.StepsLaws.{reading_start, reading_next, reading_fits, reading_room, reading_end, reading_small}
use Rattle.cells.proofs.get.Goals as goal

ruleset laws = (rules, reading_start, reading_next, reading_fits, reading_room, reading_end, reading_small)

pub loop-i-init : goal.loop-i-init
loop-i-init g c = search laws

pub overflow_mul-v : goal.overflow_mul-v
overflow_mul-v g c = search laws

pub overflow_add-v-in-loop-i : goal.overflow_add-v-in-loop-i
overflow_add-v-in-loop-i g c = search laws

pub loop-i-preserved : goal.loop-i-preserved
loop-i-preserved g c = search laws

pub returns-clause-value : goal.returns-clause-value
returns-clause-value g c = search laws

pub returns-clause-upper_bound : goal.returns-clause-upper_bound
returns-clause-upper_bound g c = search laws
