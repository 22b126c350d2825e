-- `runs::run_from` meets its contract.
use borrow.Author.Rules.{rules}
use Rattle.runs.proofs.RunLaws.{midway_start, midway_held, midway_fits, midway_less, midway_next, midway_over}
use Rattle.runs.proofs.run_from.Goals as goal

ruleset laws = (rules, midway_start, midway_held, midway_fits, midway_less, midway_next, midway_over)

pub loop-q-init : goal.loop-q-init
loop-q-init c = midway_start (search rules) (search rules) (λ j. (c.type_inv.requests j).fits)

pub put_spoken-end-requires : goal.put_spoken-end-requires
put_spoken-end-requires c = search laws

pub loop-q-smaller : goal.loop-q-smaller
loop-q-smaller c = search laws

pub loop-q-preserved : goal.loop-q-preserved
loop-q-preserved c = search laws

pub returns : goal.returns
returns c = search laws
