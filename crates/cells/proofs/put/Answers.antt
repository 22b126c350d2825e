-- `cells::put` meets its contract: byte by byte from the first.
use borrow.Author.Rules.{rules}
use Rattle.cells.proofs.StepsLaws.{writing_start, writing_next, writing_end}
use Rattle.cells.proofs.put.Goals as goal

ruleset laws = (rules, writing_start, writing_next, writing_end)

pub loop-i-init : goal.loop-i-init
loop-i-init g c = search laws

pub loop-i-preserved : goal.loop-i-preserved
loop-i-preserved g c = search laws

pub returns : goal.returns
returns g c = search laws
