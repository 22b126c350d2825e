-- `census::count_heads` meets its contract.
use borrow.Author.Rules.{rules}
use Rattle.census.proofs.CountLaws.{counted_start, counted_next, counted-fits, counted-end}
use Rattle.census.proofs.count_heads.Goals as goal

ruleset laws = (rules, counted_start, counted_next, counted-fits, counted-end)

pub loop-b-init : goal.loop-b-init
loop-b-init c = search laws

pub loop-b-preserved : goal.loop-b-preserved
loop-b-preserved c = search laws
