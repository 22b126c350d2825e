-- `evict::evict` meets its contract.
use borrow.Author.Rules.{rules}
use Rattle.evict.proofs.LoopLaws.{heat, going_start, going_few, going_next, going_less, going_end}
use Rattle.evict.proofs.evict.Goals as goal

ruleset laws = (rules, heat, going_start, going_few, going_next, going_less, going_end)

pub loop-z-init : goal.loop-z-init
loop-z-init c = search laws

pub loop-z-smaller : goal.loop-z-smaller
loop-z-smaller c = search laws

pub loop-z-preserved : goal.loop-z-preserved
loop-z-preserved c = search laws

pub returns-then-is_some : goal.returns-then-is_some
returns-then-is_some c = search laws
