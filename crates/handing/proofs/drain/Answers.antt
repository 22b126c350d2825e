-- `handing::drain` meets its contract.
use borrow.Author.Rules.{rules}
use Rattle.store.proofs.LookLaws.{tail_seated}
use Rattle.handing.proofs.DrainLaws.{left, draining_start, draining_next, draining_less, draining_end}
use Rattle.handing.proofs.drain.Goals as goal

ruleset laws = (rules, tail_seated, left, draining_start, draining_next, draining_less, draining_end)

pub loop-z-smaller : goal.loop-z-smaller
loop-z-smaller c = search laws

pub loop-z-preserved : goal.loop-z-preserved
loop-z-preserved c = search laws
