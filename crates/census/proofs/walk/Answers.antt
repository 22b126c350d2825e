-- `census::walk` meets its contract.
use borrow.Author.Rules.{rules}
use Rattle.census.proofs.CheckLaws.{walks_start, walks_fits, walks_less, walks_broken, walks_next, walks_end}
use Rattle.census.proofs.walk.Goals as goal

ruleset laws = (rules, walks_start, walks_fits, walks_less, walks_broken, walks_next, walks_end)

pub returns-then-not-link_ok : goal.returns-then-not-link_ok
returns-then-not-link_ok c = search laws

pub overflow_add-count : goal.overflow_add-count
overflow_add-count c = search laws

pub loop-at-smaller : goal.loop-at-smaller
loop-at-smaller c = search laws

pub loop-at-preserved : goal.loop-at-preserved
loop-at-preserved c = search laws

pub returns : goal.returns
returns c = search laws
