-- `key_index::in_front` meets its contract.
use borrow.Author.Rules.{rules}
use Rattle.key_index.proofs.FewLaws.{depth}
use Rattle.key_index.proofs.RemoveLaws.{way_start}
use Rattle.key_index.proofs.StoreLaws.{way_found, way_on-to, way_less}
use Rattle.key_index.proofs.in_front.Goals as goal

ruleset laws = (rules, depth, way_start, way_found, way_on-to, way_less)

pub loop-z-init : goal.loop-z-init
loop-z-init c = search laws

pub returns-then-next-x : goal.returns-then-next-x
returns-then-next-x c = search laws

pub loop-z-smaller : goal.loop-z-smaller
loop-z-smaller c = search laws

pub loop-z-preserved : goal.loop-z-preserved
loop-z-preserved c = search laws
