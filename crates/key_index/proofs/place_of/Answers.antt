-- `key_index::place_of` meets its contract.
use borrow.Author.Rules.{rules}
use Rattle.key_index.proofs.FewLaws.{depth}
use Rattle.key_index.proofs.AddLaws.{under-start}
use Rattle.key_index.proofs.StoreLaws.{place_found, place-next, walk-less, place_end}
use Rattle.key_index.proofs.place_of.Goals as goal

ruleset laws = (rules, depth, under-start, place_found, place-next, walk-less, place_end)

pub loop-at-init : goal.loop-at-init
loop-at-init c = search laws

pub returns-then-k-get64 : goal.returns-then-k-get64
returns-then-k-get64 c = search laws

pub loop-at-smaller : goal.loop-at-smaller
loop-at-smaller c = search laws

pub loop-at-preserved : goal.loop-at-preserved
loop-at-preserved c = search laws

pub returns : goal.returns
returns c = search laws
