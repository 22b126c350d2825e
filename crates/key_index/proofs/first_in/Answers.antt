-- `key_index::first_in` meets its contract.
use borrow.Author.Rules.{rules}
use Rattle.key_index.proofs.FewLaws.{depth}
use Rattle.key_index.proofs.FindLaws.{seen_none}
use Rattle.key_index.proofs.PassedLaws.{passed_start}
use Rattle.key_index.proofs.StoreLaws.{walk-found, walk-next, walk-less}
use Rattle.key_index.proofs.first_in.Goals as goal

ruleset laws = (rules, depth, seen_none, passed_start, walk-found, walk-next, walk-less)

pub returns-then-get64-k : goal.returns-then-get64-k
returns-then-get64-k c = search laws

pub loop-at-smaller : goal.loop-at-smaller
loop-at-smaller c = search laws

pub loop-at-preserved : goal.loop-at-preserved
loop-at-preserved c = search laws

pub returns : goal.returns
returns c = search laws
