-- `key_index::remove` meets its contract.
use borrow.Author.Rules.{rules}
use Rattle.key_index.proofs.StoreLaws.{leads, unchains_first, unchains_later}
use Rattle.key_index.proofs.remove.Goals as goal

ruleset laws = (rules, leads, unchains_first, unchains_later)

pub in_front-p-requires : goal.in_front-p-requires
in_front-p-requires c = search laws

pub returns-then-h-x : goal.returns-then-h-x
returns-then-h-x c = search laws

pub returns-else-h-x : goal.returns-else-h-x
returns-else-h-x c = search laws
