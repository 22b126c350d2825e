-- `key_index::add` meets its contract.
use borrow.Author.Rules.{rules}
use Rattle.key_index.proofs.StoreLaws.{place-starts, joins-first, joins-later}
use Rattle.key_index.proofs.add.Goals as goal

ruleset laws = (rules, place-starts, joins-first, joins-later)

pub place_of-p-requires : goal.place_of-p-requires
place_of-p-requires c = search laws

pub returns-then-p-z : goal.returns-then-p-z
returns-then-p-z c = search laws

pub returns-else-p-z : goal.returns-else-p-z
returns-else-p-z c = search laws
