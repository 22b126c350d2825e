-- `key_index::find` meets its contract.
use borrow.Author.Rules.{rules}
use Rattle.key_index.proofs.StoreLaws.{starts, finds}
use Rattle.key_index.proofs.find.Goals as goal

ruleset laws = (rules, starts, finds)

pub first_in-requires : goal.first_in-requires
first_in-requires c = search laws

pub returns : goal.returns
returns c = search laws
