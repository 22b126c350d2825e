-- `requests::get` meets its contract.
use borrow.Author.Rules.{rules}
use Rattle.requests.proofs.KeyLaws.{nowhere_else, get-miss, resident-node, get-hit}
use Rattle.requests.proofs.get.Goals as goal

ruleset laws = (rules, nowhere_else, get-miss, resident-node, get-hit)

pub returns-in_default : goal.returns-in_default
returns-in_default c = search laws

pub entry_at-entry-requires : goal.entry_at-entry-requires
entry_at-entry-requires c = search laws

pub set_freq-requires : goal.set_freq-requires
set_freq-requires c = search laws

pub returns : goal.returns
returns c = search laws
