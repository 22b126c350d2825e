-- `requests::remove` meets its contract.
use borrow.Author.Rules.{rules}
use Rattle.store.proofs.LookLaws.{looks_seated}
use Rattle.requests.proofs.KeyLaws.{nowhere_else, remove_miss, resident-node, remove_gone}
use Rattle.requests.proofs.remove.Goals as goal

ruleset laws = (rules, looks_seated, nowhere_else, remove_miss, resident-node, remove_gone)

pub returns-in_default : goal.returns-in_default
returns-in_default c = search laws

pub entry_at-requires : goal.entry_at-requires
entry_at-requires c = search laws

pub remove_at-requires : goal.remove_at-requires
remove_at-requires c = search laws

pub returns : goal.returns
returns c = search laws
