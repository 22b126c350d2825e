-- `requests::peek` meets its contract.
use borrow.Author.Rules.{rules}
use Rattle.requests.proofs.KeyLaws.{nowhere_else, peek_miss, resident-node, peek_hit}
use Rattle.requests.proofs.peek.Goals as goal

ruleset laws = (rules, nowhere_else, peek_miss, resident-node, peek_hit)

pub returns-in_default : goal.returns-in_default
returns-in_default c = search laws

pub entry_at-requires : goal.entry_at-requires
entry_at-requires c = search laws

pub returns : goal.returns
returns c = search laws
