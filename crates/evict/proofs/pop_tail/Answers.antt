-- `evict::pop_tail` meets its contract.
use borrow.Author.Rules.{rules}
use Rattle.evict.proofs.PopLaws.{tail-node, pop_back, pop_cold}
use Rattle.evict.proofs.pop_tail.Goals as goal

ruleset laws = (rules, tail-node, pop_back, pop_cold)

pub entry_at-entry-requires : goal.entry_at-entry-requires
entry_at-entry-requires c = search laws

pub returns-then-entry-gt0 : goal.returns-then-entry-gt0
returns-then-entry-gt0 c = search laws

pub returns : goal.returns
returns c = search laws
