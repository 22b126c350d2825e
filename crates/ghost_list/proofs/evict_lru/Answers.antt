-- `ghost_list::evict_lru` meets its contract.
use borrow.Author.Rules.{rules}
use Rattle.store.proofs.KeepsLaws.{ghost_node}
use Rattle.store.proofs.LookLaws.{oldest_seated}
use Rattle.ghost_list.proofs.GhostLaws.{lost_none, lost_last}
use Rattle.ghost_list.proofs.evict_lru.Goals as goal

ruleset laws = (rules, ghost_node, oldest_seated, lost_none, lost_last)

pub returns-then-ghost_len-eq0 : goal.returns-then-ghost_len-eq0
returns-then-ghost_len-eq0 c = search laws

pub ghost_at-k-requires : goal.ghost_at-k-requires
ghost_at-k-requires c = search laws

pub returns : goal.returns
returns c = search laws
