-- `ghost_list::record_tail` meets its contract.
use borrow.Author.Rules.{rules}
use Rattle.store.proofs.LookLaws.{tail_seated}
use Rattle.ghost_list.proofs.GhostLaws.{detached-keeps, recorded-tail}
use Rattle.ghost_list.proofs.record_tail.Goals as goal

ruleset laws = (rules, tail_seated, detached-keeps, recorded-tail)

pub trim-requires : goal.trim-requires
trim-requires c = search laws

pub returns : goal.returns
returns c = search laws
