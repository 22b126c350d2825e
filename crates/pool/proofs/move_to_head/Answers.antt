-- `pool::move_to_head` meets its contract.
use borrow.Author.Rules.{rules}
use Rattle.pool.proofs.MoveLaws.{move_front, moved_front}
use Rattle.pool.proofs.move_to_head.Goals as goal

ruleset laws = (rules, move_front, moved_front)

pub to_front-requires-clause-can_front : goal.to_front-requires-clause-can_front
to_front-requires-clause-can_front c = search laws

pub returns : goal.returns
returns c = search laws
