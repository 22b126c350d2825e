-- `runs::feed_whole` meets its contract.
use borrow.Author.Rules.{rules}
use Rattle.runs.proofs.PieceLaws.{rooms-fit, whole-refused, both-ready, end_fits, goes_inside, goes-room}
use Rattle.runs.proofs.PieceLaws.{whole-stopped, whole-goes}
use Rattle.runs.proofs.feed_whole.Goals as goal

ruleset laws = (rules, rooms-fit, whole-refused, both-ready, end_fits, goes_inside, goes-room, whole-stopped, whole-goes)

pub overflow_add-room : goal.overflow_add-room
overflow_add-room c = search laws

pub returns-then-replies-room : goal.returns-then-replies-room
returns-then-replies-room c = search laws

pub run_both-out-requires-clause-has_room : goal.run_both-out-requires-clause-has_room
run_both-out-requires-clause-has_room c = search laws

pub overflow_add-end : goal.overflow_add-end
overflow_add-end c = search laws

pub put-requires-in-Cut : goal.put-requires-in-Cut
put-requires-in-Cut c = search laws

pub returns-in-Unknown : goal.returns-in-Unknown
returns-in-Unknown c = search laws

pub returns-in-Cut : goal.returns-in-Cut
returns-in-Cut c = search laws
