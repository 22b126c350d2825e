-- `runs::run_both` meets its contract.
use borrow.Author.Rules.{rules}
use Rattle.runs.proofs.PieceLaws.{head-ready, piece-ready, both-ran}
use Rattle.runs.proofs.run_both.Goals as goal

ruleset laws = (rules, head-ready, piece-ready, both-ran)

pub run_from-middle-requires-clause-has_room : goal.run_from-middle-requires-clause-has_room
run_from-middle-requires-clause-has_room c = search laws

pub run_from-requires-clause-has_room : goal.run_from-requires-clause-has_room
run_from-requires-clause-has_room c = search laws

pub returns : goal.returns
returns c = search laws
