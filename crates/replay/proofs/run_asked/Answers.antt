-- `replay::run_asked` meets its contract.
use borrow.Author.Rules.{rules}
use Rattle.replay.proofs.OutputLaws.{reply_asked, asked-long}
use Rattle.replay.proofs.run_asked.Goals as goal

ruleset laws = (rules, reply_asked, asked-long)

pub slice_bounds-run_on-count : goal.slice_bounds-run_on-count
slice_bounds-run_on-count c = search laws

pub slice_bounds-run_on-start : goal.slice_bounds-run_on-start
slice_bounds-run_on-start c = search laws

pub returns : goal.returns
returns c = search laws
