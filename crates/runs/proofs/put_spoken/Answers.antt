-- `runs::put_spoken` meets its contract.
use borrow.Author.Rules.{rules}
use Rattle.runs.proofs.RunLaws.{first_fits, closing-fits, spoken_wrote}
use Rattle.runs.proofs.put_spoken.Goals as goal

ruleset laws = (rules, first_fits, closing-fits, spoken_wrote)

pub put_pushed-middle-requires : goal.put_pushed-middle-requires
put_pushed-middle-requires c = search laws

pub put_reply-requires : goal.put_reply-requires
put_reply-requires c = search laws

pub returns : goal.returns
returns c = search laws
