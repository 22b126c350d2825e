-- `runs::put_pushed` meets its contract.
use borrow.Author.Rules.{rules}
use Rattle.runs.proofs.RunLaws.{put-nothing, put_small, put-main, small_fits, main-fits}
use Rattle.runs.proofs.put_pushed.Goals as goal

ruleset laws = (rules, put-nothing, put_small, put-main, small_fits, main-fits)

pub put_reply-requires : goal.put_reply-requires
put_reply-requires c = search laws

pub put_reply-requires-in-Main : goal.put_reply-requires-in-Main
put_reply-requires-in-Main c = search laws

pub returns-in-None : goal.returns-in-None
returns-in-None c = search laws

pub returns-in-Small : goal.returns-in-Small
returns-in-Small c = search laws

pub returns-in-Main : goal.returns-in-Main
returns-in-Main c = search laws
