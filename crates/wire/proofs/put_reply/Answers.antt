-- `wire::put_reply` meets its contract: in each arm the reply is known, and with it its size and its bytes.
use borrow.Author.Rules.{rules}
use Rattle.wire.proofs.SpliceLaws.{reply_size, wrote_reply}
use Rattle.wire.proofs.put_reply.Goals as goal

ruleset laws = (rules, reply_size, wrote_reply)

pub put_one-requires : goal.put_one-requires
put_one-requires c = search laws

pub put_one-requires-in-Replaced : goal.put_one-requires-in-Replaced
put_one-requires-in-Replaced c = search laws

pub put_one-requires-in-New : goal.put_one-requires-in-New
put_one-requires-in-New c = search laws

pub put_one-requires-in-Gone : goal.put_one-requires-in-Gone
put_one-requires-in-Gone c = search laws

pub put_two-requires : goal.put_two-requires
put_two-requires c = search laws

pub put_two-requires-in-FromSmall : goal.put_two-requires-in-FromSmall
put_two-requires-in-FromSmall c = search laws

pub put_two-requires-in-FromMain : goal.put_two-requires-in-FromMain
put_two-requires-in-FromMain c = search laws
