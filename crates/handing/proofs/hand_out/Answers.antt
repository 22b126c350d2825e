-- `handing::hand_out` meets its contract.
use borrow.Author.Rules.{rules}
use Rattle.handing.proofs.HandOutLaws.{first-none}
use Rattle.handing.proofs.hand_out.Goals as goal

ruleset laws = (rules, first-none)

pub returns-then-len_of-eq0 : goal.returns-then-len_of-eq0
returns-then-len_of-eq0 c = search laws
