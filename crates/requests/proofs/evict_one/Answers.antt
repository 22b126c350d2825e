-- `requests::evict_one` meets its contract.
use borrow.Author.Rules.{rules}
use Rattle.requests.proofs.InsertLaws.{makes_held}
use Rattle.requests.proofs.EvictOneLaws.{evicts_one}
use Rattle.requests.proofs.evict_one.Goals as goal

ruleset laws = (rules, makes_held, evicts_one)

pub hand_out-closing-requires : goal.hand_out-closing-requires
hand_out-closing-requires c = search laws

pub returns : goal.returns
returns c = search laws
