-- `store::set_freq` meets its contract.
use borrow.Author.Rules.{rules}
use Rattle.store.proofs.KeepsLaws.{freq-set}
use Rattle.store.proofs.set_freq.Goals as goal

ruleset laws = (rules, freq-set)

pub returns : goal.returns
returns c = search laws
