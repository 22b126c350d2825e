-- `evict::evict_if_needed` meets its contract.
use borrow.Author.Rules.{rules}
use Rattle.evict.proofs.LoopLaws.{makes_nothing, makes_full}
use Rattle.evict.proofs.evict_if_needed.Goals as goal

ruleset laws = (rules, makes_nothing, makes_full)

pub returns-then-residents_of-limit_of : goal.returns-then-residents_of-limit_of
returns-then-residents_of-limit_of c = search laws

pub returns : goal.returns
returns c = search laws
