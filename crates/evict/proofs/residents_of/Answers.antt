-- `evict::residents_of` meets its contract.
use borrow.Author.Rules.{rules}
use Rattle.evict.proofs.LoopLaws.{residents-are, residents-fit}
use Rattle.evict.proofs.residents_of.Goals as goal

ruleset laws = (rules, residents-are, residents-fit)

pub overflow_add-result : goal.overflow_add-result
overflow_add-result c = search laws

pub returns : goal.returns
returns c = search laws
