-- `recorded::wrote_only` meets its contract.
use borrow.Author.Rules.{rules}
use Rattle.recorded.proofs.ComparedLaws.{wrote-rest}
use Rattle.recorded.proofs.wrote_only.Goals as goal
use Rattle.recorded.proofs.wrote_only.Goals.{then-n-out, else-n-out}

ruleset laws = (rules, wrote-rest)

pub returns-then-same : goal.returns-then-same
returns-then-same c = elim c.if-n-out.branch [
  | then-n-out w ↦ search laws
  | else-n-out w ↦ search laws
]
