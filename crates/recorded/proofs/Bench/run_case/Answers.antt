-- `recorded::Bench::run_case` meets its contract.
use borrow.Author.Rules.{rules}
use Rattle.recorded.proofs.StepsLaws.{case_run}
use Rattle.recorded.proofs.Bench.run_case.Goals as goal

pub returns : goal.returns
returns c = case_run c.clear.ensures c.run_in-t.ensures (search rules) c.case_as.ensures
