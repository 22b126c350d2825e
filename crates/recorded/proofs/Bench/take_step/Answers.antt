-- `recorded::Bench::take_step` meets its contract.
use borrow.Author.Rules.{rules}
use Rattle.recorded.specs.Steps.{create_step}
use Rattle.recorded.proofs.Bench.take_step.Goals as goal

pub returns-in-Some-Create : goal.returns-in-Some-Create
returns-in-Some-Create c = create_step (search rules) c.create_step.ensures
