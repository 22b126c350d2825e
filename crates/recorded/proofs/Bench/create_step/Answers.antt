-- `recorded::Bench::create_step` meets its contract.
use borrow.Author.Rules.{rules}
use Rattle.recorded.proofs.StepsLaws.{copied, create-called}
use Rattle.recorded.proofs.Bench.create_step.Goals as goal

pub returns-in-Some : goal.returns-in-Some
returns-in-Some c =
    create-called (search rules) c.in-Some.is c.read_settings.ensures
    (copied c.args.self.now.store c.args.self.now.before (search rules) c.copy.ensures) c.create_in-t.ensures c.created_as.ensures
