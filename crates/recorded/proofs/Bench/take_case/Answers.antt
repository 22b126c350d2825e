-- `recorded::Bench::take_case` meets its contract.
use borrow.Author.Rules.{rules}
use lib.ListN.{length}
use Rattle.recorded.proofs.FreshLaws.{case_short, case_refused, case_made}
use Rattle.recorded.proofs.Bench.take_case.Goals as goal

pub returns-then-input-lt-SETTINGS_BYTES : goal.returns-then-input-lt-SETTINGS_BYTES
returns-then-input-lt-SETTINGS_BYTES c = search (rules, case_short)

pub returns-then-made-ne0 : goal.returns-then-made-ne0
returns-then-made-ne0 c =
    case_refused c.args.input.now c.args.output.now c.args.self.now.store (length c.args.self.now.out) (search rules) c.in-Some.is c.read_settings.ensures
    c.create_in-made.ensures (search rules)

pub returns-else-made-ne0 : goal.returns-else-made-ne0
returns-else-made-ne0 c =
    case_made c.args.input.now c.args.output.now c.args.self.now.store (length c.args.self.now.out) (search rules) c.in-Some.is c.read_settings.ensures
    c.create_in-made.ensures (search rules) c.run_case.ensures
