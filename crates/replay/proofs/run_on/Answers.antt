-- `replay::run_on` meets its contract.
use Rattle.replay.proofs.OutputLaws.{run-made}
use Rattle.replay.proofs.run_on.Goals as goal

pub returns : goal.returns
returns c = run-made c.requires c.create.ensures c.in_ok-create.was c.run.ensures
