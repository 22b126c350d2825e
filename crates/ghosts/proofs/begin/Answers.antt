-- `ghosts::begin` meets its contract: what is set up has the limit that was asked for.
use Rattle.ghosts.proofs.OperationsLaws.{opens}
use Rattle.ghosts.proofs.begin.Goals as goal

pub returns : goal.returns
returns c = opens c.set_up.ensures c.shape_of.ensures
