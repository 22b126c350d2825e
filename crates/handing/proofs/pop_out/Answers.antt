-- `handing::pop_out` meets its contract.
use Rattle.evict.proofs.PopLaws.{cold-keeps, cold_seated}
use Rattle.handing.proofs.HandOutLaws.{out-back, out-cold}
use Rattle.handing.proofs.pop_out.Goals as goal

pub returns-in_err-cold : goal.returns-in_err-cold
returns-in_err-cold c = out-back c.pop_tail.ensures c.in_err-cold.was c.from_residual.ensures

pub remove_at-requires : goal.remove_at-requires
remove_at-requires c =
    (cold-keeps c.pop_tail.ensures c.in_ok-cold.was c.requires.0, cold_seated c.pop_tail.ensures c.in_ok-cold.was)

pub returns : goal.returns
returns c = out-cold c.pop_tail.ensures c.in_ok-cold.was c.remove_at.ensures
