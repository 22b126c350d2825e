-- `evict::try_evict_from_queue` meets its contract.
use mathlib.Core.Path.{refl}
use Rattle.evict.proofs.PopLaws.{cold-held, cold-tail}
use Rattle.evict.proofs.StepLaws.{steps-moved, steps-left}
use Rattle.evict.proofs.try_evict_from_queue.Goals as goal

pub returns-in_err-cold : goal.returns-in_err-cold
returns-in_err-cold c =
    steps-moved c.requires.0 c.args.q c.requires.1 c.pop_tail.ensures c.in_err-cold.was c.from_residual.ensures

pub leave-requires : goal.leave-requires
leave-requires c =
    (cold-held c.pop_tail.ensures c.in_ok-cold.was c.requires.0, cold-tail c.pop_tail.ensures c.in_ok-cold.was)

pub returns : goal.returns
returns c =
    steps-left c.requires.0 c.args.q c.requires.1 c.pop_tail.ensures c.in_ok-cold.was c.leave.ensures _ refl refl refl
