-- `replay::put_refusal` meets its contract.
use Rattle.replay.proofs.OutputLaws.{refusal_wrote}
use Rattle.replay.proofs.put_refusal.Goals as goal

pub returns : goal.returns
returns c =
    rw (← c.number.ensures, ← c.detail.ensures) (refusal_wrote c.number.result c.detail.result c.requires c.copy.ensures c.put.ensures c.put-2.ensures)
