-- `key_index::place_of` meets its contract.
use Rattle.nodes.specs.Nodes.{Key, Chain, cols}
use Rattle.key_index.specs.Stored.{col}
use Rattle.key_index.proofs.FewLaws.{depth}
use Rattle.key_index.proofs.AddLaws.{Under}
use Rattle.key_index.proofs.place_of.Given as goal

abbrev pub invariant-loop-at : goal.invariant-loop-at
invariant-loop-at l = Under l.z.room (col (cols l.z l.s Key)) (col (cols l.z l.s Chain)) l.k l.h l.at l.low

abbrev pub decreases-loop-at : goal.decreases-loop-at
decreases-loop-at l = depth l.z.room (col (cols l.z l.s Chain)) l.z.room l.at
