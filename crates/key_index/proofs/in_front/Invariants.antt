-- `key_index::in_front` meets its contract.
use lib.ListN.{get_or}
use Rattle.nodes.specs.Nodes.{Chain, cols}
use Rattle.key_index.specs.Stored.{col}
use Rattle.key_index.proofs.FewLaws.{depth}
use Rattle.key_index.proofs.RemoveLaws.{Way}
use Rattle.key_index.proofs.in_front.Given as goal

abbrev pub invariant-loop-z : goal.invariant-loop-z
invariant-loop-z l = Way l.z.room (col (cols l.z l.s Chain)) l.h l.x l.p

abbrev pub decreases-loop-z : goal.decreases-loop-z
decreases-loop-z l = depth l.z.room (col (cols l.z l.s Chain)) l.z.room (get_or (cols l.z l.s Chain) l.p 0)
