-- `wire::survey_from` meets its contract.
use Prim.Native.Nat.{◌-◌}
use lib.ListN.{length}
use Rattle.wire.proofs.SurveyLaws.{Surveying}
use Rattle.wire.proofs.survey_from.Given as goal

abbrev pub invariant-loop-row : goal.invariant-loop-row
invariant-loop-row l = Surveying l.s l.start l.at l.room

abbrev pub decreases-loop-row : goal.decreases-loop-row
decreases-loop-row l = length l.s - l.at
