-- `wire::survey_from` meets its contract.
use borrow.Author.Rules.{rules}
use Rattle.wire.proofs.SpotLaws.{spot_fits}
use Rattle.wire.proofs.SurveyLaws.{survey_start, room_fits, survey_less, survey_next, survey_stop}
use Rattle.wire.proofs.survey_from.Goals as goal

ruleset laws = (rules, spot_fits, survey_start, room_fits, survey_less, survey_next, survey_stop)

pub loop-row-smaller : goal.loop-row-smaller
loop-row-smaller c = search laws

pub loop-row-preserved : goal.loop-row-preserved
loop-row-preserved c = search laws

pub returns-in-Err : goal.returns-in-Err
returns-in-Err c = search laws
