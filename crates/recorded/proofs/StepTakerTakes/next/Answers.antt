-- `recorded::StepTaker` reads the steps of a file.
use mathlib.Core.Path.{refl}
use Rattle.recorded.specs.Steps.{cut_step, step_read}
use Rattle.recorded.proofs.StepTakerTakes.next.Goals as goal

pub returns-in_err-head : goal.returns-in_err-head
returns-in_err-head g c = cut_step c.from_residual.ensures.0

pub returns-in_err-read : goal.returns-in_err-read
returns-in_err-read g c = cut_step c.from_residual-in_err-read.ensures.0

pub returns : goal.returns
returns g c = step_read c.step_of-s.result c.step_with.result c.step_with.ensures refl
