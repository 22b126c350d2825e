-- `recorded::CaseTaker` reads the cases of a file.
use mathlib.Core.Path.{refl}
use Rattle.recorded.specs.Steps.{case_cut, case_read}
use Rattle.recorded.proofs.CaseTakerTakes.next.Goals as goal

pub returns-in_err-head : goal.returns-in_err-head
returns-in_err-head g c = case_cut c.from_residual.ensures.0

pub returns-in_err-read : goal.returns-in_err-read
returns-in_err-read g c = case_cut c.from_residual-in_err-read.ensures.0

pub returns : goal.returns
returns g c = case_read c.get-n.result c.get-m.result c.case_with.result c.case_with.ensures refl
