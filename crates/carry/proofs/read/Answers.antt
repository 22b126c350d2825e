-- `carry::read` meets its contract.
use borrow.Author.Rules.{rules}
use Rattle.carry.proofs.CarriesLaws.{unfit-count, unfit-form, unfit_odd, brings_stopped, brings_going}
use Rattle.carry.proofs.read.Goals as goal

ruleset laws = (rules, unfit-count, unfit-form, unfit_odd, brings_stopped, brings_going)

pub returns-then-count-gt-MOST_KEPT : goal.returns-then-count-gt-MOST_KEPT
returns-then-count-gt-MOST_KEPT c = search laws

pub returns-then-not-same : goal.returns-then-not-same
returns-then-not-same c = search laws

pub returns-then-offset-eq1 : goal.returns-then-offset-eq1
returns-then-offset-eq1 c = search laws

pub returns-then-stopped : goal.returns-then-stopped
returns-then-stopped c = search laws

pub returns-else-stopped : goal.returns-else-stopped
returns-else-stopped c = search laws
