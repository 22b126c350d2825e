-- `store::look` meets its contract.
use mathlib.Core.Path.{sym, ◌∙◌}
use borrow.Author.Rules.{rules}
use Rattle.store.proofs.LookLaws.{look_node, look_small, look_main, look_ghost, look_absent}
use Rattle.store.proofs.look.Goals as goal

ruleset laws = (rules, look_node, look_small, look_main, look_ghost, look_absent)

pub returns-in_default : goal.returns-in_default
returns-in_default c = search laws

pub get-t-requires : goal.get-t-requires
get-t-requires c = search laws

pub returns-then-t-number : goal.returns-then-t-number
returns-then-t-number c = search laws

pub returns-then-t-number-2 : goal.returns-then-t-number-2
returns-then-t-number-2 c = search laws

pub returns : goal.returns
returns c =
    look_main c.requires c.find.ensures c.in-Some.is c.get-t.ensures.gets_field (λ e. c.if-t-number.false (e ∙ sym c.number.ensures.value))
    (λ e. c.if-t-number-2.false (e ∙ sym c.number-2.ensures.value))
