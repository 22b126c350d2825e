-- `lists::pair_ok` meets its contract: of each list, what leads home from where its walk stands does so exactly if the whole list does.
use native.Mathlib.Nat.{min-le_left, min-le_right}
use native.Mathlib.Omega.{arith}
use borrow.Author.Rules.{rules}
use Rattle.lists.proofs.CheckLaws.{pair-start, bad_one, bad_two, pair-next, bad_rest, pair_end}
use Rattle.lists.proofs.pair_ok.Goals as goal

ruleset laws = (rules, pair-start)

pub loop-init : goal.loop-init
loop-init c = search laws

pub get-x-requires : goal.get-x-requires
get-x-requires c = (c.requires, c.loop.invariant.one.near)

pub get-y-requires : goal.get-y-requires
get-y-requires c = (c.requires, c.loop.invariant.two.near)

pub returns-then-not-step_ok : goal.returns-then-not-step_ok
returns-then-not-step_ok c =
    bad_one c.loop.invariant
    (omega (arith, c.loop-test.true, c.min-shorter.ensures, min-le_left c.length_of-a.result c.length_of-b.result)) c.get-x.ensures.gets_field
    c.step_ok.ensures c.if-not-step_ok.true

pub returns-then-not-step_ok-2 : goal.returns-then-not-step_ok-2
returns-then-not-step_ok-2 c =
    bad_two c.loop.invariant c.get-y.ensures.gets_field c.step_ok-in-loop.ensures
    (omega (arith, c.loop-test.true, c.min-shorter.ensures, min-le_right c.length_of-a.result c.length_of-b.result)) c.if-not-step_ok-2.true

pub loop-preserved : goal.loop-preserved
loop-preserved c =
    pair-next c.loop.invariant c.get-y.ensures.gets_field c.step_ok-in-loop.ensures c.get-x.ensures.gets_field c.step_ok.ensures
    (omega (arith, c.loop-test.true, c.min-shorter.ensures, min-le_left c.length_of-a.result c.length_of-b.result))
    (omega (arith, c.loop-test.true, c.min-shorter.ensures, min-le_right c.length_of-a.result c.length_of-b.result)) c.if-not-step_ok.false
    c.if-not-step_ok-2.false

pub rest_ok-requires : goal.rest_ok-requires
rest_ok-requires c = (c.requires, c.loop.invariant.one.near)

pub rest_ok-requires-then-rest_ok : goal.rest_ok-requires-then-rest_ok
rest_ok-requires-then-rest_ok c = (c.requires, c.loop.invariant.two.near)

pub returns-then-rest_ok : goal.returns-then-rest_ok
returns-then-rest_ok c =
    pair_end c.loop.invariant (omega (arith, c.loop-test.false, c.loop.auto)) c.rest_ok.ensures (omega (arith, c.loop-test.false, c.loop.auto))
    c.if-rest_ok.true c.rest_ok-then-rest_ok.ensures

pub returns-else-rest_ok : goal.returns-else-rest_ok
returns-else-rest_ok c =
    bad_rest c.loop.invariant (omega (arith, c.loop-test.false, c.loop.auto)) c.rest_ok.ensures c.if-rest_ok.false
