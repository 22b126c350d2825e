-- `lists::rest_ok` meets its contract: what leads home from where the walk stands does so exactly if the whole rest does.
use native.Mathlib.Omega.{arith}
use borrow.Author.Rules.{rules}
use Rattle.lists.proofs.CheckLaws.{walk_start, walk-next, walk_bad, walk_end}
use Rattle.lists.proofs.rest_ok.Goals as goal

ruleset laws = (rules, walk_start)

pub loop-init : goal.loop-init
loop-init c = search laws

pub get-y-requires : goal.get-y-requires
get-y-requires c = (c.requires.0, c.loop.invariant.near)

pub comes_home-requires : goal.comes_home-requires
comes_home-requires c = (c.requires.0, c.loop.invariant.near)

pub returns-then-not-step_ok : goal.returns-then-not-step_ok
returns-then-not-step_ok c = walk_bad c.loop.invariant c.get-y.ensures.gets_field c.step_ok.ensures (omega (arith, c.loop-test.true)) c.if-not-step_ok.true

pub loop-preserved : goal.loop-preserved
loop-preserved c = walk-next c.loop.invariant c.get-y.ensures.gets_field c.step_ok.ensures (omega (arith, c.loop-test.true)) c.if-not-step_ok.false

pub returns : goal.returns
returns c = walk_end c.loop.invariant (omega (arith, c.loop-test.false)) c.comes_home.ensures
