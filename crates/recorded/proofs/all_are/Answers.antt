-- `recorded::all_are` meets its contract: byte by byte.
use mathlib.Core.Path.{refl, sym, ap, ap₂, ◌∙◌}
use mathlib.Core.Bool.{Bool, ◌&&◌}
use mathlib.Core.List.{List}
use Prim.Native.Nat.{ℕ}
use lib.ListN.{get_or}
use lib.Seq.{take_all}
use borrow.Author.Tests.{eq-eqb}
use Rattle.std.proofs.Common.{◌==◌}
use Rattle.std.specs.List.{list_all}
use Rattle.std.proofs.lemmas.List.Folds.{list_all_more}
use Rattle.recorded.proofs.all_are.Goals as goal

pub loop-i-init : goal.loop-i-init
loop-i-init c = refl

pub loop-i-preserved : goal.loop-i-preserved
loop-i-preserved c =
    list_all_more (λ b. b == c.args.byte) c.args.s.now c.loop-i.i 0 c.loop-i-test.true
    ∙ ap₂ (λ (a b : Bool). a && b) c.loop-i.invariant (eq-eqb (get_or c.args.s.now c.loop-i.i 0) c.args.byte c.if-s-i.false)

pub returns : goal.returns
returns c =
    sym c.loop-i.invariant ∙ ap (λ (l : List ℕ). list_all (λ b. b == c.args.byte) l) (take_all c.loop-i.i c.args.s.now c.loop-i-test.false)
