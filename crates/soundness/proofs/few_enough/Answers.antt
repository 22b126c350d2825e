-- `soundness::few_enough` meets its contract: what the lengths say of the state.
use mathlib.Core.Path.{sym, ◌∙◌}
use native.Mathlib.Omega.{arith}
use borrow.Author.Tests.{leb-true, leb-false}
use Rattle.store.specs.Holds.{state_in}
use Rattle.soundness.proofs.CheckLaws.{small_crowded, main_crowded, few_decides}
use Rattle.soundness.proofs.few_enough.Goals as goal
use Rattle.soundness.proofs.few_enough.Goals.{then-small-capacity, else-small-capacity}

pub returns-then-main-capacity : goal.returns-then-main-capacity
returns-then-main-capacity c = elim c.if-small-capacity.branch [
  | then-small-capacity w ↦ few_decides {σ = state_in c.args.z c.args.s.now} c.limit_of-capacity.ensures c.len_of-small.ensures
      (search c.len_of-main.ensures) w.if-small-capacity.true (leb-true _ _ (sym w.value-is ∙ c.if-main-capacity.true)) c.limit_of.ensures c.ghost_len.ensures
  | else-small-capacity w ↦ omega (arith, leb-true _ _ (sym w.value-is ∙ c.if-main-capacity.true), w.if-small-capacity.false)
]

pub returns-else-main-capacity : goal.returns-else-main-capacity
returns-else-main-capacity c = elim c.if-small-capacity.branch [
  | then-small-capacity w ↦ rw c.if-main-capacity.false (main_crowded {σ = state_in c.args.z c.args.s.now}
      c.limit_of-capacity.ensures c.len_of-small.ensures c.len_of-main.ensures w.if-small-capacity.true
      (leb-false _ _ (sym w.value-is ∙ c.if-main-capacity.false)))
  | else-small-capacity w ↦ rw c.if-main-capacity.false (small_crowded {σ = state_in c.args.z c.args.s.now}
      c.limit_of-capacity.ensures c.len_of-small.ensures w.if-small-capacity.false)
]
