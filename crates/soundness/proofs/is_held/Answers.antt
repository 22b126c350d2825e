-- `soundness::is_held` meets its contract: the pool first, then the numbers, then the freqs.
use mathlib.Core.Path.{sym, ◌∙◌}
use borrow.Author.Rules.{rules}
use Rattle.soundness.proofs.CheckLaws.{no_pool, pool-keeps, too_many, all_decide}
use Rattle.soundness.proofs.is_held.Goals.{then-check_lists_and_index, else-check_lists_and_index}
use Rattle.soundness.proofs.is_held.Goals as goal

ruleset laws = (rules, pool-keeps)

pub few_enough-requires : goal.few_enough-requires
few_enough-requires c = search laws

pub returns-then-few_enough : goal.returns-then-few_enough
returns-then-few_enough c =
    elim c.if-check_lists_and_index.branch [
      | then-check_lists_and_index w ↦
          all_decide c.check_lists_and_index.ensures w.if-check_lists_and_index.true c.requires.1 w.few_enough.ensures (search rules) c.requires.0
          (sym w.value-is ∙ c.if-few_enough.true) c.all_cool.ensures
      | else-check_lists_and_index w ↦ search rules
    ]

pub returns-else-few_enough : goal.returns-else-few_enough
returns-else-few_enough c =
    elim c.if-check_lists_and_index.branch [
      | then-check_lists_and_index w ↦ too_many w.few_enough.ensures (sym w.value-is ∙ c.if-few_enough.false) c.if-few_enough.false
      | else-check_lists_and_index w ↦ no_pool c.check_lists_and_index.ensures w.if-check_lists_and_index.false c.if-few_enough.false
    ]
