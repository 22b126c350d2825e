-- `sizing::size_up_to` meets its contract: the tests are the rules', in their order.
use borrow.Author.Rules.{rules}
use lib.Ieee.{of_bits}
use Rattle.sizing.proofs.OrderLaws.{SmallFits, RatiosFit, small_factors, ghost_factors, is_1, is_2, is_3, is_3_above, is_4, is_5, accepted}
use Rattle.sizing.proofs.size_up_to.Goals as goal
use Rattle.sizing.proofs.size_up_to.Goals.{then-bad_ratio-via-then-bad_ratio, then-bad_ratio-via-else-bad_ratio+then-small_ratio}

ruleset laws = (rules, small_factors, ghost_factors, is_1, is_2, is_3, is_3_above, is_4, is_5, accepted)

pub returns-then-capacity-eq0 : goal.returns-then-capacity-eq0
unfolding of_bits
returns-then-capacity-eq0 c = search laws

pub returns-then-top-capacity : goal.returns-then-top-capacity
unfolding of_bits
returns-then-top-capacity c = search laws

pub returns-then-bad_ratio : goal.returns-then-bad_ratio
unfolding of_bits
returns-then-bad_ratio c = elim c.then-bad_ratio.branch [
  | then-bad_ratio-via-then-bad_ratio w ↦ search laws
  | then-bad_ratio-via-else-bad_ratio+then-small_ratio w ↦ search laws
]

pub returns-then-bad_ratio-2 : goal.returns-then-bad_ratio-2
unfolding of_bits
returns-then-bad_ratio-2 c = search laws

pub returns-then-top-ghost_limit : goal.returns-then-top-ghost_limit
unfolding of_bits
returns-then-top-ghost_limit c = search laws

pub returns : goal.returns
unfolding of_bits
returns c =
    let small : SmallFits c.args.top c.args.s.capacity c.args.s.small_ratio =
    record { room = search rules; ratio = cc; most = c.if-small_ratio.false } in
    let p : RatiosFit c.args.top c.args.s.capacity c.args.s.small_ratio c.args.s.ghost_ratio = record { small = small; ratio = cc } in
    simp (c.limit-small_limit.ensures, c.limit-ghost_limit.ensures) (accepted p (search rules))
