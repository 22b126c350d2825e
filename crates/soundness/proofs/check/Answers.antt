-- `soundness::check` meets its contract: the limits first, then what stands behind them.
use borrow.Author.Rules.{rules}
use Rattle.soundness.proofs.CheckLaws.{bad_limits, fine-held, fine-room, fine-shaped, not-held, is-sound}
use Rattle.soundness.proofs.check.Goals as goal

ruleset laws = (rules, bad_limits, fine-held, fine-room, fine-shaped, not-held, is-sound)

pub returns-then-not-limits_fine : goal.returns-then-not-limits_fine
returns-then-not-limits_fine c = search laws
