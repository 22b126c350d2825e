-- `wire::spot_at` meets its contract: at each return the tests that led there.
use borrow.Author.Rules.{rules}
use Rattle.wire.proofs.SpotLaws.{spot_end, spot_short, spot_unknown, spot_cut, spot_found}
use Rattle.wire.proofs.spot_at.Goals as goal

ruleset laws = (rules, spot_end, spot_short, spot_unknown, spot_cut, spot_found)

pub returns-then-s-at : goal.returns-then-s-at
returns-then-s-at c = search laws

pub returns-then-s-at-lt2 : goal.returns-then-s-at-lt2
returns-then-s-at-lt2 c = search laws

pub returns-then-s-at-2 : goal.returns-then-s-at-2
returns-then-s-at-2 c = search laws

pub returns-in_default : goal.returns-in_default
returns-in_default c = search laws

pub returns : goal.returns
returns c = search laws
