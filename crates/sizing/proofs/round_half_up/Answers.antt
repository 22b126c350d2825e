-- `sizing::round_half_up` meets its contract: by the exponent's field the result is 0, 2 ^ 52 or the shifted digits.
use borrow.Author.Rules.{rules}
use Rattle.sizing.proofs.PatternsLaws.{cut_low, cut_high, cut-middle}
use Rattle.sizing.proofs.round_half_up.Goals as goal

ruleset laws = (rules, cut_low, cut_high, cut-middle)

pub returns-then-field-lt1022 : goal.returns-then-field-lt1022
returns-then-field-lt1022 c = search laws

pub returns-then-field-gt1074 : goal.returns-then-field-gt1074
returns-then-field-gt1074 c = search laws

pub returns : goal.returns
returns c = search laws
