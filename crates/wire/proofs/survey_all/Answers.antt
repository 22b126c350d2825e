-- `wire::survey_all` meets its contract: all bytes are those from the offset 0 on.
use borrow.Author.Rules.{rules}
use Rattle.rules.specs.Bytes.{parse}
use Rattle.wire.proofs.survey_all.Goals as goal

pub returns : goal.returns
unfolding parse
returns c = search rules
