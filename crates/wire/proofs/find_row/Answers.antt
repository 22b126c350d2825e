-- `wire::find_row` meets its contract. The number of rows that the loop goes by is the length of the table, once that is unfolded.
use borrow.Author.Rules.{rules}
use Rattle.rules.specs.Bytes.{table}
use Rattle.wire.proofs.SpotLaws.{seek_found, seek-next, seek-over}
use Rattle.wire.proofs.find_row.Goals as goal

ruleset laws = (rules, seek_found, seek-next, seek-over)

pub row_of-row-requires : goal.row_of-row-requires
unfolding table
row_of-row-requires c = search laws

pub loop-i-preserved : goal.loop-i-preserved
unfolding table
loop-i-preserved c = search laws

pub returns-then-marked : goal.returns-then-marked
unfolding table
returns-then-marked c = search laws

pub returns : goal.returns
unfolding table
returns c = search laws
