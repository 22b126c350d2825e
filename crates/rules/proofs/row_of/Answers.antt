-- `rules::row_of` meets its contract: the constant is the table.
use borrow.Author.Rules.{rules}
use Rattle.rules.specs.Bytes.{table}
use Rattle.rules.proofs.TableLaws.{get_d_any}
use Rattle.rules.proofs.row_of.Goals as goal

ruleset laws = (rules, get_d_any)

pub offset_bounds-i : goal.offset_bounds-i
unfolding table
offset_bounds-i c = search laws

pub bounds-i-i : goal.bounds-i-i
unfolding table
bounds-i-i c = search laws

pub returns : goal.returns
unfolding table
returns c = search laws
