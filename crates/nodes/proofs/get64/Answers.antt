-- `nodes::get64` meets its contract, whichever width the column has.
use native.Mathlib.Omega.{arith}
use borrow.Author.Rules.{rules}
use Rattle.nodes.proofs.FieldsLaws.{column_wide, column_read}
use Rattle.nodes.proofs.get64.Goals as goal

pub returns-in-1-clause-gets_field : goal.returns-in-1-clause-gets_field
returns-in-1-clause-gets_field c =
    column_read c.args.z c.args.c c.cells_of-p.ensures.start c.cells_of-p.ensures.width (omega (arith, c.in-1.is)) c.requires.1 c.get.ensures.value

pub returns-in-2-clause-gets_field : goal.returns-in-2-clause-gets_field
returns-in-2-clause-gets_field c =
    column_read c.args.z c.args.c c.cells_of-p.ensures.start c.cells_of-p.ensures.width (omega (arith, c.in-2.is)) c.requires.1 c.get-in-2.ensures.value

pub returns-in_default-clause-gets_field : goal.returns-in_default-clause-gets_field
returns-in_default-clause-gets_field c =
    column_read c.args.z c.args.c c.cells_of-p.ensures.start c.cells_of-p.ensures.width
    (column_wide c.args.z c.args.c c.cells_of-p.ensures.width (search rules) (search rules)) c.requires.1 c.get-in_default.ensures.value
