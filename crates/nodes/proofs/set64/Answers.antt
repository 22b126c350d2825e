-- `nodes::set64` meets its contract, whichever width the column has.
use native.Mathlib.Omega.{arith}
use borrow.Author.Rules.{rules}
use Rattle.nodes.proofs.FieldsLaws.{column_wide, column_wrote}
use Rattle.nodes.proofs.set64.Goals as goal

pub returns-in-1 : goal.returns-in-1
returns-in-1 c =
    column_wrote c.args.z c.args.c c.cells_of-p.ensures.start c.cells_of-p.ensures.width (omega (arith, c.in-1.is)) c.requires.1 c.requires.0
    c.put.ensures c.requires.2

pub returns-in-2 : goal.returns-in-2
returns-in-2 c =
    column_wrote c.args.z c.args.c c.cells_of-p.ensures.start c.cells_of-p.ensures.width (omega (arith, c.in-2.is)) c.requires.1 c.requires.0
    c.put-in-2.ensures c.requires.2

pub returns-in_default : goal.returns-in_default
returns-in_default c =
    column_wrote c.args.z c.args.c c.cells_of-p.ensures.start c.cells_of-p.ensures.width
    (column_wide c.args.z c.args.c c.cells_of-p.ensures.width (search rules) (search rules)) c.requires.1 c.requires.0
    c.put-in_default.ensures c.requires.2
