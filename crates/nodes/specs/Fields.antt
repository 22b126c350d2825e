-- The columns by their names in code.
-- Assumes nothing.
use Rattle.std.specs.Prelude.{ℕ, ◌^◌}
use Rattle.nodes.specs.Nodes.{Field, Head, Key, Value, Next, Prev, Chain, Queue, Freq, Bucket, span_of}
use Rattle.nodes.specs.declared.Column.{Column}
use Rattle.nodes.specs.declared.Column.TheVariants.{Head as Head·, Key as Key·, Value as Value·, Next as Next·, Prev as Prev·}
use Rattle.nodes.specs.declared.Column.TheVariants.{Chain as Chain·, Queue as Queue·, Freq as Freq·, Bucket as Bucket·}
use Rattle.nodes.specs.declared.Shape.{Shape}

-- the field that a column has
abbrev pub field_of : Column → Field
field_of Head· = Head
field_of Key· = Key
field_of Value· = Value
field_of Next· = Next
field_of Prev· = Prev
field_of Chain· = Chain
field_of Queue· = Queue
field_of Freq· = Freq
field_of Bucket· = Bucket

-- how many cells it has
abbrev pub rows : Shape → Column → ℕ
rows z c = (span_of z (field_of c)).rows

-- and what no number in one of them comes to
abbrev pub limit : Shape → Column → ℕ
limit z c = 256 ^ (span_of z (field_of c)).width
