-- The store read as columns: a header, a pool of nodes with four sentinels behind them, and the heads of the buckets.
-- Assumes nothing.
use Rattle.std.specs.Prelude.{◌≡◌, ℕ, ◌+◌, ◌*◌, ◌≤◌, ◌<◌, List, [], ◌∷◌, eqb, length, get_or, set, drop}
use Rattle.cells.specs.Columns.{Span, column, pick}
use Rattle.nodes.specs.declared.Shape.{Shape}

-- a field of the store; `Rest` is what stands behind it, a field too so that one equation says that it stays
pub data Field : Type 0 where
  Head Key Value Next Prev Chain Queue Freq Bucket Rest : Field

-- a field's row in the table below
abbrev pub code : Field → ℕ
code Head = 0
code Key = 1
code Value = 2
code Next = 3
code Prev = 4
code Chain = 5
code Queue = 6
code Freq = 7
code Bucket = 8
code Rest = 9

-- the first byte behind the header and columns of b bytes to a node; the sentinels are nodes too
abbrev column_at : Shape → ℕ → ℕ
column_at z b = 128 + b * (z.room + 4)

-- where the buckets' heads start: behind all columns of the nodes, which have 24 bytes to each
abbrev pub heads : Shape → ℕ
heads z = column_at z 24

-- how many bytes the store uses
abbrev pub used : Shape → ℕ
used z = heads z + 2 * z.buckets

-- a column of cells of w bytes, behind columns of b bytes to a node
abbrev per_node : Shape → ℕ → ℕ → Span
per_node z b w = record { start = column_at z b; stride = w; width = w; rows = z.room + 4 }

-- no cells, where the store ends
abbrev pub end : Shape → Span
end z = record { start = used z; stride = 0; width = 0; rows = 0 }

-- the layout, in the order of the fields
abbrev pub layout : Shape → List Span
layout z =
    record { start = 0; stride = 8; width = 8; rows = 16 }
    ∷ per_node z 0 8
    ∷ per_node z 8 8
    ∷ per_node z 16 2
    ∷ per_node z 18 2
    ∷ per_node z 20 2
    ∷ per_node z 22 1
    ∷ per_node z 23 1
    ∷ record { start = heads z; stride = 2; width = 2; rows = z.buckets }
    ∷ []

-- where a field's cells are
abbrev pub span_of : Shape → Field → Span
span_of z f = get_or (layout z) (code f) (end z)

-- what proofs see of a store: a list of numbers for each field
abbrev pub Cols : Type 0
Cols = Field → List ℕ

-- the store as columns
unfoldable pub cols : Shape → List ℕ → Cols
cols z s f = pick (eqb (code f) (code Rest)) (drop (used z) s) (column (span_of z f) s)

-- the columns with v in cell i of f, and nothing else changed
unfoldable pub over : Cols → Field → ℕ → ℕ → Cols
over c f i v g = pick (eqb (code f) (code g)) (set (c g) i v) (c g)

-- the columns with l for the whole of f, and nothing else changed
unfoldable pub with_column : Cols → Field → List ℕ → Cols
with_column c f l g = pick (eqb (code f) (code g)) l (c g)

-- more buckets than a key's 32 scrambled bits can tell apart
abbrev pub too_many_buckets : ℕ
too_many_buckets = 4294967296

-- what every function asks of a store: there are nodes and buckets, two bytes number the nodes, and the bytes are there
pub record Room (z : Shape) (s : List ℕ) : Type 0 where
  pub some_room : 1 ≤ z.room
  pub some_buckets : 1 ≤ z.buckets
  pub few : z.room + 4 < 65536
  pub few_buckets : z.buckets < too_many_buckets
  pub fits : used z ≤ length s

-- v was written to cell i of f, and nothing else changed
pub record SetsField (z : Shape) (s t : List ℕ) (f : Field) (i v : ℕ) : Type 0 where
  pub columns : cols z t ≡ over (cols z s) f i v

-- r stands in cell i of f
pub record GetsField (z : Shape) (s : List ℕ) (f : Field) (i r : ℕ) : Type 0 where
  pub value : r ≡ get_or (cols z s f) i 0
