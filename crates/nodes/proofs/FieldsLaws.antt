-- A cell's place by its column, and what is read and written there.
-- Assumes nothing.
use mathlib.Core.Path.{◌≡◌, refl, sym, ◌∙◌}
use mathlib.Core.List.{List}
use Prim.Native.Nat.{ℕ, ◌+◌, ◌*◌, ◌<◌}
use Rattle.cells.specs.Cells.{le, put_le}
use Rattle.cells.specs.Columns.{cell}
use Rattle.nodes.specs.Fields.{field_of, rows, limit}
use Rattle.nodes.specs.Nodes.{span_of, Room, SetsField, GetsField}
use Rattle.nodes.specs.declared.Column.{Column}
use Rattle.nodes.specs.declared.Column.TheVariants.{Head, Key, Value, Next, Prev, Chain, Queue, Freq, Bucket}
use Rattle.nodes.specs.declared.Shape.{Shape}
use Rattle.nodes.proofs.NodesLaws.{wrote, was_read}

-- the cells of a column follow each other closely
close : (z : Shape) (c : Column) → (span_of z (field_of c)).stride ≡ (span_of z (field_of c)).width
close z Head = refl
close z Key = refl
close z Value = refl
close z Next = refl
close z Prev = refl
close z Chain = refl
close z Queue = refl
close z Freq = refl
close z Bucket = refl

-- a cell that has neither one byte nor two has eight
wide : (z : Shape) (c : Column) → ((span_of z (field_of c)).width ≡ 1 → ⊥) → ((span_of z (field_of c)).width ≡ 2 → ⊥) → 8 ≡ (span_of z (field_of c)).width
wide z Head n m = refl
wide z Key n m = refl
wide z Value n m = refl
wide z Next n m = absurd (m refl)
wide z Prev n m = absurd (m refl)
wide z Chain n m = absurd (m refl)
wide z Queue n m = absurd (n refl)
wide z Freq n m = absurd (n refl)
wide z Bucket n m = absurd (m refl)

pub column_wide : (z : Shape) (c : Column) {w : ℕ} → w ≡ (span_of z (field_of c)).width → (w ≡ 1 → ⊥) → (w ≡ 2 → ⊥) → 8 ≡ w
column_wide z c e n m = wide z c (λ f. n (e ∙ f)) (λ f. m (e ∙ f)) ∙ sym e

module _ (z : Shape) (c : Column) {a w : ℕ} (start : a ≡ (span_of z (field_of c)).start) (width : w ≡ (span_of z (field_of c)).width) where
  here : (i : ℕ) → a + w * i ≡ cell (span_of z (field_of c)) i
  here i = rw (close z c, start, width)

  module _ {n i : ℕ} (same : n ≡ w) (h : i < rows z c) where
    pub column_read : {s : List ℕ} {r : ℕ} → r ≡ le n s (a + w * i) → GetsField z s (field_of c) i r
    column_read e = was_read (e ∙ rw (here i, same, width)) h

    pub column_wrote : {s t : List ℕ} {v : ℕ} → Room z s → t ≡ put_le n s (a + w * i) v → v < limit z c → SetsField z s t (field_of c) i v
    column_wrote room e l = wrote room (e ∙ rw (here i, same, width)) h l
