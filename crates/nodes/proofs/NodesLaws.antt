-- What a read and a write of one cell are in columns: one law for every field, and for any numbers of nodes and of buckets.
-- Assumes nothing.
use mathlib.Core.Path.{◌≡◌, refl, sym, ap₂, ◌∙◌, fun_ext, subst}
use mathlib.Core.List.{List}
use Prim.Native.Nat.{ℕ, ◌^◌, ◌≤◌, ◌<◌}
use native.Mathlib.Nat.{not-suc-le-zero, one-le-pow}
use native.Mathlib.Decide.{ℕ_discrete, dec_lt}
use native.Mathlib.Omega.{arith}
use lib.Dec.{eqb}
use lib.ListN.{length, get_or, set, drop, get_or-eq_default}
use borrow.Author.Tests.{ne_eqb, eq-eqb}
use Rattle.cells.specs.Cells.{le, put_le, Bytes}
use Rattle.cells.specs.Columns.{Span, cell, column, put_cell, pick}
use Rattle.cells.specs.Layout.{Each, Spaced, InOrder}
use Rattle.cells.proofs.Laws.{le-lt}
use Rattle.cells.proofs.ColumnsLaws.{get_or-column, length-column}
use Rattle.cells.proofs.LayoutLaws.{put-own, put_other, put_rest}
use Rattle.nodes.specs.Nodes.{Field, Rest, code, used, layout, end, span_of, cols, over, Room, SetsField, GetsField}
use Rattle.nodes.proofs.OverLaws.{Other}
use Rattle.nodes.specs.declared.Shape.{Shape}

-- ---- the table is a layout

fit : (z : Shape) → 1 ≤ z.room → 1 ≤ z.buckets → Each (Spaced (end z)) (end z) (layout z)
fit z h k = omega arith

order : (z : Shape) → 1 ≤ z.room → 1 ≤ z.buckets → InOrder (end z) (layout z)
order z h k = (omega arith, (omega arith, omega arith))

-- ---- bytes to columns

module _ (z : Shape) (s : List ℕ) (room : Room z s) where
  -- by a field's row in the table
  view : List ℕ → ℕ → List ℕ
  view u g = pick (eqb g (code Rest)) (drop (used z) u) (column (get_or (layout z) g (end z)) u)

  abbrev at : ℕ → Span
  at f = get_or (layout z) f (end z)

  abbrev ok : Each (Spaced (end z)) (end z) (layout z)
  ok = fit z room.some_room room.some_buckets

  abbrev in_order : InOrder (end z) (layout z)
  in_order = order z room.some_room room.some_buckets

  view-put : (f i v : ℕ) → i < (at f).rows → v < 256 ^ (at f).width → (g : ℕ)
      → view (put_cell (at f) s i v) g ≡ pick (eqb f g) (set (view s g) i v) (view s g)
  unfolding view
  view-put f i v h l g = which (ℕ_discrete f g)
    where
      own : Dec (f ≡ code Rest) → view (put_cell (at f) s i v) f ≡ set (view s f) i v
      own (yes q) = absurd (not-suc-le-zero (subst (λ (x : ℕ). i < (at x).rows) q h))
      own (no x) = rw (ne_eqb f (code Rest) x) (put-own (end z) (layout z) ok in_order s f i v h room.fits l)

      which : Dec (f ≡ g) → view (put_cell (at f) s i v) g ≡ pick (eqb f g) (set (view s g) i v) (view s g)
      which (yes q) = rw (← q, eq-eqb f f refl) (own (ℕ_discrete f (code Rest)))
      which (no x) =
          rw (ne_eqb f g x)
          (ap₂ (pick (eqb g (code Rest))) (put_rest (end z) (layout z) ok in_order s f i v h room.fits)
          (put_other (end z) (layout z) ok in_order s f i v h room.fits g x))

-- a number was written to a field's cell
pub wrote : {z : Shape} {f : Field} {s t : List ℕ} {i v : ℕ} → Room z s → t ≡ put_le (span_of z f).width s (cell (span_of z f) i) v
    → i < (span_of z f).rows → v < 256 ^ (span_of z f).width → SetsField z s t f i v
unfolding cols over view put_cell
wrote {z} {f} {s} {t} {i} {v} room e h l = record { columns = rw e (fun_ext (λ g. view-put z s room (code f) i v h l (code g))) }

-- a field that has cells is not what stands behind the store
has_cells : (z : Shape) (f : Field) {i : ℕ} → i < (span_of z f).rows → code f ≡ code Rest → ⊥
has_cells z f {i} h q = not-suc-le-zero (subst (λ (x : ℕ). i < (get_or (layout z) x (end z)).rows) q h)

-- a number was read from a field's cell
pub was_read : {z : Shape} {f : Field} {s : List ℕ} {i r : ℕ} → r ≡ le (span_of z f).width s (cell (span_of z f) i) → i < (span_of z f).rows
    → GetsField z s f i r
unfolding cols
was_read {z} {f} {s} {i} e h =
    record { value = e ∙ sym (rw (ne_eqb (code f) (code Rest) (has_cells z f h)) (get_or-column (span_of z f) s i h)) }

-- ---- a store's columns

-- the rows of a field
pub length-cols : (z : Shape) (s : List ℕ) (f : Field) → Other f Rest → length (cols z s f) ≡ (span_of z f).rows
unfolding cols
length-cols z s f o = rw o (length-column (span_of z f) s)

-- bytes spell numbers of a field's width
pub cols-lt : (z : Shape) (s : List ℕ) (f : Field) → Other f Rest → Bytes s → (i : ℕ) → get_or (cols z s f) i 0 < 256 ^ (span_of z f).width
cols-lt z s f o b i = side (dec_lt i (span_of z f).rows)
  where
    side : Dec (i < (span_of z f).rows) → get_or (cols z s f) i 0 < 256 ^ (span_of z f).width
    side (yes h) =
        let e : GetsField z s f i (le (span_of z f).width s (cell (span_of z f) i)) = was_read refl h in
        rw (← e.value) (le-lt (span_of z f).width s (cell (span_of z f) i) b)
    side (no n) = rw (get_or-eq_default (cols z s f) 0 {n = i} (rw (length-cols z s f o) (omega arith))) (one-le-pow (span_of z f).width 256 (omega arith))

-- what stands behind the store
pub cols-rest : (z : Shape) (s : List ℕ) → cols z s Rest ≡ drop (used z) s
unfolding cols
cols-rest z s = refl

-- a store of the same length has room too
pub room-kept : {z : Shape} {s t : List ℕ} → Room z s → length t ≡ length s → Room z t
room-kept r e =
    record { some_room = r.some_room; some_buckets = r.some_buckets; few = r.few; few_buckets = r.few_buckets; fits = rw e r.fits }
