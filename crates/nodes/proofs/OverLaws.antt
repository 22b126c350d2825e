-- The laws of columns with a cell or a whole field changed. They hold for any columns, whatever store they are of.
-- Assumes nothing.
use mathlib.Core.Path.{◌≡◌, refl, sym, ap, ◌∙◌, fun_ext}
use mathlib.Core.Bool.{Bool, true, false}
use mathlib.Core.List.{List, [], ◌∷◌}
use Prim.Native.Nat.{ℕ}
use native.Mathlib.Decide.{ℕ_discrete}
use lib.Dec.{eqb}
use lib.ListN.{get_or, set}
use borrow.Author.Tests.{ne_eqb, eq-eqb}
use Rattle.cells.specs.Columns.{pick}
use Rattle.nodes.specs.Nodes.{Field, Head, Key, Value, Next, Prev, Chain, Queue, Freq, Bucket, Rest, code, Cols, over, with_column}

-- g is another field than f; `refl` where both are named
abbrev pub Other : Field → Field → Type 0
Other f g = eqb (code f) (code g) ≡ false

-- ---- fields

fields : List Field
fields = Head ∷ Key ∷ Value ∷ Next ∷ Prev ∷ Chain ∷ Queue ∷ Freq ∷ Bucket ∷ Rest ∷ []

named : (f : Field) → get_or fields (code f) Rest ≡ f
unfolding fields
named Head = refl
named Key = refl
named Value = refl
named Next = refl
named Prev = refl
named Chain = refl
named Queue = refl
named Freq = refl
named Bucket = refl
named Rest = refl

-- a field is known by its row
pub code_inj : (f g : Field) → code f ≡ code g → f ≡ g
code_inj f g q = sym (named f) ∙ ap (λ (n : ℕ). get_or fields n Rest) q ∙ named g

-- ---- what a field is after a change; where both fields are named, both sides compute

pub over-at : (c : Cols) (f : Field) (i v : ℕ) (g : Field) → over c f i v g ≡ pick (eqb (code f) (code g)) (set (c g) i v) (c g)
unfolding over
over-at c f i v g = refl

pub over-other : (c : Cols) (f : Field) (i v : ℕ) (g : Field) → Other f g → over c f i v g ≡ c g
unfolding over
over-other c f i v g o = rw o

pub with-other : (c : Cols) (f : Field) (l : List ℕ) (g : Field) → Other f g → with_column c f l g ≡ c g
unfolding with_column
with-other c f l g o = rw o

-- ---- changes of one field: the last one counts

-- a field's own list put in its place
pub with-same : (c : Cols) (f : Field) → with_column c f (c f) ≡ c
unfolding with_column
with-same c f = fun_ext (λ g. side g (ℕ_discrete (code f) (code g)))
  where
    side : (g : Field) → Dec (code f ≡ code g) → pick (eqb (code f) (code g)) (c f) (c g) ≡ c g
    side g (yes q) = rw (eq-eqb (code f) (code g) q, code_inj f g q)
    side g (no n) = rw (ne_eqb (code f) (code g) n)

pub over_in : (c : Cols) (f : Field) (l : List ℕ) (i v : ℕ) → over (with_column c f l) f i v ≡ with_column c f (set l i v)
unfolding over with_column
over_in c f l i v = fun_ext (λ g. side (eqb (code f) (code g)) (c g))
  where
    side : (b : Bool) (x : List ℕ) → pick b (set (pick b l x) i v) (pick b l x) ≡ pick b (set l i v) x
    side true x = refl
    side false x = refl

-- a cell changed is its field changed
pub over-with : (c : Cols) (f : Field) (i v : ℕ) → over c f i v ≡ with_column c f (set (c f) i v)
over-with c f i v = ap (λ (d : Cols). over d f i v) (sym (with-same c f)) ∙ over_in c f (c f) i v
