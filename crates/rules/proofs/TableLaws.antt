-- The laws of the table: a row is found by its mark, and what was found is its kind's row.
-- Assumes nothing.
use Prim.Native.Nat.{ℕ, zero, suc, ◌+◌, ◌*◌, ◌≤◌, ◌<◌}
use native.Mathlib.Omega.{arith}
use native.Mathlib.Numerals.{add-one}
use mathlib.Core.Path.{◌≡◌, refl, sym, ap, ◌∙◌}
use mathlib.Core.Bool.{Bool, true, false, cond}
use mathlib.Core.List.{List, [], ◌∷◌, map}
use Rattle.std.specs.Prelude.{Option, Some, None}
use lib.ListN.{length, get_or, drop, drop_of_length-le}
use lib.Seq.{drop-cons}
use Rattle.rules.specs.declared.Row.{Row}
use Rattle.rules.specs.declared.Kind.{Kind}
use Rattle.rules.specs.declared.Kind.TheVariants.{Get, Peek, Remove, Insert, Evict, Clear}
use Rattle.rules.specs.Bytes.{row, kinds, table, marks, find, made, room_to_byte, room_of}

-- inside the list the default is never read
pub get_d_any : {A : Type 0} (l : List A) (i : ℕ) (d e : A) → i < length l → get_or l i d ≡ get_or l i e
get_d_any [] i d e h = absurd (omega arith)
get_d_any (x ∷ l) zero d e h = refl
get_d_any (x ∷ l) (suc i) d e h = get_d_any l i d e (omega arith)

-- ---- a search along the rows

module _ (a b : ℕ) (l : List Row) (i : ℕ) (d : Row) (h : i < length l) where
  pub find-hit : marks a b (get_or l i d).mark ≡ true → find a b (drop i l) ≡ Some (get_or l i d)
  unfolding find
  find-hit e = rw (drop-cons l i d, e)

  pub find-miss : marks a b (get_or l i d).mark ≡ false → find a b (drop i l) ≡ find a b (drop (i + 1) l)
  unfolding find
  find-miss e = rw (add-one i, drop-cons l i d, e)

pub find-over : (a b : ℕ) (l : List Row) (i : ℕ) → length l ≤ i → find a b (drop i l) ≡ None
unfolding find
find-over a b l i h = rw (drop_of_length-le l h)

-- ---- what a row says

pub row-kind : (k : Kind) → (row k).kind ≡ k
row-kind Get = refl
row-kind Peek = refl
row-kind Remove = refl
row-kind Insert = refl
row-kind Evict = refl
row-kind Clear = refl

-- a record has its mark at least; a request of 2 bytes may be answered by 36
pub row-bytes : (k : Kind) → (2 ≤ (row k).bytes) × ((row k).room ≤ room_to_byte * (row k).bytes)
row-bytes Get = omega arith
row-bytes Peek = omega arith
row-bytes Remove = omega arith
row-bytes Insert = omega arith
row-bytes Evict = omega arith
row-bytes Clear = omega arith

-- the room of a request is its row's
pub room-made : (s : List ℕ) (i : ℕ) (k : Kind) → room_of (made s i k) ≡ (row k).room
room-made s i Get = refl
room-made s i Peek = refl
room-made s i Remove = refl
room-made s i Insert = refl
room-made s i Evict = refl
room-made s i Clear = refl

pick_known : (t : Bool) (k : Kind) (f : Option Row) (r : Row) → (f ≡ Some r → r ≡ row r.kind) → cond t (Some (row k)) f ≡ Some r → r ≡ row r.kind
pick_known true k f r ih h =
    let q : row k ≡ r = cc in
    sym q ∙ ap row (sym (row-kind k) ∙ ap (λ x. x.kind) q)
pick_known false k f r ih h = ih h

known_in : (a b : ℕ) (ks : List Kind) (r : Row) → find a b (map row ks) ≡ Some r → r ≡ row r.kind
unfolding find
known_in a b [] r h = let z : ◌≡◌ {A = ℕ} 0 1 = cc in absurd (omega arith)
known_in a b (k ∷ ks) r h = pick_known (marks a b (row k).mark) k (find a b (map row ks)) r (known_in a b ks r) h

-- what was found is its kind's row
pub find_known : (a b : ℕ) (r : Row) → find a b table ≡ Some r → r ≡ row r.kind
unfolding table
find_known a b r h = known_in a b kinds r h
