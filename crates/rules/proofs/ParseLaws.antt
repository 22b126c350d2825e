-- The laws of reading: a record that is known lies within the bytes, each reading goes forward, and one more record is one more turn of the parser.
-- Assumes nothing.
use Prim.Native.Nat.{ℕ, zero, suc, ◌+◌, ◌-◌, ◌≤◌, ◌<◌}
use native.Mathlib.Omega.{arith}
use native.Mathlib.Nat.{add_assoc}
use borrow.Author.Tests.{le-leb, lt-leb, leb-true, leb-false, ltb-false}
use mathlib.Core.Path.{◌≡◌, refl, ap}
use mathlib.Core.Bool.{Bool, true, false, cond}
use mathlib.Core.List.{List, [], ◌∷◌}
use Rattle.std.specs.Prelude.{Option, Some, None}
use lib.Dec.{leb, ltb}
use lib.ListN.{length, get_or, drop, length-drop}
use lib.Seq.{get_or-drop}
use Rattle.cells.specs.Cells.{le, Bytes}
use Rattle.cells.proofs.Laws.{le-lt}
use Rattle.rules.specs.declared.Kind.{Kind}
use Rattle.rules.specs.declared.Kind.TheVariants.{Get, Peek, Remove, Insert, Evict, Clear}
use Rattle.rules.specs.declared.Row.{Row}
use Rattle.rules.specs.Records.{Request, Narrow, AllNarrow}
use Rattle.rules.specs.Bytes.{row, table, find, Spot, at, unknown, cut, over, within, spot_at, made, Reading, ask, strange, short, end, reading, reading_at}
use Rattle.rules.specs.Bytes.{with, on_reading, walk, parse_from, parse}
use Rattle.rules.proofs.TableLaws.{find_known, row-bytes}

-- ---- what a spot says of the bytes: all those of a known record are there, and where nothing more is read there are none left

abbrev pub Lies : List ℕ → ℕ → Spot → Type 0
Lies s i (at k) = i + (row k).bytes ≤ length s
Lies s i unknown = Unit {0}
Lies s i cut = Unit {0}
Lies s i over = length s ≤ i

module _ (s : List ℕ) (i : ℕ) where
  lies-row : (r : Row) → find (get_or s i 0) (get_or s (i + 1) 0) table ≡ Some r → (t : Bool) → ltb (length s - i) r.bytes ≡ t → 2 ≤ length s - i
      → Lies s i (cond t cut (at r.kind))
  lies-row r f true e h = tt
  lies-row r f false e h =
      omega (arith, ltb-false (length s - i) r.bytes e, ap (λ x. x.bytes) (find_known (get_or s i 0) (get_or s (i + 1) 0) r f))

  lies : (a b : Bool) (f : Option Row) → leb (length s) i ≡ a → ltb (length s - i) 2 ≡ b → find (get_or s i 0) (get_or s (i + 1) 0) table ≡ f
      → Lies s i (cond a over (cond b cut (within (length s - i) f)))
  lies true b f o c e = leb-true (length s) i o
  lies false true f o c e = tt
  lies false false None o c e = tt
  lies false false (Some r) o c e = lies-row r e (ltb (length s - i) r.bytes) refl (ltb-false (length s - i) 2 c)

  pub spot_lies : Lies s i (spot_at s i)
  unfolding spot_at
  spot_lies = lies (leb (length s) i) (ltb (length s - i) 2) (find (get_or s i 0) (get_or s (i + 1) 0) table) refl refl refl

  goes : (p : Spot) → Lies s i p → (q : Request) (after : ℕ) → reading s i p ≡ ask q after → (i < after) × (after ≤ length s)
  goes (at k) l q after r = let h : i + (row k).bytes ≡ after = cc in omega (arith, row-bytes k)
  goes unknown l q after r = let z : ◌≡◌ {A = ℕ} 0 1 = cc in absurd (omega arith)
  goes cut l q after r = let z : ◌≡◌ {A = ℕ} 0 1 = cc in absurd (omega arith)
  goes over l q after r = let z : ◌≡◌ {A = ℕ} 0 1 = cc in absurd (omega arith)

-- a request that was read lies within the bytes, and the next offset is further
pub read_goes : (s : List ℕ) (i : ℕ) (q : Request) (after : ℕ) → reading_at s i ≡ ask q after → (i < after) × (after ≤ length s)
unfolding reading_at
read_goes s i q after e = goes s i (spot_at s i) (spot_lies s i) q after e

pub read-end : (s : List ℕ) (i : ℕ) → length s ≤ i → reading_at s i ≡ end
unfolding reading_at spot_at
read-end s i h = rw (le-leb (length s) i h)

-- ---- one record more is one turn more, for any reader of one record that goes forward

-- what it reads ends further on, within n bytes; and behind these there is nothing more
pub record Forward {A : Type 0} (read : ℕ → Reading A) (n : ℕ) : Type 0 where
  pub goes : (i : ℕ) (q : A) (after : ℕ) → read i ≡ ask q after → (i < after) × (after ≤ n)
  pub stops : (i : ℕ) → n ≤ i → read i ≡ end

module _ {A : Type 0} {read : ℕ → Reading A} {size : ℕ} (f : Forward read size) where
  enough-step : (n m i : ℕ) → ((after : ℕ) → i < after → walk read n after ≡ walk read m after)
      → (r : Reading A) → read i ≡ r → on_reading (walk read n) i r ≡ on_reading (walk read m) i r
  enough-step n m i ih (ask q after) e = ap (with q) (ih after (f.goes i q after e).0)
  enough-step n m i ih strange e = refl
  enough-step n m i ih short e = refl
  enough-step n m i ih end e = refl

  -- where there are as many turns as bytes left, more change nothing
  enough : (n m i : ℕ) → size ≤ i + n → size ≤ i + m → walk read n i ≡ walk read m i
  unfolding walk
  enough zero zero i h g = refl
  enough zero (suc m) i h g = rw (f.stops i (omega arith))
  enough (suc n) zero i h g = rw (f.stops i (omega arith))
  enough (suc n) (suc m) i h g = enough-step n m i (λ after l. enough n m after (omega arith) (omega arith)) (read i) refl

  pub walk_step : (i : ℕ) → walk read size i ≡ on_reading (walk read size) i (read i)
  unfolding walk
  walk_step i = enough size (suc size) i (omega arith) (omega arith)

-- what holds of each record that is read holds of all of them: All is P of each of a list
module _ {A : Type 0} {read : ℕ → Reading A} (P : A → Type 0) (All : List A → Type 0) (none : All [])
    (one_more : (q : A) (l : List A) → P q → All l → All (q ∷ l)) (each : (i : ℕ) (q : A) (after : ℕ) → read i ≡ ask q after → P q) where
  all-step : (n i : ℕ) → ((after : ℕ) → All (walk read n after).requests) → (r : Reading A) → read i ≡ r
      → All (on_reading (walk read n) i r).requests
  all-step n i ih (ask q after) e = one_more q (walk read n after).requests (each i q after e) (ih after)
  all-step n i ih strange e = none
  all-step n i ih short e = none
  all-step n i ih end e = none

  pub walk-all : (n i : ℕ) → All (walk read n i).requests
  unfolding walk
  walk-all zero i = none
  walk-all (suc n) i = all-step n i (walk-all n) (read i) refl

pub read_forward : (s : List ℕ) → Forward (reading_at s) (length s)
read_forward s = record { goes = read_goes s; stops = read-end s }

pub parse-step : (s : List ℕ) (i : ℕ) → parse_from s i ≡ on_reading (parse_from s) i (reading_at s i)
unfolding parse_from
parse-step s i = walk_step (read_forward s) i

-- ---- bytes give numbers of 64 bits

made-sized : (s : List ℕ) (i : ℕ) (k : Kind) → Bytes s → Narrow (made s i k)
made-sized s i Get h = le-lt 8 s (i + 2) h
made-sized s i Peek h = le-lt 8 s (i + 2) h
made-sized s i Remove h = le-lt 8 s (i + 2) h
made-sized s i Insert h = (le-lt 8 s (i + 2) h, le-lt 8 s (i + 10) h)
made-sized s i Evict h = tt
made-sized s i Clear h = tt

reading-sized : (s : List ℕ) (i : ℕ) (p : Spot) → Bytes s → (q : Request) (after : ℕ) → reading s i p ≡ ask q after → Narrow q
reading-sized s i (at k) h q after e = let m : made s i k ≡ q = cc in rw m at (made-sized s i k h)
reading-sized s i unknown h q after e = let z : ◌≡◌ {A = ℕ} 0 1 = cc in absurd (omega arith)
reading-sized s i cut h q after e = let z : ◌≡◌ {A = ℕ} 0 1 = cc in absurd (omega arith)
reading-sized s i over h q after e = let z : ◌≡◌ {A = ℕ} 0 1 = cc in absurd (omega arith)

read-sized : (s : List ℕ) → Bytes s → (i : ℕ) (q : Request) (after : ℕ) → reading_at s i ≡ ask q after → Narrow q
unfolding reading_at
read-sized s h i q after e = reading-sized s i (spot_at s i) h q after e

pub parse-sized-from : (s : List ℕ) (i : ℕ) → Bytes s → AllNarrow (parse_from s i).requests
unfolding parse_from
parse-sized-from s i h = walk-all Narrow AllNarrow tt (λ q l n m. (n, m)) (read-sized s h) (length s) i

pub parse-sized : (s : List ℕ) → Bytes s → AllNarrow (parse s).requests
unfolding parse
parse-sized s h = parse-sized-from s 0 h

-- ---- reading from a part that starts in the middle is reading further on in the whole

pub le-drop : (w n : ℕ) (s : List ℕ) (i : ℕ) → le w (drop n s) i ≡ le w s (n + i)
unfolding le
le-drop zero n s i = refl
le-drop (suc w) n s i = rw (get_or-drop n s i 0, le-drop w n s (i + 1), add_assoc n i 1)

leb_drop : (l n i : ℕ) (b : Bool) → leb l (n + i) ≡ b → leb (l - n) i ≡ b
leb_drop l n i true e = le-leb (l - n) i (omega (arith, leb-true l (n + i) e))
leb_drop l n i false e = lt-leb (l - n) i (omega (arith, leb-false l (n + i) e))

pub spot_drop : (n : ℕ) (s : List ℕ) (i : ℕ) → spot_at (drop n s) i ≡ spot_at s (n + i)
unfolding spot_at
spot_drop n s i =
    let e : length s - n - i ≡ length s - (n + i) = omega arith in
    rw (length-drop n s, leb_drop (length s) n i (leb (length s) (n + i)) refl, e, get_or-drop n s i 0, get_or-drop n s (i + 1) 0, add_assoc n i 1)

pub made-drop : (n : ℕ) (s : List ℕ) (i : ℕ) (k : Kind) → made (drop n s) i k ≡ made s (n + i) k
made-drop n s i Get = rw (le-drop 8 n s (i + 2), add_assoc n i 2)
made-drop n s i Peek = rw (le-drop 8 n s (i + 2), add_assoc n i 2)
made-drop n s i Remove = rw (le-drop 8 n s (i + 2), add_assoc n i 2)
made-drop n s i Insert = rw (le-drop 8 n s (i + 2), le-drop 8 n s (i + 10), add_assoc n i 2, add_assoc n i 10)
made-drop n s i Evict = refl
made-drop n s i Clear = refl
