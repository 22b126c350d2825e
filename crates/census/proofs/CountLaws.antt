-- The numbers below n of which a test holds, as a list and counted.
-- Assumes nothing.
use mathlib.Core.Path.{◌≡◌, refl, ◌∙◌, ap}
use mathlib.Core.List.{List, [], ◌∷◌}
use mathlib.Core.Bool.{Bool, true, false, not}
use mathlib.Core.Logic.{inl, inr, ◌≢◌}
use Prim.Native.Nat.{ℕ, zero, suc, ◌+◌, ◌≤◌, ◌<◌}
use native.Mathlib.Omega.{arith}
use native.Mathlib.Decide.{ℕ_discrete}
use lib.ListN.{length, get_or}
use Rattle.cells.proofs.MembersLaws.{Nodup}
use mir.Syntax.{w32}
use mir.Val.{Fits}
use Rattle.std.specs.Int.{from_bool}
use Rattle.nodes.specs.Nodes.{Chain, Queue, Cols, cols, Room, GetsField}
use lib.Dec.{eqb}
use borrow.Author.Tests.{ne_eqb}
use Rattle.cells.specs.Decides.{Decides}
use Rattle.cells.proofs.DecidesLaws.{accept, refuse, decides_map}
use Rattle.nodes.specs.declared.Shape.{Shape}
use Rattle.key_index.specs.Links.{In}
use Rattle.census.specs.Check.{one_if, count_to, Counts, differ, given, lives, is_going_on}
use Rattle.key_index.proofs.DistinctLaws.{out_of}

abbrev keep : ℕ → ℕ → List ℕ → List ℕ
keep zero y l = l
keep (suc t) y l = y ∷ l

pub ones : (ℕ → ℕ) → ℕ → List ℕ
ones t zero = []
ones t (suc n) = keep (t n) n (ones t n)

module _ (t : ℕ → ℕ) where
  pub ones-length : (n : ℕ) → length (ones t n) ≡ count_to t n
  unfolding count_to ones
  ones-length zero = refl
  ones-length (suc n) = go (t n) (ones-length n)
    where
      go : (r : ℕ) → length (ones t n) ≡ count_to t n → length (keep r n (ones t n)) ≡ one_if r + count_to t n
      go zero e = omega (arith, e)
      go (suc r) e = omega (arith, e)

  pub ones-are : (n y : ℕ) → In y (ones t n) → (y < n) × (0 < t y)
  unfolding ones
  ones-are zero y i = elim i [ ]
  ones-are (suc n) y i = go (t n) refl (ones-are n y) i
    where
      go : (r : ℕ) → t n ≡ r → (In y (ones t n) → (y < n) × (0 < t y)) → In y (keep r n (ones t n)) → (y < suc n) × (0 < t y)
      go zero e f j = let u = f j in (omega (arith, u.0), u.1)
      go (suc r) e f (inl p) = (omega (arith, p), rw (p, e) (omega arith))
      go (suc r) e f (inr j) = let u = f j in (omega (arith, u.0), u.1)

  pub ones-have : (n y : ℕ) → y < n → 0 < t y → In y (ones t n)
  unfolding ones
  ones-have zero y h l = absurd (omega arith)
  ones-have (suc n) y h l = go (t n) refl (ℕ_discrete y n) (ones-have n y)
    where
      go : (r : ℕ) → t n ≡ r → Dec (y ≡ n) → (y < n → 0 < t y → In y (ones t n)) → In y (keep r n (ones t n))
      go zero e (yes p) f = absurd (omega (arith, l, ap t p, e))
      go zero e (no ne) f = f (omega arith) l
      go (suc r) e (yes p) f = inl p
      go (suc r) e (no ne) f = inr (f (omega arith) l)

  pub ones_nodup : (n : ℕ) → Nodup (ones t n)
  unfolding ones
  ones_nodup zero = tt
  ones_nodup (suc n) = go (t n) (ones_nodup n)
    where
      go : (r : ℕ) → Nodup (ones t n) → Nodup (keep r n (ones t n))
      go zero d = d
      go (suc r) d = (out_of n (ones t n) (λ i. omega (arith, (ones-are n n i).0)), d)

-- ---- one number

-- what an answer that decides whether t is above 0 adds to the count
weighs : (t : ℕ) (r : Bool) → Decides (0 < t) r → (from_bool r ≡ one_if t) × (from_bool r ≤ 1)
weighs zero false d = (refl, omega arith)
weighs zero true d = absurd (omega (arith, d.holds refl))
weighs (suc t) false d = absurd (d.fails refl (omega arith))
weighs (suc t) true d = (refl, omega arith)

-- the test of its tag decides whether a node is live
pub tag-lives : (z : Shape) (s : List ℕ) {x q : ℕ} → GetsField z s Queue x q → Decides (0 < lives (cols z s) x) (not (eqb q 0))
tag-lives z s {x} {q} tag = decides_map (λ l. omega (arith, l, tag.value)) (λ l. omega (arith, l, tag.value)) (above q)
  where
    above : (t : ℕ) → Decides (0 < t) (not (eqb t 0))
    above zero = refuse (λ l. omega arith)
    above (suc t) = rw (ne_eqb (suc t) 0 (λ e. omega (arith, e))) (accept (omega arith))

-- above 0 is where a node is live and its link is not the end
pub goes-on-is : (z : Shape) (c : Cols) (y : ℕ) → 0 < is_going_on z c y → (0 < get_or (c Queue) y 0) × (get_or (c Chain) y 0 ≢ z.room)
goes-on-is z c y h = go (get_or (c Queue) y 0) h
  where
    go : (a : ℕ) → 0 < given a (differ (get_or (c Chain) y 0) z.room) → (0 < a) × (get_or (c Chain) y 0 ≢ z.room)
    go zero k = absurd (omega arith)
    go (suc a) k = (omega arith, λ e. omega arith)

pub is-goes-on : (z : Shape) (c : Cols) (y : ℕ) → 0 < get_or (c Queue) y 0 → get_or (c Chain) y 0 ≢ z.room → 0 < is_going_on z c y
is-goes-on z c y l ne = go (get_or (c Queue) y 0) l
  where
    go : (a : ℕ) → 0 < a → 0 < given a (differ (get_or (c Chain) y 0) z.room)
    go zero k = absurd (omega arith)
    go (suc a) k = omega arith

-- ---- the loop: the numbers below x were counted

pub record CountedTo (t : ℕ → ℕ) (n x count : ℕ) : Type 0 where
  pub bound : x ≤ n
  pub few : count ≤ x
  pub number : count ≡ count_to t x

pub counted_start : {t : ℕ → ℕ} {n : ℕ} → CountedTo t n 0 0
unfolding count_to
counted_start = record { bound = omega arith; few = omega arith; number = refl }

pub counted_next : {t : ℕ → ℕ} {n x count w : ℕ} {r : Bool} → CountedTo t n x count → x < n → Decides (0 < t x) r → w ≡ from_bool r
    → CountedTo t n (x + 1) (count + w)
unfolding count_to
counted_next {t} {n} {x} {count} {w} {r} c h d e = record {
  bound = omega arith;
  few = omega (arith, c.few, e, (weighs (t x) r d).1);
  number = omega (arith, c.number, e, (weighs (t x) r d).0, ap (count_to t) (more x));
}
  where
    more : (m : ℕ) → m + 1 ≡ suc m
    more m = omega arith

-- a count of heads fits four bytes
pub counted-fits : (z : Shape) (s : List ℕ) {t : ℕ → ℕ} {x count w : ℕ} {r : Bool} → Room z s → CountedTo t z.buckets x count → x < z.buckets
    → Decides (0 < t x) r → w ≡ from_bool r → Fits w32 (count + w)
counted-fits z s {t} {x} {count} {w} {r} room c h d e = omega (arith, room.few_buckets, c.few, e, (weighs (t x) r d).1)

pub counted-end : {t : ℕ → ℕ} {n x count : ℕ} → CountedTo t n x count → n ≤ x → Counts t n count
counted-end {t} {n} {x} r h = record { number = r.number ∙ ap (count_to t) (omega (arith, r.bound, h)) }

one-small : (a : ℕ) → one_if a ≤ 1
one-small zero = omega arith
one-small (suc a) = omega arith

count-few : (t : ℕ → ℕ) (m : ℕ) → count_to t m ≤ m
unfolding count_to
count-few t zero = omega arith
count-few t (suc m) = omega (arith, count-few t m, one-small (t m))

pub counts-few : {t : ℕ → ℕ} {n count : ℕ} → Counts t n count → count ≤ n
counts-few {t} {n} r = rw r.number (count-few t n)
