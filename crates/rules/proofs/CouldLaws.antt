-- Which carried records pass the test of refusal 17, part by part: what is kept waits for more, or nothing is.
-- Assumes nothing.
use Prim.Native.Nat.{ℕ, ◌+◌, ◌-◌, ◌%◌, ◌≤◌, ◌<◌}
use native.Mathlib.Omega.{arith}
use borrow.Author.Tests.{le-leb, leb-true, ltb-true, eqb-true, eq-eqb}
use mathlib.Core.Path.{◌≡◌, refl, ap, ◌∙◌}
use mathlib.Core.Bool.{Bool, true, false, cond, ◌&&◌}
use mathlib.Core.List.{List, [], ◌∷◌}
use Rattle.std.specs.Prelude.{Option, Some, None}
use lib.Dec.{leb, ltb}
use lib.ListN.{length, get_or}
use Rattle.rules.specs.declared.Kind.{Kind}
use Rattle.rules.specs.declared.Kind.TheVariants.{Get, Peek, Remove, Insert, Evict, Clear}
use Rattle.rules.specs.declared.Row.{Row}
use Rattle.rules.specs.Parts.{null}
use Rattle.rules.specs.Bytes.{longest_record, row, table, find, Spot, at, unknown, cut, over, within, spot_at, reading, reading_at}
use Rattle.rules.specs.Bytes.{cut_at, on_reading, parse_from, parse}
use Rattle.rules.specs.Carry.{Carry, most_kept, last_offset, waits, even, could_stop, could_wait, could_leave}
use Rattle.rules.proofs.TableLaws.{find_known}
use Rattle.rules.proofs.ParseLaws.{parse-step}
use Rattle.rules.proofs.FeedLaws.{end-end}

-- ---- both of two tests

pub and_both : (s t : Bool) → (s && t) ≡ true → (s ≡ true) × (t ≡ true)
and_both true true h = (refl, refl)
and_both true false h = let z : ◌≡◌ {A = ℕ} 0 1 = cc in absurd (omega arith)
and_both false t h = let z : ◌≡◌ {A = ℕ} 0 1 = cc in absurd (omega arith)

pub and-true : (a b : Bool) → a ≡ true → b ≡ true → (a && b) ≡ true
and-true a b e f = rw (e, f)

-- ---- what waits for more

-- a record has an even number of bytes
pub even-row : (k : Kind) → ((row k).bytes % 2 ≡ 0) × ((row k).bytes ≤ longest_record)
even-row Get = (refl, omega arith)
even-row Peek = (refl, omega arith)
even-row Remove = (refl, omega arith)
even-row Insert = (refl, omega arith)
even-row Evict = (refl, omega arith)
even-row Clear = (refl, omega arith)

-- a record that waits is shorter than the longest
pub cut_short : (s : List ℕ) → spot_at s 0 ≡ cut → length s < longest_record
unfolding spot_at
cut_short s e = pick (leb (length s) 0) refl (ltb (length s - 0) 2) refl (find (get_or s 0 0) (get_or s 1 0) table) refl e
  where
    pick : (t : Bool) → leb (length s) 0 ≡ t → (u : Bool) → ltb (length s - 0) 2 ≡ u → (f : Option Row) → find (get_or s 0 0) (get_or s 1 0) table ≡ f
        → cond t over (cond u cut (within (length s - 0) f)) ≡ cut → length s < longest_record
    pick true g u h f k e = omega (arith, leb-true (length s) 0 g)
    pick false g true h f k e = omega (arith, ltb-true (length s - 0) 2 h)
    pick false g false h None k e = let z : ◌≡◌ {A = ℕ} 0 1 = cc in absurd (omega arith)
    pick false g false h (Some r) k e = inner (ltb (length s - 0) r.bytes) refl e
      where
        inner : (v : Bool) → ltb (length s - 0) r.bytes ≡ v → cond v cut (at r.kind) ≡ cut → length s < longest_record
        inner true m e =
            omega (arith, ltb-true (length s - 0) r.bytes m, ap (λ (x : Row). x.bytes) (find_known (get_or s 0 0) (get_or s 1 0) r k), even-row r.kind)
        inner false m e = let z : ◌≡◌ {A = ℕ} 0 1 = cc in absurd (omega arith)

pub cut-parse : (s : List ℕ) → spot_at s 0 ≡ cut → parse s ≡ record { requests = []; end = cut_at 0 }
unfolding parse reading_at
cut-parse s e = parse-step s 0 ∙ ap (on_reading (parse_from s) 0) (ap (reading s 0) e)

pub nothing-kept : (l : List ℕ) → null l ≡ true → l ≡ []
nothing-kept [] h = refl
nothing-kept (x ∷ l) h = let z : ◌≡◌ {A = ℕ} 0 1 = cc in absurd (omega arith)

pub over-nil : (s : List ℕ) → spot_at s 0 ≡ over → s ≡ []
unfolding reading_at
over-nil [] e = refl
over-nil (x ∷ s) e = let g = end-end (x ∷ s) 0 (ap (reading (x ∷ s) 0) e) in absurd (omega arith)

-- ---- a record that a feed could have left

-- what waits is shorter than the longest record
pub waits-few : (s : List ℕ) → waits (spot_at s 0) ≡ true → length s ≤ most_kept
waits-few s w = go (spot_at s 0) refl w
  where
    go : (p : Spot) → spot_at s 0 ≡ p → waits p ≡ true → length s ≤ most_kept
    go (at k) e w = let z : ◌≡◌ {A = ℕ} 0 1 = cc in absurd (omega arith)
    go unknown e w = let z : ◌≡◌ {A = ℕ} 0 1 = cc in absurd (omega arith)
    go cut e w = omega (arith, cut_short s e)
    go over e w = omega (arith, ap length (over-nil s e))

-- its two tests
could-parts : (c : Carry) → could_leave c ≡ true → (even c.offset ≡ true) × (cond c.stopped (could_stop c) (could_wait c) ≡ true)
unfolding could_leave
could-parts c h = and_both (even c.offset) (cond c.stopped (could_stop c) (could_wait c)) h

module _ (c : Carry) (h : could_leave c ≡ true) where
  -- its offset is even
  pub could-even : c.offset % 2 ≡ 0
  could-even = eqb-true (c.offset % 2) 0 (could-parts c h).0

  -- of a stream that has stopped: nothing is kept, and both bytes of the mark have come
  pub could-stop : c.stopped ≡ true → (c.kept ≡ []) × (c.offset + 2 ≤ last_offset)
  could-stop e =
      let p : could_stop c ≡ true = rw e at (could-parts c h).1 in
      let q = and_both (null c.kept) (leb (c.offset + 2) last_offset) p in
      (nothing-kept c.kept q.0, leb-true (c.offset + 2) last_offset q.1)

  -- of one that goes on: what is kept waits
  pub could-wait : c.stopped ≡ false → (waits (spot_at c.kept 0) ≡ true) × (c.offset + length c.kept ≤ last_offset)
  could-wait e =
      let p : could_wait c ≡ true = rw e at (could-parts c h).1 in
      let q = and_both (waits (spot_at c.kept 0)) (leb (c.offset + length c.kept) last_offset) p in
      (q.0, leb-true (c.offset + length c.kept) last_offset q.1)

  -- of both: few bytes are kept, and the offset is one
  pub could-few : (length c.kept ≤ most_kept) × (c.offset ≤ last_offset)
  could-few = go c.stopped refl
    where
      go : (t : Bool) → c.stopped ≡ t → (length c.kept ≤ most_kept) × (c.offset ≤ last_offset)
      go true e = let q = could-stop e in omega (arith, ap length q.0, q.1)
      go false e = let q = could-wait e in omega (arith, waits-few c.kept q.0, q.1)

-- and the other way round
pub stop-could : (o : ℕ) → o % 2 ≡ 0 → o + 2 ≤ last_offset → could_leave (record { offset = o; kept = []; stopped = true }) ≡ true
unfolding could_leave
stop-could o e h = and-true (even o) (leb (o + 2) last_offset) (eq-eqb (o % 2) 0 e) (le-leb (o + 2) last_offset h)

pub wait-could : (o : ℕ) (k : List ℕ) → o % 2 ≡ 0 → waits (spot_at k 0) ≡ true → o + length k ≤ last_offset
    → could_leave (record { offset = o; kept = k; stopped = false }) ≡ true
unfolding could_leave
wait-could o k e w h =
    and-true (even o) (waits (spot_at k 0) && leb (o + length k) last_offset) (eq-eqb (o % 2) 0 e)
    (and-true (waits (spot_at k 0)) (leb (o + length k) last_offset) w (le-leb (o + length k) last_offset h))
