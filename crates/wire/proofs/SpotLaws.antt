-- The laws of a record at an offset: its mark, its row in the table, what each test says of the spot, and the request that is read.
-- Assumes nothing.
use Prim.Native.Nat.{ℕ, ◌+◌, ◌-◌, ◌^◌, ◌≤◌, ◌<◌}
use native.Mathlib.Omega.{arith}
use mathlib.Core.Path.{◌≡◌, refl, sym, ap, ap₂, ◌∙◌}
use mathlib.Core.Bool.{Bool, true, false}
use mathlib.Core.List.{List}
use Rattle.std.specs.Prelude.{Option, Some, None, Result, Ok, Err}
use lib.ListN.{length, get_or, drop}
use mir.Syntax.{w64}
use mir.Val.{Fits}
use borrow.Author.Tests.{le-leb, lt-leb, le-ltb, lt-ltb}
use Rattle.rules.specs.declared.Row.{Row}
use Rattle.rules.specs.declared.Kind.TheVariants.{Get}
use Rattle.rules.specs.Records.{Request}
use Rattle.rules.specs.Bytes.{row, table, marks, find, Spot, at, unknown, cut, over, spot_at, made, Reading, ask, reading, reading_at}
use Rattle.rules.proofs.TableLaws.{find-hit, find-miss, find-over, find_known, row-kind}
use Rattle.rules.proofs.ParseLaws.{spot_lies}
use Rattle.wire.specs.declared.Stop.{Stop}
use Rattle.wire.specs.declared.Stop.TheVariants.{Whole, Unknown, Cut}
use Rattle.wire.specs.Wire.{spotted, meaning, Marked, Meets, Spots}

-- ---- a mark, and the search along the table

-- the row of the mark at an offset, in a part of the table
abbrev seek : List ℕ → ℕ → List Row → Option Row
seek s i rows = find (get_or s i 0) (get_or s (i + 1) 0) rows

-- i rows were passed: what is sought is in what is left of the table
pub record Seeking (s : List ℕ) (at i : ℕ) : Type 0 where
  pub on : seek s at table ≡ seek s at (drop i table)

module _ {s : List ℕ} {at i : ℕ} (g : Seeking s at i) where
  pub seek-over : length table ≤ i → Meets s at None
  seek-over h = record { is = sym (g.on ∙ find-over (get_or s at 0) (get_or s (at + 1) 0) table i h) }

  module _ (h : i < length table) {r : Row} (e : r ≡ get_or table i (row Get)) {b : Bool} (m : Marked s at r.mark b) where
    tells : (t : Bool) → b ≡ t → marks (get_or s at 0) (get_or s (at + 1) 0) (get_or table i (row Get)).mark ≡ t
    tells t is = ap (λ x. marks (get_or s at 0) (get_or s (at + 1) 0) x.mark) (sym e) ∙ sym m.is ∙ is

    pub seek_found : b ≡ true → Meets s at (Some r)
    seek_found y =
        let hit : seek s at (drop i table) ≡ Some r =
        find-hit (get_or s at 0) (get_or s (at + 1) 0) table i (row Get) h (tells true y) ∙ ap (λ (x : Row). Some x) (sym e) in
        record { is = sym (g.on ∙ hit) }

    pub seek-next : b ≡ false → Seeking s at (i + 1)
    seek-next n = record { on = g.on ∙ find-miss (get_or s at 0) (get_or s (at + 1) 0) table i (row Get) h (tells false n) }

-- ---- the tests of what stands at an offset

module _ {s : List ℕ} {i : ℕ} where
  pub spot_end : length s ≤ i → Spots s i (Err Whole)
  unfolding spot_at
  spot_end h = record { is = rw (le-leb (length s) i h) }

  module _ (h : i < length s) where
    pub spot_short : length s - i < 2 → Spots s i (Err Cut)
    unfolding spot_at
    spot_short g = record { is = rw (lt-leb (length s) i h, lt-ltb (length s - i) 2 g) }

    module _ (g : 2 ≤ length s - i) {found : Option Row} (f : Meets s i found) where
      pub spot_unknown : found ≡ None → Spots s i (Err Unknown)
      unfolding spot_at
      spot_unknown e =
          record { is = rw (lt-leb (length s) i h, le-ltb (length s - i) 2 g, sym f.is ∙ e) }

      module _ {e : Row} (is : found ≡ Some e) where
        met : seek s i table ≡ Some e
        met = sym f.is ∙ is

        pub spot_cut : length s - i < e.bytes → Spots s i (Err Cut)
        unfolding spot_at
        spot_cut l = record { is = rw (lt-leb (length s) i h, le-ltb (length s - i) 2 g, met, lt-ltb (length s - i) e.bytes l) }

        pub spot_found : e.bytes ≤ length s - i → Spots s i (Ok e)
        unfolding spot_at
        spot_found l =
            let own : e ≡ row e.kind = find_known (get_or s i 0) (get_or s (i + 1) 0) e met in
            record { is = rw (lt-leb (length s) i h, le-ltb (length s - i) 2 g, met, le-ltb (length s - i) e.bytes l) (ap Ok own) }

-- ---- what is read

-- the spot that the code's stands for
abbrev unspotted : Result Row Stop → Spot
unspotted (Ok e) = at e.kind
unspotted (Err Unknown) = unknown
unspotted (Err Cut) = cut
unspotted (Err Whole) = over

spot_back : (p : Spot) → unspotted (spotted p) ≡ p
spot_back (at k) = ap at (row-kind k)
spot_back unknown = refl
spot_back cut = refl
spot_back over = refl

module _ {s : List ℕ} {i : ℕ} {p : Result Row Stop} (f : Spots s i p) where
  pub spot_is : (q : Result Row Stop) → p ≡ q → spot_at s i ≡ unspotted q
  spot_is q is = sym (spot_back (spot_at s i)) ∙ ap unspotted (sym f.is ∙ is)

  pub reads : {q : Result Row Stop} → p ≡ q → {r : Reading Request} → r ≡ reading s i (unspotted q) → r ≡ reading_at s i
  unfolding reading_at
  reads {q} is h = h ∙ ap (reading s i) (sym (spot_is q is))

  -- no request is read
  pub reads-none : {t : Stop} → p ≡ Err t → meaning (Err t) ≡ reading_at s i
  reads-none {t = Unknown} is = reads is refl
  reads-none {t = Cut} is = reads is refl
  reads-none {t = Whole} is = reads is refl

  module _ {e : Row} (is : p ≡ Ok e) where
    pub row_is : e ≡ row e.kind
    row_is = let h : ◌≡◌ {A = Result Row Stop} (Ok e) (Ok (row e.kind)) = sym is ∙ f.is ∙ ap spotted (spot_is (Ok e) is) in cc

    pub kind-inside : i + (row e.kind).bytes ≤ length s
    kind-inside = rw (spot_is (Ok e) is) at (spot_lies s i)

    pub spot_inside : i + e.bytes ≤ length s
    spot_inside = omega (arith, kind-inside, ap (λ x. x.bytes) row_is)

    pub spot_fits : length s < 2 ^ 64 → Fits w64 (i + e.bytes)
    spot_fits h = omega (arith, spot_inside)

    pub read-request : {q : Request} → q ≡ made s i e.kind → ask q (i + e.bytes) ≡ reading_at s i
    read-request h = reads is (ap₂ (λ (x : Request) (y : ℕ). ask x y) h (ap (λ x. i + x.bytes) row_is))
