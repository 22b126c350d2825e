-- Accepted limits are as a sound state has them (RULES 1.2), and the capacity is the one that was asked for.
-- Assumes nothing.
use mathlib.Core.Path.{◌≡◌, refl, sym}
use mathlib.Core.Bool.{Bool, true, false, ◌||◌, cond, true≢false}
use Prim.Native.Nat.{ℕ, ◌^◌, ◌≤◌}
use native.Mathlib.Omega.{arith}
use lib.Dec.{ltb, eqb}
use lib.Ieee.{Float, lt}
use borrow.Author.Tests.{ltb-false, eqb-false}
use Rattle.rules.specs.State.{Limits, Fine, most}
use Rattle.rules.specs.Sizing.{Sized, limits, refused, limits_for, sizing, sizing_up_to, unit, is_bad_ratio, product, beyond}
use Rattle.sizing.specs.Cut.{Factors}
use Rattle.sizing.proofs.ProductsLaws.{small-at-most}
use Rattle.sizing.proofs.CutLaws.{not_beyond}

-- a test before an answer that is no refusal has failed
passed : (t : Bool) (n d : ℕ) (x : Sized) {L : Limits} → cond t (refused n d) x ≡ limits L → (t ≡ false) × (x ≡ limits L)
passed true n d x h = let z : ◌≡◌ {A = ℕ} 0 1 = cc in absurd (omega arith)
passed false n d x h = (refl, h)

neither : (s t : Bool) → (s || t) ≡ false → (s ≡ false) × (t ≡ false)
neither true t h = absurd (true≢false h)
neither false t h = (refl, h)

-- the limits' bounds, at any largest capacity and ghost limit
pub record FineUpTo (top capacity : ℕ) (L : Limits) : Type 0 where
  pub same : L.capacity ≡ capacity
  pub some_room : 1 ≤ L.capacity
  pub capacity_fits : L.capacity ≤ top
  pub small_fits : L.small_limit ≤ L.capacity
  pub ghost_fits : L.ghost_limit ≤ top

pub accepted-up-to : (top c : ℕ) (s g : Float) {L : Limits} → top ≤ 2 ^ 53 → sizing_up_to top c s g ≡ limits L → FineUpTo top c L
unfolding sizing_up_to limits_for
accepted-up-to top c s g {L} t h =
    let p1 = passed (eqb c 0) 1 0 _ h in
    let p2 = passed (ltb top c) 2 0 _ p1.1 in
    let p3 = passed (is_bad_ratio s || lt unit s) 3 0 _ p2.1 in
    let p4 = passed (is_bad_ratio g) 4 0 _ p3.1 in
    let p5 = passed (beyond top (product c g)) 5 0 _ p4.1 in
    let e : limits_for c s g ≡ L = cc in
    let k = neither (is_bad_ratio s) (lt unit s) p3.0 in
    let C : c ≤ top = ltb-false top c p2.0 in
    let z = eqb-false c 0 p1.0 in
    let f : Factors c s = record { exact = omega arith; good = k.0 } in
    let sm = small-at-most f k.1 in
    let gm = (not_beyond top (product c g) p5.0).1 in
    rw (sym e) (record { same = refl; some_room = omega arith; capacity_fits = C; small_fits = sm; ghost_fits = gm })

-- and they are what the settings stand for
pub accepted-limits : (c : ℕ) (s g : Float) {L : Limits} → sizing c s g ≡ limits L → L ≡ limits_for c s g
unfolding sizing_up_to
accepted-limits c s g {L} h =
    let p1 = passed (eqb c 0) 1 0 _ h in
    let p2 = passed (ltb most c) 2 0 _ p1.1 in
    let p3 = passed (is_bad_ratio s || lt unit s) 3 0 _ p2.1 in
    let p4 = passed (is_bad_ratio g) 4 0 _ p3.1 in
    let p5 = passed (beyond most (product c g)) 5 0 _ p4.1 in
    let e : limits_for c s g ≡ L = cc in
    sym e

pub accepted-fine : (c : ℕ) (s g : Float) {L : Limits} → sizing c s g ≡ limits L → Fine L
accepted-fine c s g h =
    let f = accepted-up-to most c s g (omega arith) h in
    record { some_room = f.some_room; capacity_fits = f.capacity_fits; small_fits = f.small_fits; ghost_fits = f.ghost_fits }
