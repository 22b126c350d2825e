-- The laws of reading what is carried: what each test and each judgement says of the bytes lent, and what a caller has from the answer.
-- Assumes nothing.
use mathlib.Core.Path.{◌≡◌, refl, sym, ap, ap₂, subst, ◌∙◌}
use mathlib.Core.Bool.{Bool, true, false, cond, ◌&&◌, true≢false}
use mathlib.Core.Logic.{◌⊎◌, inl, inr}
use mathlib.Core.List.{List, []}
use Prim.Native.Nat.{ℕ, ◌+◌, ◌-◌, ◌%◌, ◌^◌, ◌≤◌, ◌<◌}
use native.Mathlib.Omega.{arith}
use lib.Dec.{eqb, leb}
use lib.ListN.{length, get_or, take, drop, length-take, length-drop}
use lib.Seq.{length-take-le}
use borrow.Author.Tests.{eq-eqb, ne_eqb, leb-true, le-leb}
use Rattle.std.specs.Prelude.{Result, Ok, Err}
use Rattle.rules.specs.declared.Turned.{Turned}
use Rattle.rules.specs.declared.Turned.TheVariants.{BadCarry}
use Rattle.rules.specs.Parts.{null}
use Rattle.rules.specs.Carry.{Carry, ReadsCarry, most_kept, last_offset, waits, carry_bytes, carry_written, CarryAs}
use Rattle.cells.specs.Cells.{le}
use Rattle.rules.specs.Bytes.{spot_at, reading_at}
use Rattle.rules.proofs.CouldLaws.{and_both, and-true, waits-few, nothing-kept, could-even, could-stop, could-wait, could-few, stop-could, wait-could}
use Rattle.rules.proofs.HeadLaws.{pending, read-pending}
use Rattle.rules.proofs.CarryLaws.{shown, only-shown, count-shown}
use Rattle.wire.specs.declared.Stop.{Stop}
use Rattle.wire.specs.declared.Stop.TheVariants.{Whole, Unknown, Cut}
use Rattle.wire.specs.declared.Request.{Request as Request·}
use Rattle.wire.specs.Wire.{meaning}
use Rattle.carry.specs.declared.Brought.{Brought}
use Rattle.carry.specs.declared.Brought.TheVariants.{Going, Stopped}
use Rattle.carry.specs.Carries.{kept_in, carried_by, LaidOut, Halts, GoesOn, Brings}

-- ---- the judgement of a stream that goes on

module _ (o : ℕ) (k : List ℕ) (r : Result (Request· × ℕ) Stop) (e : meaning r ≡ reading_at k 0) where
  -- whether the bytes kept wait is said by what was read of them
  kept-waits : waits (spot_at k 0) ≡ pending (meaning r)
  kept-waits = read-pending k (meaning r) (sym e)

  -- no more is waited for
  goes-not : pending (meaning r) ≡ false → GoesOn o k (Err BadCarry)
  goes-not h = record { is = rw (kept-waits, h) }

  -- more is waited for
  goes_on : pending (meaning r) ≡ true → length k ≤ 18446744073709551615 - o → o < 2 ^ 64 → GoesOn o k (Ok (Going o (length k)))
  goes_on h l f = record { is = rw (kept-waits, h, le-leb (o + length k) last_offset (omega arith)) }

  -- a whole record is kept
  pub goes-known : {w : Request· × ℕ} → r ≡ Ok w → GoesOn o k (Err BadCarry)
  goes-known h = goes-not (ap (λ x. pending (meaning x)) h)

  module _ {t : Stop} (h : r ≡ Err t) where
    now : {u : Stop} → t ≡ u → pending (meaning r) ≡ pending (meaning (Err u))
    now f = ap (λ x. pending (meaning x)) (h ∙ ap Err f)

    -- a mark that no request has
    pub goes-unknown : t ≡ Unknown → GoesOn o k (Err BadCarry)
    goes-unknown f = goes-not (now f)

    -- a record that is cut, or nothing
    pub goes_cut : (t ≡ Cut) ⊎ (t ≡ Whole) → length k ≤ 18446744073709551615 - o → o < 2 ^ 64 → GoesOn o k (Ok (Going o (length k)))
    goes_cut (inl f) = goes_on (now f)
    goes_cut (inr f) = goes_on (now f)

-- ---- the tests

module _ (bs : List ℕ) where
  -- no feed could have left what the bytes lent hold
  none : ((c : Carry) → CarryAs bs c → ⊥) → Brings bs (Err BadCarry)
  none h = record { is = h; only = λ t e. cc }

  -- they hold this
  one : {q : Brought} → ReadsCarry bs (carried_by bs (Ok q)) → Brings bs (Ok q)
  one h = record { is = h; only = λ t e. cc }

  -- they say that more bytes are kept than are left of any record
  pub unfit-count : most_kept < get_or bs 8 0 → Brings bs (Err BadCarry)
  unfit-count h = none (λ c a. omega (arith, count-shown a, could-few c a.could))

  -- there is no record but the one shown
  unfit-shown : (CarryAs bs (shown bs) → ⊥) → Brings bs (Err BadCarry)
  unfit-shown h = none (λ c a. h (subst (CarryAs bs) (only-shown a) a))

  module _ {o : ℕ} (e : o ≡ le 8 bs 0) where
    -- their offset is odd
    pub unfit_odd : o % 2 ≡ 1 → Brings bs (Err BadCarry)
    unfit_odd h = unfit-shown (λ a. omega (arith, could-even (shown bs) a.could))

    -- the one form of what they say, and whether they start with it
    module _ {lent : List ℕ} (of : lent ≡ kept_in bs (get_or bs 8 0)) {form : List ℕ}
        (l : LaidOut (record { offset = o; kept = lent; stopped = eqb (get_or bs 9 0) 1 }) form) {r : Bool}
        (d : (r ≡ true → take carry_bytes bs ≡ form) × (take carry_bytes bs ≡ form → r ≡ true)) where
      form_is : form ≡ carry_written (shown bs)
      form_is =
          l.is ∙ ap₂ (λ (x : ℕ) (y : List ℕ). carry_written (record { offset = x; kept = y; stopped = eqb (get_or bs 9 0) 1 })) e of

      -- they do not
      pub unfit-form : r ≡ false → Brings bs (Err BadCarry)
      unfit-form f = unfit-shown (λ a. true≢false (sym (d.1 (a.written ∙ sym form_is)) ∙ f))

      -- they do: all that both judgements have before them
      module _ (long : carry_bytes ≤ length bs) (few : get_or bs 8 0 ≤ most_kept) (f : r ≡ true) (odd : o % 2 ≡ 1 → ⊥) where
        abbrev k : List ℕ
        k = (shown bs).kept

        -- the offset is even
        two : (shown bs).offset % 2 ≡ 0
        two = omega arith

        same : take carry_bytes bs ≡ carry_written (shown bs)
        same = d.0 f ∙ form_is

        -- of a stream that has stopped
        pub brings_stopped : get_or bs 9 0 ≡ 1 → {q : Result Brought Turned} → Halts o lent q → Brings bs q
        brings_stopped s {q} h =
            let g : Halts (shown bs).offset k q = subst (λ (x : List ℕ). Halts (shown bs).offset x q) of (rw e at h) in
            go (null k && leb ((shown bs).offset + 2) last_offset) refl g.is
          where
            t : eqb (get_or bs 9 0) 1 ≡ true
            t = eq-eqb (get_or bs 9 0) 1 s

            go : (u : Bool) → (null k && leb ((shown bs).offset + 2) last_offset) ≡ u → q ≡ cond u (Ok (Stopped (shown bs).offset)) (Err BadCarry) → Brings bs q
            go true g i =
                let p = and_both (null k) (leb ((shown bs).offset + 2) last_offset) g in
                let w : take carry_bytes bs ≡ carry_written (record { offset = (shown bs).offset; kept = []; stopped = true }) =
                same ∙ ap₂ (λ (l : List ℕ) (t : Bool). carry_written (record { offset = (shown bs).offset; kept = l; stopped = t })) (nothing-kept k p.0) t in
                let c = stop-could (shown bs).offset two (leb-true ((shown bs).offset + 2) last_offset p.1) in
                subst (Brings bs) (sym i) (one (record { long = long; written = w; could = c }))
            go false g i =
                subst (Brings bs) (sym i)
                (unfit-shown (λ a.
                let p = could-stop (shown bs) a.could t in
                let yes = and-true (null k) (leb ((shown bs).offset + 2) last_offset) (ap null p.0) (le-leb ((shown bs).offset + 2) last_offset p.1) in
                true≢false (sym yes ∙ g)))

        -- of one that goes on
        pub brings_going : (get_or bs 9 0 ≡ 1 → ⊥) → {q : Result Brought Turned} → GoesOn o lent q → Brings bs q
        brings_going s {q} h =
            let g : GoesOn (shown bs).offset k q = subst (λ (x : List ℕ). GoesOn (shown bs).offset x q) of (rw e at h) in
            go (waits (spot_at k 0) && leb ((shown bs).offset + length k) last_offset) refl g.is
          where
            t : eqb (get_or bs 9 0) 1 ≡ false
            t = ne_eqb (get_or bs 9 0) 1 s

            go : (u : Bool) → (waits (spot_at k 0) && leb ((shown bs).offset + length k) last_offset) ≡ u
                → q ≡ cond u (Ok (Going (shown bs).offset (length k))) (Err BadCarry) → Brings bs q
            go true g i =
                let p = and_both (waits (spot_at k 0)) (leb ((shown bs).offset + length k) last_offset) g in
                let n : length k ≡ get_or bs 8 0 = length-take-le (get_or bs 8 0) (drop 10 bs) (omega (arith, length-drop 10 bs)) in
                let w : take carry_bytes bs ≡ carry_written (record { offset = (shown bs).offset; kept = k; stopped = false }) =
                same ∙ ap (λ (t : Bool). carry_written (record { offset = (shown bs).offset; kept = k; stopped = t })) t in
                let c = wait-could (shown bs).offset k two p.0 (leb-true ((shown bs).offset + length k) last_offset p.1) in
                let a : CarryAs bs (record { offset = (shown bs).offset; kept = k; stopped = false }) = record { long = long; written = w; could = c } in
                let kept_as : CarryAs bs (record { offset = (shown bs).offset; kept = kept_in bs (length k); stopped = false }) =
                subst (λ (j : ℕ). CarryAs bs (record { offset = (shown bs).offset; kept = kept_in bs j; stopped = false })) (sym n) a in
                subst (Brings bs) (sym i) (one kept_as)
            go false g i =
                subst (Brings bs) (sym i)
                (unfit-shown (λ a.
                let p = could-wait (shown bs) a.could t in
                let yes = and-true (waits (spot_at k 0)) (leb ((shown bs).offset + length k) last_offset) p.0
                (le-leb ((shown bs).offset + length k) last_offset p.1) in
                true≢false (sym yes ∙ g)))

-- ---- for the caller: what holds of the bytes kept by a stream that goes on

module _ {bs : List ℕ} {r : Result Brought Turned} {o n : ℕ} (b : Brings bs r) (e : r ≡ Ok (Going o n)) where
  -- they are a record that is carried
  carried : CarryAs bs (record { offset = o; kept = kept_in bs n; stopped = false })
  carried = (subst (Brings bs) e b).is

  -- what a feed could have left waits
  wait : (waits (spot_at (kept_in bs n) 0) ≡ true) × (o + length (kept_in bs n) ≤ last_offset)
  wait = could-wait (record { offset = o; kept = kept_in bs n; stopped = false }) carried.could refl

  -- the bytes lent hold a record
  pub going_long : carry_bytes ≤ length bs
  going_long = carried.long

  -- the bytes kept wait for more
  pub going_waits : waits (spot_at (kept_in bs n) 0) ≡ true
  going_waits = wait.0

  -- so they are fewer than a record can have
  pub going_few : n ≤ most_kept
  going_few =
      let k = waits-few (kept_in bs n) going_waits in
      omega (arith, length-take n (drop 10 bs), length-drop 10 bs, going_long)

  -- and as many as the answer says
  pub going_kept : length (kept_in bs n) ≡ n
  going_kept = length-take-le n (drop 10 bs) (omega (arith, going_few, going_long, length-drop 10 bs))

  -- they end at an offset
  pub going_ends : o + n ≤ last_offset
  going_ends = omega (arith, wait.1, going_kept)
