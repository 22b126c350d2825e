-- The laws of a feed: each answer, and the verdict that it is.
-- Assumes nothing.
use mathlib.Core.Path.{◌≡◌, refl, sym, ap, ap₂, subst}
use mathlib.Core.Bool.{true, false}
use mathlib.Core.List.{List, [], ◌++◌}
use Prim.Native.Nat.{ℕ, ◌+◌, ◌-◌, ◌≤◌, ◌<◌}
use native.Mathlib.Omega.{arith}
use lib.ListN.{length}
use borrow.Author.Tests.{lt-ltb, le-ltb}
use Rattle.nodes.specs.declared.Shape.{Shape}
use Rattle.rules.specs.declared.Turned.{Turned}
use Rattle.rules.specs.declared.Turned.TheVariants.{ShortStore, LongRequests, BadRecord, BadCarry}
use Rattle.rules.specs.Records.{Request}
use Rattle.rules.specs.Bytes.{parse, room_for}
use Rattle.rules.specs.Refusals.{number_of, detail_of, store_bytes, most_request_bytes}
use Rattle.rules.specs.Verdict.{short, damaged, reads}
use Rattle.rules.specs.Carry.{Carry, last_offset, left_by, unfit, carries}
use Rattle.rules.specs.Feed.{feed_on, completed, feed}
use Rattle.carry.specs.declared.Brought.{Brought}
use Rattle.carry.specs.declared.Brought.TheVariants.{Going, Stopped as Halted}
use Rattle.carry.specs.Carries.{kept_in, carried_by, Brings}
use Rattle.carry.proofs.CarriesLaws as lent
use Rattle.store.specs.Holds.{state_in, Held}
use Rattle.store.proofs.HoldsLaws.{held-holds}
use Rattle.std.specs.Prelude.{Result, Ok, Err}
use Rattle.soundness.specs.Checks.{Checks}
use Rattle.runs.specs.declared.Fed.{Fed}
use Rattle.runs.specs.declared.Fed.TheVariants.{Done, Stopped}
use Rattle.s3_fifo.proofs.CallLaws.{runs-settled, runs-written}
use Rattle.runs.specs.Runs.{FedOn}
use Rattle.s3_fifo.specs.Calls.{gave, halted, turned}
use Rattle.s3_fifo.specs.Feeds.{FedAs}

-- ---- the store is turned away

-- nothing is known of the carried record, and nothing has to be: the rows of the store come first
pub fed-short : {s : List ℕ} → length s < store_bytes → (c q p : List ℕ) → {r : Result Brought Turned} → Brings c r → FedAs s c q p (Err ShortStore) s c p
unfolding feed
fed-short h c q p {r} b =
    record { store = short; store_is = h; carry = carried_by c r; carry_is = b.is; leaves = (refl, refl, refl, refl); untouched = λ u. refl }

pub fed-damaged : {s : List ℕ} → store_bytes ≤ length s → {k : Result Shape Turned} → Checks s k → {t : Turned} → k ≡ Err t → (c q p : List ℕ)
    → {r : Result Brought Turned} → Brings c r → FedAs s c q p (Err t) s c p
unfolding feed
fed-damaged l a {t} e c q p {r} b =
    record {
      store = damaged;
      store_is = (l, a.damaged t e);
      carry = carried_by c r;
      carry_is = b.is;
      leaves = rw (a.refusal t e) (refl, refl, refl, refl);
      untouched = λ u. refl;
    }

-- ---- a sound store

-- the record is one that no feed could have left
pub fed-unfit : {z : Shape} {s : List ℕ} → store_bytes ≤ length s → Held z s → {c : List ℕ} {r : Result Brought Turned} → Brings c r → {t : Turned} → r ≡ Err t
    → (q p : List ℕ) → FedAs s c q p (Err t) s c p
unfolding feed
fed-unfit {z} {s} l h b {t} e q p =
    record {
      store = reads (state_in z s);
      store_is = (l, held-holds h);
      carry = unfit;
      carry_is = rw e at b.is;
      leaves = rw (b.only t e) (refl, refl, refl, refl);
      untouched = λ u. refl;
    }

module _ {z : Shape} {s : List ℕ} (l : store_bytes ≤ length s) (h : Held z s) {c : List ℕ} {r : Brought} (b : Brings c (Ok r)) (q p : List ℕ) where
  -- the stream had stopped before
  module _ {i : ℕ} (e : r ≡ Halted i) where
    abbrev stopped-at : Carry
    stopped-at = record { offset = i; kept = []; stopped = true }

    pub stopped-long : most_request_bytes < length q → FedAs s c q p (Err LongRequests) s c p
    unfolding feed
    stopped-long m =
        record {
          store = reads (state_in z s);
          store_is = (l, held-holds h);
          carry = carries stopped-at;
          carry_is = rw e at b.is;
          leaves = rw (lt-ltb most_request_bytes (length q) m) (refl, refl, refl, refl);
          untouched = λ u. refl;
        }

    pub stopped-before : length q ≤ most_request_bytes → FedAs s c q p (Err (BadRecord i)) s c p
    unfolding feed
    stopped-before m =
        record {
          store = reads (state_in z s);
          store_is = (l, held-holds h);
          carry = carries stopped-at;
          carry_is = rw e at b.is;
          leaves = rw (le-ltb most_request_bytes (length q) m) (refl, refl, refl, refl);
          untouched = λ u. refl;
        }

  -- it goes on
  module _ {o n : ℕ} (e : r ≡ Going o n) where
    pub going_brings : Brings c (Ok (Going o n))
    going_brings = subst (λ (x : Brought). Brings c (Ok x)) e b

    abbrev going : Carry
    going = record { offset = o; kept = kept_in c n; stopped = false }

    pub going_sub : n ≤ last_offset - o
    going_sub = let f = lent.going_ends going_brings refl in omega arith

    pub going_over : last_offset - o - n < length q → FedAs s c q p (Err BadCarry) s c p
    unfolding feed
    going_over m =
        let k = lent.going_kept going_brings refl in
        let f = lent.going_ends going_brings refl in
        record {
          store = reads (state_in z s);
          store_is = (l, held-holds h);
          carry = carries going;
          carry_is = going_brings.is;
          leaves = rw (lt-ltb last_offset (o + length (kept_in c n) + length q) (omega arith)) (refl, refl, refl, refl);
          untouched = λ u. refl;
        }

    module _ (m : length q ≤ last_offset - o - n) where
      pub going_within : o + n + length q ≤ last_offset
      going_within = let f = lent.going_ends going_brings refl in omega arith

      fits : o + length (kept_in c n) + length q ≤ last_offset
      fits = let k = lent.going_kept going_brings refl in let g = going_within in omega arith

      pub going_long : most_request_bytes < length q → FedAs s c q p (Err LongRequests) s c p
      unfolding feed
      going_long m =
          record {
            store = reads (state_in z s);
            store_is = (l, held-holds h);
            carry = carries going;
            carry_is = going_brings.is;
            leaves = rw (le-ltb last_offset (o + length (kept_in c n) + length q) fits, lt-ltb most_request_bytes (length q) m) (refl, refl, refl, refl);
            untouched = λ u. refl;
          }

      abbrev asked : List Request
      asked = (parse (kept_in c n ++ q)).requests

      abbrev next : Carry
      next = left_by o (kept_in c n ++ q) (parse (kept_in c n ++ q)).end

      module _ (few : length q ≤ most_request_bytes) {s' c' p' : List ℕ} where
        pub going-fed : (a : Result Fed Turned) → FedOn z s s' c c' p p' asked next a → FedAs s c q p a s' c' p'
        unfolding feed feed_on completed
        going-fed (Err t) f =
            let x = f.fed in
            record {
              store = reads (state_in z s);
              store_is = (l, held-holds h);
              carry = carries going;
              carry_is = going_brings.is;
              leaves = rw (
                le-ltb last_offset (o + length (kept_in c n) + length q) fits,
                le-ltb most_request_bytes (length q) few,
                lt-ltb (length p) (room_for asked) x.1,
              )
                  (ap (λ (t : Turned). turned (number_of t) (detail_of t)) x.0, x.2, x.3, x.4);
              untouched = λ u. x.2;
            }
        going-fed (Ok (Done k)) f =
            let x = f.fed.1 in
            let y = runs-written x.runs in
            record {
              store = reads (state_in z s);
              store_is = (l, held-holds h);
              carry = carries going;
              carry_is = going_brings.is;
              leaves = rw (
                le-ltb last_offset (o + length (kept_in c n) + length q) fits,
                le-ltb most_request_bytes (length q) few,
                le-ltb (length p) (room_for asked) x.room,
                f.fed.0,
              )
                  (ap (λ (i : ℕ). gave i) y.0, runs-settled x.runs, x.put, y.1);
              untouched = x.runs.untouched;
            }
        going-fed (Ok (Stopped k i)) f =
            let x = f.fed.2 in
            let y = runs-written x.runs in
            record {
              store = reads (state_in z s);
              store_is = (l, held-holds h);
              carry = carries going;
              carry_is = going_brings.is;
              leaves = rw (
                le-ltb last_offset (o + length (kept_in c n) + length q) fits,
                le-ltb most_request_bytes (length q) few,
                le-ltb (length p) (room_for asked) x.room,
                f.fed.0,
              )
                  (ap₂ (λ (a b : ℕ). halted a b) y.0 (sym f.fed.1), runs-settled x.runs, x.put, y.1);
              untouched = x.runs.untouched;
            }
