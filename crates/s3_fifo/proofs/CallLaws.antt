-- The laws of a whole call: each answer, and the verdict that it is.
-- Assumes nothing.
use mathlib.Core.Path.{◌≡◌, refl, sym, ap, ◌∙◌}
use mathlib.Core.Bool.{true}
use mathlib.Core.Logic.{◌⊎◌, inl, inr}
use mathlib.Core.List.{List, ◌++◌}
use Prim.Native.Nat.{ℕ, ◌≤◌, ◌<◌}
use native.Mathlib.Omega.{arith}
use native.Mathlib.Nat.{zero-add}
use lib.ListN.{length, drop}
use borrow.Author.Tests.{lt-ltb, le-ltb}
use Rattle.nodes.specs.Nodes.{used}
use Rattle.nodes.specs.declared.Shape.{Shape}
use Rattle.nodes.proofs.NodesLaws.{cols-rest}
use Rattle.rules.specs.State.{State}
use Rattle.rules.specs.Records.{Request}
use Rattle.rules.specs.Requests.{run}
use Rattle.rules.specs.Bytes.{End, whole, unknown_at, cut_at, parse_from, parse, room_for, encode_all}
use Rattle.rules.specs.Refusals.{store_bytes, most_request_bytes, broken, broken_at}
use Rattle.rules.specs.Verdict.{short, damaged, reads, call}
use Rattle.wire.specs.declared.Stop.TheVariants.{Whole, Unknown, Cut}
use Rattle.wire.specs.declared.Survey.{Survey}
use Rattle.wire.specs.Wire.{end_at, stop_of, surveyed, splice}
use Rattle.store.specs.Holds.{state_in, shape_for, Held}
use Rattle.store.proofs.HoldsLaws.{held-holds, limits-shown}
use Rattle.std.specs.Prelude.{Result, Ok, Err}
use Rattle.soundness.specs.Checks.{Checks}
use Rattle.rules.specs.declared.Turned.{Turned}
use Rattle.rules.specs.declared.Turned.TheVariants.{ShortStore, LongRequests, BadRecord, NoRoom}
use Rattle.wire.specs.CarriedOut.{HasRoom}
use Rattle.runs.specs.Runs.{Runs}
use Rattle.runs.proofs.PieceLaws.{all_end}
use Rattle.s3_fifo.specs.Away.{TurnsAway}
use Rattle.s3_fifo.specs.Calls.{gave, Settled, Called}

-- ---- what the survey says of the verdict's rows

-- a record is no record, and its offset is where the walk ended
broken-end : (e : End) (n : ℕ) → (stop_of e ≡ Whole → ⊥) → (broken e ≡ true) × (broken_at e ≡ end_at n e)
broken-end whole n h = absurd (h refl)
broken-end (unknown_at i) n h = (refl, refl)
broken-end (cut_at i) n h = (refl, refl)

module _ {v : Survey} (q : List ℕ) (g : v ≡ surveyed (length q) (parse q)) where
  room-is : v.room ≡ room_for (parse q).requests
  room-is = ap (λ (y : Survey). y.room) g

  pub survey_whole : v.stop ≡ Whole → (parse q).end ≡ whole
  survey_whole h = all_end (parse q).end (ap (λ (y : Survey). y.stop) (sym g) ∙ h)

  pub survey-ready : {p : List ℕ} → v.room ≤ length p → HasRoom (parse_from q 0).requests p 0
  unfolding parse
  survey-ready b = record { within = omega arith; room = omega (arith, room-is) }

-- ---- the store is turned away

pub called-short : {s : List ℕ} → length s < store_bytes → (q p : List ℕ) → Called s q p (Err ShortStore) s p
unfolding call
called-short h q p = record { store = short; store_is = h; leaves = (refl, refl, refl); untouched = λ u. refl }

pub called-damaged : {s : List ℕ} → store_bytes ≤ length s → {r : Result Shape Turned} → Checks s r → {t : Turned} → r ≡ Err t → (q p : List ℕ)
    → Called s q p (Err t) s p
unfolding call
called-damaged b c {t} e q p =
    record { store = damaged; store_is = (b, c.damaged t e); leaves = rw (c.refusal t e) (refl, refl, refl); untouched = λ u. refl }

-- ---- what a run from the front of the reply buffer leaves

module _ {z : Shape} {s s' : List ℕ} {rs : List Request} {p p' : List ℕ} {n : ℕ} (x : Runs z s s' rs p p' 0 n) where
  -- the store holds its state, and what stands behind stayed
  pub runs-settled : Settled s s' (run (state_in z s) rs).state
  runs-settled =
      let τ : State = (run (state_in z s) rs).state in
      let y : z ≡ shape_for τ.limits =
      x.held.keeps.shaped ∙ ap shape_for (sym (limits-shown z s') ∙ ap (λ (τ : State). τ.limits) x.carried.state) in
      let u : drop (used z) s' ≡ drop (used z) s = sym (cols-rest z s') ∙ x.rest ∙ cols-rest z s in
      record { holds = rw x.carried.state at (held-holds x.held); surplus = rw y at u; same_length = x.same }

  -- and the replies stand in front of what was there
  pub runs-written : let bs : List ℕ = encode_all (run (state_in z s) rs).replies in (n ≡ length bs) × (p' ≡ bs ++ drop (length bs) p)
  unfolding splice
  runs-written =
      let bs : List ℕ = encode_all (run (state_in z s) rs).replies in
      (x.carried.count ∙ zero-add (length bs), x.carried.replies ∙ ap (λ (k : ℕ). bs ++ drop k p) (zero-add (length bs)))

-- ---- a sound store

pub checked-held : {s : List ℕ} {r : Result Shape Turned} {z : Shape} → Checks s r → r ≡ Ok z → Held z s
checked-held {z = z} c e = c.sound z e

module _ {z : Shape} {s : List ℕ} (b : store_bytes ≤ length s) (h : Held z s) (q p : List ℕ) where
  pub called-long : most_request_bytes < length q → Called s q p (Err LongRequests) s p
  unfolding call
  called-long l =
      record {
        store = reads (state_in z s);
        store_is = (b, held-holds h);
        leaves = rw (lt-ltb most_request_bytes (length q) l) (refl, refl, refl);
        untouched = λ u. refl;
      }

  module _ (l : length q ≤ most_request_bytes) {v : Survey} (g : v ≡ surveyed (length q) (parse q)) where
    called-broken : (v.stop ≡ Whole → ⊥) → {i : ℕ} → i ≡ v.at → Called s q p (Err (BadRecord i)) s p
    unfolding call
    called-broken n {i} d =
        let w = broken-end (parse q).end (length q) (λ k. n (ap (λ (y : Survey). y.stop) g ∙ k)) in
        let o : broken_at (parse q).end ≡ i = w.1 ∙ sym (d ∙ ap (λ (y : Survey). y.at) g) in
        record {
          store = reads (state_in z s);
          store_is = (b, held-holds h);
          leaves = rw (le-ltb most_request_bytes (length q) l, w.0, o) (refl, refl, refl);
          untouched = λ u. refl;
        }

    pub called-bad : (v.stop ≡ Unknown) ⊎ (v.stop ≡ Cut) → {i : ℕ} → i ≡ v.at → Called s q p (Err (BadRecord i)) s p
    called-bad (inl w) d = called-broken (λ k. let y : Unknown ≡ Whole = sym w ∙ k in let n : ◌≡◌ {A = ℕ} 0 1 = cc in omega arith) d
    called-bad (inr w) d = called-broken (λ k. let y : Cut ≡ Whole = sym w ∙ k in let n : ◌≡◌ {A = ℕ} 0 1 = cc in omega arith) d

    module _ (all : v.stop ≡ Whole) where
      pub called-room : length p < v.room → {i : ℕ} → i ≡ v.room → Called s q p (Err (NoRoom i)) s p
      unfolding call
      called-room k {i} d =
          let w = survey_whole q g all in
          let o : room_for (parse q).requests ≡ i = sym (d ∙ room-is q g) in
          record {
            store = reads (state_in z s);
            store_is = (b, held-holds h);
            leaves = rw (le-ltb most_request_bytes (length q) l, w, o, lt-ltb (length p) i (omega arith)) (refl, refl, refl);
            untouched = λ u. refl;
          }

      pub called-ran : v.room ≤ length p → {s' p' : List ℕ} {n : ℕ} → Runs z s s' (parse_from q 0).requests p p' 0 n → Called s q p (Ok n) s' p'
      unfolding call parse
      called-ran k {s'} {p'} {n} x =
          let w = survey_whole q g all in
          let y = runs-written x in
          record {
            store = reads (state_in z s);
            store_is = (b, held-holds h);
            leaves =
                rw (le-ltb most_request_bytes (length q) l, w, le-ltb (length p) (room_for (parse q).requests) (omega (arith, room-is q g)))
                (ap (λ (k : ℕ). gave k) y.0, runs-settled x, y.1);
            untouched = x.untouched;
          }

-- ---- requests that are too long

module _ {s q : List ℕ} (b : store_bytes ≤ length s) {r : Result Shape Turned} (c : Checks s r) where
  pub long-damaged : {t : Turned} → r ≡ Err t → TurnsAway s q t
  long-damaged e = record { called = called-damaged b c e q }

  pub long-sound : {z : Shape} → r ≡ Ok z → most_request_bytes < length q → TurnsAway s q LongRequests
  long-sound e l = record { called = λ p. called-long b (checked-held c e) q p l }

pub turned-away : {s q : List ℕ} {t : Turned} → TurnsAway s q t → (p : List ℕ) → Called s q p (Err t) s p
turned-away t = t.called
