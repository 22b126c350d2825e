-- The laws of the run: requests are read, carried out and answered one after the other, and what is still to come completes the whole.
-- Assumes nothing.
use mathlib.Core.Path.{◌≡◌, refl, sym, ap, ap₂, ◌∙◌, subst}
use mathlib.Core.List.{List, [], ◌∷◌, ◌++◌, append-nil}
use Prim.Native.Nat.{ℕ, ◌+◌, ◌-◌, ◌≤◌, ◌<◌}
use native.Mathlib.Omega.{arith}
use native.Mathlib.Nat.{add-zero}
use lib.ListN.{length, take, drop, length-append, take-append-drop}
use Rattle.std.specs.Prelude.{Option, Some, None, Result, Ok, Err}
use Rattle.cells.specs.Cells.{Bytes}
use Rattle.nodes.specs.Nodes.{Rest, cols}
use Rattle.nodes.specs.declared.Shape.{Shape}
use Rattle.rules.specs.State.{State}
use Rattle.rules.specs.Records.{Request, Reply, ES, EM, Peeks, AllPeeks, Outcome, tell_first}
use Rattle.rules.specs.Requests.{run}
use Rattle.rules.specs.Bytes.{room_for, encode, encode_all, Reading, ask, reading_at, Parsed, on_reading, parse_from}
use Rattle.rules.proofs.RoomLaws.{encode-append, run-size}
use Rattle.rules.proofs.LedgerLaws.{run-append}
use Rattle.rules.proofs.StreamLaws.{room-append}
use Rattle.cells.proofs.MembersLaws.{every-left, every_right}
use Rattle.rules.proofs.ParseLaws.{parse-step, parse-sized-from, read_goes}
use Rattle.wire.specs.declared.Reply.{Reply as Reply·}
use Rattle.wire.specs.declared.Request.{Request as Request·}
use Rattle.wire.specs.declared.Stop.{Stop}
use Rattle.wire.specs.declared.Stop.TheVariants.{Whole, Unknown, Cut}
use Rattle.wire.specs.Wire.{asked, told, meaning, splice, Wrote}
use Rattle.wire.specs.CarriedOut.{HasRoom}
use Rattle.wire.proofs.SpliceLaws.{wrote-wrote, wrote-length}
use Rattle.wire.proofs.ProgressLaws.{Progress, progress_start, progress-fits, progress-sound, progress-next, progress-end}
use Rattle.evict.specs.declared.Pushed.{Pushed}
use Rattle.store.specs.declared.QueueKind.TheVariants.{Small, Main}
use Rattle.evict.specs.Evicts.{pushed_of}
use Rattle.requests.specs.declared.Spoken.{Spoken}
use Rattle.requests.specs.Answers.{spoken_of, Answers}
use Rattle.store.specs.Holds.{state_in, Held}
use Rattle.runs.specs.Runs.{Runs}

-- ---- replies one after the other

encode_one : (r : Reply) → encode_all (r ∷ []) ≡ encode r
unfolding encode_all
encode_one r = append-nil (encode r)

pub splice-none : (p : List ℕ) (i : ℕ) → i ≤ length p → p ≡ splice p i []
unfolding splice
splice-none p i h = sym (ap₂ (λ (a : List ℕ) (n : ℕ). a ++ drop n p) (append-nil (take i p)) (add-zero i) ∙ take-append-drop i p)

-- no pair was pushed out
pub put-nothing : {p : List ℕ} {i : ℕ} (w : Option Pushed) → w ≡ None → i + length (encode_all (pushed_of w)) ≤ length p
    → Wrote p i (encode_all (pushed_of w)) p i
unfolding encode_all
put-nothing {p} {i} w e h = rw e (record { bytes = splice-none p i (omega arith); end = sym (add-zero i) })

-- one was: its reply is all
module _ (w : Option Pushed) {y : Pushed} (one : w ≡ Some y) where
  pub put_small : y.from ≡ Small → {p p' : List ℕ} {i m : ℕ} → Wrote p i (encode (ES y.key.0 y.value.0)) p' m → Wrote p i (encode_all (pushed_of w)) p' m
  put_small e h = rw (one, e, encode_one (ES y.key.0 y.value.0)) h

  pub put-main : y.from ≡ Main → {p p' : List ℕ} {i m : ℕ} → Wrote p i (encode (EM y.key.0 y.value.0)) p' m → Wrote p i (encode_all (pushed_of w)) p' m
  put-main e h = rw (one, e, encode_one (EM y.key.0 y.value.0)) h

  pub small_fits : y.from ≡ Small → {n : ℕ} (i : ℕ) → i + length (encode_all (pushed_of w)) ≤ n → i + length (encode (ES y.key.0 y.value.0)) ≤ n
  small_fits e i h = rw (one, e, encode_one (ES y.key.0 y.value.0)) at h

  pub main-fits : y.from ≡ Main → {n : ℕ} (i : ℕ) → i + length (encode_all (pushed_of w)) ≤ n → i + length (encode (EM y.key.0 y.value.0)) ≤ n
  main-fits e i h = rw (one, e, encode_one (EM y.key.0 y.value.0)) at h

-- the pair and the closing reply
spoken_bytes : (w : Option Pushed) (r : Reply·) → encode_all (pushed_of w ++ (told r ∷ [])) ≡ encode_all (pushed_of w) ++ encode (told r)
spoken_bytes w r = encode-append (pushed_of w) (told r ∷ []) ∙ ap (λ l. encode_all (pushed_of w) ++ l) (encode_one (told r))

spoken_length : (w : Option Pushed) (r : Reply·)
    → length (encode_all (pushed_of w ++ (told r ∷ []))) ≡ length (encode_all (pushed_of w)) + length (encode (told r))
spoken_length w r = ap length (spoken_bytes w r) ∙ length-append (encode_all (pushed_of w)) (encode (told r))

pub first_fits : {n : ℕ} (i : ℕ) (w : Option Pushed) (r : Reply·) → i + length (encode_all (pushed_of w ++ (told r ∷ []))) ≤ n
    → i + length (encode_all (pushed_of w)) ≤ n
first_fits i w r h = omega (arith, spoken_length w r)

pub closing-fits : {p p₁ : List ℕ} {i m : ℕ} (w : Option Pushed) (r : Reply·) → i + length (encode_all (pushed_of w ++ (told r ∷ []))) ≤ length p
    → Wrote p i (encode_all (pushed_of w)) p₁ m → length p₁ ≡ length p → m + length (encode (told r)) ≤ length p₁
closing-fits w r h g e = omega (arith, spoken_length w r, g.end)

pub spoken_wrote : {p p₁ p₂ : List ℕ} {i m k : ℕ} (w : Option Pushed) (r : Reply·) → i + length (encode_all (pushed_of w ++ (told r ∷ []))) ≤ length p
    → Wrote p i (encode_all (pushed_of w)) p₁ m → Wrote p₁ m (encode (told r)) p₂ k → Wrote p i (encode_all (pushed_of w ++ (told r ∷ []))) p₂ k
spoken_wrote {p} {p₁} {p₂} {i} {m} {k} w r h a b = rw (spoken_bytes w r) (wrote-wrote a b (omega (arith, spoken_length w r)))

-- ---- the run

-- from the offsets at₀ and out₀ on: the records before `at` are carried out, and their replies stand before `out`
pub record Midway (z : Shape) (s₀ s q : List ℕ) (at₀ : ℕ) (p₀ p : List ℕ) (out₀ at out : ℕ) : Type 0 where
  pub held : Held z s
  pub progress : Progress (state_in z s₀) (state_in z s) (parse_from q at₀).requests (parse_from q at).requests p₀ p out₀ out
  pub rest : cols z s Rest ≡ cols z s₀ Rest
  pub same : length s ≡ length s₀
  -- where there are only peeks to do: none of them has changed a byte, and only peeks are left
  pub untouched : AllPeeks (parse_from q at₀).requests → (s ≡ s₀) × AllPeeks (parse_from q at).requests
  pub sized : length (encode_all (run (state_in z s₀) (parse_from q at₀).requests).replies) ≤ room_for (parse_from q at₀).requests

pub midway_start : {z : Shape} {s q : List ℕ} {at : ℕ} {p : List ℕ} {out : ℕ} → Held z s → HasRoom (parse_from q at).requests p out → Bytes q
    → Midway z s s q at p p out at out
midway_start {z} {s} {q} {at} h y b =
    record {
      held = h;
      progress = progress_start h.sound (parse-sized-from q at b) y;
      rest = refl;
      same = refl;
      untouched = λ u. (refl, u);
      sized = run-size (state_in z s) (parse_from q at).requests (parse-sized-from q at b) h.sound;
    }

module _ {z : Shape} {s₀ s q : List ℕ} {at₀ : ℕ} {p₀ p : List ℕ} {out₀ at out : ℕ} (m : Midway z s₀ s q at₀ p₀ p out₀ at out) where
  pub midway_held : Held z s
  midway_held = m.held

  -- one request is read
  module _ {x : Result (Request· × ℕ) Stop} (read : meaning x ≡ reading_at q at) {k : Request·} {after : ℕ} (is : x ≡ Ok (k, after)) where
    e : ask (asked k) after ≡ reading_at q at
    e = ap meaning (sym is) ∙ read

    more : (parse_from q at).requests ≡ asked k ∷ (parse_from q after).requests
    more = ap (λ (x : Parsed Request). x.requests) (parse-step q at ∙ ap (on_reading (parse_from q) at) (sym e))

    here : Progress (state_in z s₀) (state_in z s) (parse_from q at₀).requests (asked k ∷ (parse_from q after).requests) p₀ p out₀ out
    here = subst (λ (l : List Request). Progress (state_in z s₀) (state_in z s) (parse_from q at₀).requests l p₀ p out₀ out) more m.progress

    pub midway_less : length q - after < length q - at
    midway_less = omega (arith, read_goes q at (asked k) after (sym e))

    module _ {s₁ : List ℕ} {w : Spoken} (a : Answers z s s₁ (asked k) w) where
      -- its replies fit
      pub midway_fits : out + length (encode_all (spoken_of w)) ≤ length p
      midway_fits = progress-fits here a.replies

      still : AllPeeks (parse_from q at₀).requests → (s₁ ≡ s₀) × AllPeeks (parse_from q after).requests
      still u =
          let w = m.untouched u in
          let v : AllPeeks (asked k ∷ (parse_from q after).requests) = subst AllPeeks more w.1 in
          (a.untouched v.0 ∙ w.0, v.1)

      pub midway_next : {p₁ : List ℕ} {out₁ : ℕ} → Wrote p out (encode_all (spoken_of w)) p₁ out₁ → length s₁ ≡ length s
          → Midway z s₀ s₁ q at₀ p₀ p₁ out₀ after out₁
      midway_next b n =
          record {
            held = record { keeps = a.becomes.keeps; sound = rw a.becomes.state (progress-sound here a.replies) };
            progress = progress-next here a.replies a.becomes.state b;
            rest = a.becomes.rest ∙ m.rest;
            same = n ∙ m.same;
            untouched = still;
            sized = m.sized;
          }

  ended : {r : Reading Request} → r ≡ reading_at q at → (on_reading (parse_from q) at r).requests ≡ [] → Runs z s₀ s (parse_from q at₀).requests p₀ p out₀ out
  ended e n =
      record {
        held = m.held;
        carried = progress-end m.progress (ap (λ (x : Parsed Request). x.requests) (parse-step q at ∙ ap (on_reading (parse_from q) at) (sym e)) ∙ n);
        rest = m.rest;
        same = m.same;
        untouched = λ u. (m.untouched u).0;
        sized = m.sized;
      }

  -- nothing more is read, whatever ends the records
  pub midway_over : (x : Result (Request· × ℕ) Stop) → meaning x ≡ reading_at q at → ((w : Request· × ℕ) → x ≡ Ok w → ⊥)
      → Runs z s₀ s (parse_from q at₀).requests p₀ p out₀ out
  midway_over (Ok w) read d = absurd (d w refl)
  midway_over (Err Unknown) read d = ended read refl
  midway_over (Err Cut) read d = ended read refl
  midway_over (Err Whole) read d = ended read refl

-- ---- one run after the other

module _ {z : Shape} {s s₁ : List ℕ} {rs : List Request} {p p₁ : List ℕ} {m : ℕ} (a : Runs z s s₁ rs p p₁ 0 m) where
  runs-wrote : Wrote p 0 (encode_all (run (state_in z s) rs).replies) p₁ m
  runs-wrote = record { bytes = a.carried.replies; end = a.carried.count }

  -- there is room for more, where there was for both
  pub runs-room : (more : List Request) → room_for rs + room_for more ≤ length p → HasRoom more p₁ m
  runs-room more h =
      let c = a.sized in
      let n = a.carried.count in
      let l = wrote-length runs-wrote (omega arith) in
      record { within = omega arith; room = omega arith }

  pub runs-runs : {s₂ : List ℕ} {more : List Request} {p₂ : List ℕ} {r : ℕ} → Runs z s₁ s₂ more p₁ p₂ m r → room_for rs + room_for more ≤ length p
      → Runs z s s₂ (rs ++ more) p p₂ 0 r
  runs-runs {s₂} {more} {p₂} {r} b h =
      let σ = state_in z s in
      let τ = (run σ rs).state in
      let o : run σ (rs ++ more) ≡ tell_first (run σ rs).replies (run τ more) = run-append σ rs more in
      let e : state_in z s₁ ≡ τ = a.carried.state in
      let first : List ℕ = encode_all (run σ rs).replies in
      let second : List ℕ = encode_all (run τ more).replies in
      let w : Wrote p₁ m second p₂ r = record { bytes = rw e at b.carried.replies; end = rw e at b.carried.count } in
      let x = a.sized in
      let y : length second ≤ room_for more = rw e at b.sized in
      let v : Wrote p 0 (first ++ second) p₂ r = wrote-wrote runs-wrote w (omega arith) in
      let bytes : encode_all (run σ (rs ++ more)).replies ≡ first ++ second =
      ap (λ (u : Outcome). encode_all u.replies) o ∙ encode-append (run σ rs).replies (run τ more).replies in
      record {
        held = b.held;
        carried = record {
          state = b.carried.state ∙ ap (λ (ρ : State). (run ρ more).state) e ∙ sym (ap (λ (u : Outcome). u.state) o);
          replies = v.bytes ∙ ap (splice p 0) (sym bytes);
          count = v.end ∙ ap (λ (l : List ℕ). 0 + length l) (sym bytes);
        };
        rest = b.rest ∙ a.rest;
        same = b.same ∙ a.same;
        untouched = λ u. b.untouched (every_right Peeks rs more u) ∙ a.untouched (every-left Peeks rs more u);
        sized = omega (arith, ap length bytes, length-append first second, room-append rs more);
      }
