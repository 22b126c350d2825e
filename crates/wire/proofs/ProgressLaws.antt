-- The laws of a call's loop, over states alone: requests are carried out and answered one after the other, and what is still to come completes the
-- whole. They know no store and no reader of records, so that any engine and any way of cutting the bytes can cite them.
-- Assumes nothing.
use mathlib.Core.Path.{◌≡◌, refl, sym, ap, ◌∙◌, subst}
use mathlib.Core.List.{List, [], ◌∷◌, ◌++◌}
use Prim.Native.Nat.{ℕ, ◌+◌, ◌-◌, ◌≤◌}
use native.Mathlib.Omega.{arith}
use native.Mathlib.Nat.{zero-add}
use lib.ListN.{length, take, drop, length-append}
use lib.Seq.{length-take-le}
use Rattle.rules.specs.State.{State, Sound}
use Rattle.rules.specs.Records.{Request, Reply, AllNarrow, Outcome}
use Rattle.rules.specs.Requests.{apply, run}
use Rattle.rules.specs.Bytes.{encode_all, room_of, room_for}
use Rattle.rules.proofs.SoundLaws.{apply-sound}
use Rattle.rules.proofs.RoomLaws.{encode-length, encode-append, apply-size}
use Rattle.wire.specs.Wire.{splice, Wrote}
use Rattle.wire.specs.CarriedOut.{HasRoom, CarriedOut}
use Rattle.wire.proofs.SpliceLaws.{wrote-length, Partly, partly_more, partly_all}

-- from σ₀ with rs₀ to do it has come to σ with rs to do; the replies so far stand before `out`
pub record Progress (σ₀ σ : State) (rs₀ rs : List Request) (p₀ p : List ℕ) (out₀ out : ℕ) : Type 0 where
  pub sound : Sound σ
  pub narrow : AllNarrow rs
  pub ready : room_for rs ≤ length p - out
  pub begun : out₀ ≤ length p₀
  pub part : Partly p₀ p out (encode_all (run σ rs).replies) (take out₀ p₀ ++ encode_all (run σ₀ rs₀).replies)
  pub state : (run σ rs).state ≡ (run σ₀ rs₀).state

pub progress_start : {σ : State} {rs : List Request} {p : List ℕ} {out : ℕ} → Sound σ → AllNarrow rs → HasRoom rs p out → Progress σ σ rs rs p p out out
progress_start s n h =
    record {
      sound = s;
      narrow = n;
      ready = h.room;
      begun = h.within;
      part = record { within = h.within; same = refl; untouched = refl; told = refl };
      state = refl;
    }

-- one request is answered
module _ {σ₀ σ : State} {rs₀ : List Request} {r : Request} {rs : List Request} {p₀ p : List ℕ} {out₀ out : ℕ}
    (m : Progress σ₀ σ rs₀ (r ∷ rs) p₀ p out₀ out) {w : List Reply} (a : w ≡ (apply σ r).replies) where
  now_ready : room_of r + room_for rs ≤ length p - out
  unfolding room_for
  now_ready = m.ready

  -- its replies take no more than its room
  within-room : length (encode_all w) ≤ room_of r
  within-room = omega (arith, ap length (ap encode_all a), encode-length (apply σ r).replies, apply-size σ r m.sound)

  pub progress-fits : out + length (encode_all w) ≤ length p
  progress-fits = omega (arith, within-room, now_ready, m.part.within)

  pub progress-sound : Sound (apply σ r).state
  progress-sound = apply-sound σ r m.narrow.0 m.sound

  to_come : encode_all (run σ (r ∷ rs)).replies ≡ encode_all w ++ encode_all (run (apply σ r).state rs).replies
  unfolding run
  to_come =
      encode-append (apply σ r).replies (run (apply σ r).state rs).replies
      ∙ ap (λ (l : List Reply). encode_all l ++ encode_all (run (apply σ r).state rs).replies) (sym a)

  pub progress-next : {p₁ : List ℕ} {out₁ : ℕ} {τ : State} → τ ≡ (apply σ r).state → Wrote p out (encode_all w) p₁ out₁ → Progress σ₀ τ rs₀ rs p₀ p₁ out₀ out₁
  unfolding run
  progress-next {p₁} {out₁} {τ} e b =
      let f = progress-fits in
      let whole : List ℕ = take out₀ p₀ ++ encode_all (run σ₀ rs₀).replies in
      let g : Partly p₀ p out (encode_all w ++ encode_all (run (apply σ r).state rs).replies) whole =
      subst (λ (l : List ℕ). Partly p₀ p out l whole) to_come m.part in
      rw e (record {
        sound = progress-sound;
        narrow = m.narrow.1;
        ready = omega (arith, within-room, now_ready, b.end, wrote-length b f);
        begun = m.begun;
        part = rw (b.bytes, b.end) (partly_more (encode_all w) f g);
        state = m.state;
      })

-- replies behind what stands in front
splice-behind : (p : List ℕ) (i : ℕ) (bs : List ℕ) → i ≤ length p → splice p 0 (take i p ++ bs) ≡ splice p i bs
unfolding splice
splice-behind p i bs h =
    ap (λ (n : ℕ). take i p ++ bs ++ drop n p)
    (zero-add (length (take i p ++ bs)) ∙ length-append (take i p) bs ∙ ap (λ (n : ℕ). n + length bs) (length-take-le i p h))

-- nothing more is to do
pub progress-end : {σ₀ σ : State} {rs₀ rs : List Request} {p₀ p : List ℕ} {out₀ out : ℕ} → Progress σ₀ σ rs₀ rs p₀ p out₀ out → rs ≡ []
    → CarriedOut σ₀ σ rs₀ p₀ p out₀ out
unfolding run encode_all
progress-end {σ₀} {σ} {rs₀} {rs} {p₀} {p} {out₀} {out} m e =
    let t : run σ rs ≡ record { state = σ; replies = [] } = ap (run σ) e in
    let w : List ℕ = encode_all (run σ₀ rs₀).replies in
    let g : Partly p₀ p out [] (take out₀ p₀ ++ w) = subst (λ (o : Outcome). Partly p₀ p out (encode_all o.replies) (take out₀ p₀ ++ w)) t m.part in
    let a = partly_all g in
    record {
      state = ap (λ (o : Outcome). o.state) (sym t) ∙ m.state;
      replies = a.0 ∙ splice-behind p₀ out₀ w m.begun;
      count = a.1 ∙ length-append (take out₀ p₀) w ∙ ap (λ (n : ℕ). n + length w) (length-take-le out₀ p₀ m.begun);
    }
