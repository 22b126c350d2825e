-- A case counts as the same exactly where the rules accept it with the replies that are written.
-- Assumes nothing.
use mathlib.Core.Path.{◌≡◌, refl, sym, ap, subst, ◌∙◌}
use mathlib.Core.Bool.{Bool, false}
use mathlib.Core.List.{List, [], ◌++◌, append-nil}
use Prim.Native.Nat.{ℕ, zero, suc, ◌+◌, ◌-◌, ◌≤◌, ◌<◌}
use native.Mathlib.Nat.{sub-zero, suc-sub-suc, zero-sub}
use native.Mathlib.Omega.{arith}
use lib.ListN.{length, take, drop, replicate, length-take, length-drop, length-append, length-replicate}
use lib.Seq.{take_all, take_at}
use Rattle.std.specs.Prelude.{Option, Some, Result, Ok, Err}
use Rattle.cells.specs.Decides.{Decides}
use Rattle.cells.proofs.DecidesLaws.{refuse, decides_map}
use Rattle.rules.specs.State.{State}
use Rattle.rules.specs.declared.Turned.{Turned}
use Rattle.rules.specs.Refusals.{store_bytes, number_of, detail_of}
use Rattle.rules.proofs.RefusalsLaws.{turned_away_by, turned-back}
use Rattle.rules.specs.Sizing.{Asked, no_settings, settings_bytes, settings_of}
use Rattle.rules.specs.Verdict.{Verdict, refused, done, create, Reads, reads, call, on_created, on_asked}
use Rattle.sizing.specs.declared.Settings.{Settings}
use Rattle.sizing.specs.Answers.{asked_of}
use borrow.Author.Tests.{lt-leb}
use Rattle.s3_fifo.specs.Calls.{gave, turned, created_says, ran_says, Settled, Follows}
use Rattle.s3_fifo.proofs.OnceLaws.{reads-once}
use Rattle.store.specs.Holds.{Holds}
use Rattle.recorded.specs.declared.Told.{Told}
use Rattle.recorded.specs.Told.{told_of}
use Rattle.recorded.specs.Compared.{unwritten, WroteOnly, CaseAsWritten}
use Rattle.recorded.specs.Steps.{CreatedIn, RanIn, CaseRun}
use Rattle.recorded.specs.Fresh.{Accepted}

-- ---- numbers

-- no refusal has the number 0: it would be the one that stands for it, which has another
not-zero : (t : Turned) → number_of t ≡ 0 → ⊥
not-zero t e =
    let f : number_of (turned_away_by 0 (detail_of t)) ≡ 0 =
    ap (λ (n : ℕ). number_of (turned_away_by n (detail_of t))) (sym e) ∙ ap number_of (turned-back t) ∙ e in
    omega arith

-- a creation told by 0 was made
made_by : (a : Result Unit Turned) → (told_of (created_says a)).number ≡ 0 → created_says a ≡ gave 0
made_by (Ok x) e = refl
made_by (Err t) e = absurd (not-zero t e)

turned_by : (a : Result Unit Turned) → ((told_of (created_says a)).number ≡ 0 → ⊥) → (n : ℕ) → created_says a ≡ gave n → ⊥
turned_by (Ok x) h n e = h refl
turned_by (Err t) h n e = let z : ◌≡◌ {A = ℕ} 0 1 = cc in absurd (omega arith)

-- and a call that was turned away is told by another number
turned-ran : (a : Result ℕ Turned) (n d : ℕ) → ran_says a ≡ turned n d → (told_of (ran_says a)).number ≡ 0 → ⊥
turned-ran (Ok m) n d e z = let y : ◌≡◌ {A = ℕ} 0 1 = cc in absurd (omega arith)
turned-ran (Err t) n d e z = not-zero t z

-- ---- verdicts

-- a verdict that is not done
record NotDone (v : Verdict State) : Type 0 where
  never : (σ : State) (bs : List ℕ) → v ≡ done σ bs → ⊥

refused-not : (n d : ℕ) → NotDone (refused n d)
refused-not n d = record { never = λ σ bs e. let z : ◌≡◌ {A = ℕ} 0 1 = cc in absurd (omega arith) }

-- a verdict accepts, with the replies w
record Accepts (v : Verdict State) (w : List ℕ) : Type 0 where
  state : State
  is : v ≡ done state w

not-accepted : (v : Verdict State) (w : List ℕ) {r : Bool} → NotDone v → r ≡ false → Decides (Accepts v w) r
not-accepted v w h e = rw e (refuse (λ a. h.never a.state w a.is))

-- a creation that is not told by 0 makes nothing
unmade : (v : Verdict State) (a : Result Unit Turned) (s s' : List ℕ) → Follows v (created_says a) s s' [] [] → ((told_of (created_says a)).number ≡ 0 → ⊥)
    → (q : List ℕ) (room : ℕ) → NotDone (on_created v q room)
unmade (refused n d) a s s' f h q room = refused-not n d
unmade (done σ bs) a s s' f h q room = absurd (turned_by a h (length bs) f.0)

-- and one that is has made a state
record StateMade (v : Verdict State) (s s' : List ℕ) : Type 0 where
  state : State
  nothing : List ℕ
  is : v ≡ done state nothing
  settled : Settled s s' state

made_of : (v : Verdict State) (a : Result Unit Turned) (s s' : List ℕ) → Follows v (created_says a) s s' [] []
    → (told_of (created_says a)).number ≡ 0 → StateMade v s s'
made_of (refused n d) a s s' f h =
    let e = sym (made_by a h) ∙ f.0 in let z : ◌≡◌ {A = ℕ} 0 1 = cc in absurd (omega arith)
made_of (done σ bs) a s s' f h = record { state = σ; nothing = bs; is = refl; settled = f.1 }

-- ---- replies

drop-blank : (k n b : ℕ) → drop k (replicate n b) ≡ replicate (n - k) b
drop-blank zero n b = ap (λ (m : ℕ). replicate m b) (sym (sub-zero n))
drop-blank (suc k) zero b = ap (λ (m : ℕ). replicate m b) (sym (zero-sub (suc k)))
drop-blank (suc k) (suc n) b = drop-blank k n b ∙ ap (λ (m : ℕ). replicate m b) (sym (suc-sub-suc n k))

-- what is written only is what was answered
written_is : (bs w out : List ℕ) (room : ℕ) → out ≡ bs ++ replicate (room - length bs) unwritten → length bs ≡ length w → WroteOnly out w → bs ≡ w
written_is bs w out room e l c =
    sym (take_at bs (replicate (room - length bs) unwritten) (length w) l) ∙ ap (λ (x : List ℕ). take (length w) x) (sym e ∙ c.is)
    ∙ take_at w (replicate (length out - length w) unwritten) (length w) refl

wrote-is : (bs out : List ℕ) (room : ℕ) → out ≡ bs ++ replicate (room - length bs) unwritten → WroteOnly out bs
wrote-is bs out room e =
    let l : length out ≡ length bs + (room - length bs) =
    ap (λ (x : List ℕ). length x) e ∙ length-append bs (replicate (room - length bs) unwritten)
    ∙ ap (λ (k : ℕ). length bs + k) (length-replicate (room - length bs) unwritten) in
    let k : room - length bs ≡ length out - length bs = omega arith in
    record { is = e ∙ ap (λ (m : ℕ). bs ++ replicate m unwritten) k }

-- ---- the call of a case

answer_decides : (v : Verdict State) (a : Result ℕ Turned) (t : Told) (s s' p' out w : List ℕ) (room : ℕ) {r : Bool}
    → Follows v (ran_says a) s s' (replicate room unwritten) p' → t ≡ told_of (ran_says a) → out ≡ p' → Decides (CaseAsWritten w t out) r
    → Decides (Accepts v w) r
answer_decides (refused n d) a t s s' p' out w room f e o c =
    decides_map (λ g. absurd (turned-ran a n d f.0 (sym (ap (λ (x : Told). x.number) e) ∙ g.answer.number_is)))
    (λ g. absurd ((refused-not n d).never g.state w g.is)) c
answer_decides (done τ bs) a t s s' p' out w room f e o c =
    let told : t ≡ told_of (gave (length bs)) = e ∙ ap told_of f.0 in
    let b : out ≡ bs ++ replicate (room - length bs) unwritten = o ∙ f.2 ∙ ap (λ (x : List ℕ). bs ++ x) (drop-blank (length bs) room unwritten) in
    decides_map
    (λ g. record { state = τ; is = ap (done τ) (written_is bs w out room b (sym (ap (λ (x : Told). x.count) told) ∙ g.answer.count_is) g.replies) })
    (λ g. let e' = g.is in let q : bs ≡ w = cc in
    record {
      answer = record {
        number_is = ap (λ (x : Told). x.number) told;
        detail_is = ap (λ (x : Told). x.detail) told;
        count_is = ap (λ (x : Told). x.count) told ∙ ap (λ (x : List ℕ). length x) q;
      };
      replies = subst (λ (x : List ℕ). WroteOnly out x) q (wrote-is bs out room b);
    })
    c

module _ (room : ℕ) where
  all-blank : take room (replicate room unwritten) ≡ replicate room unwritten
  all-blank = take_all room (replicate room unwritten) (omega (arith, length-replicate room unwritten))

  no_blank : drop room (replicate room unwritten) ≡ []
  no_blank = let e : room - room ≡ 0 = omega arith in drop-blank room room unwritten ∙ ap (λ (k : ℕ). replicate k unwritten) e

run_decides : (σ : State) (s q w s' out : List ℕ) (room : ℕ) (t : Told) {r : Bool} → store_bytes ≤ length (take store_bytes s) → Holds (take store_bytes s) σ
    → RanIn store_bytes room s q (replicate room unwritten) t s' out → Decides (CaseAsWritten w t out) r → Decides (Accepts (call (reads σ) q room) w) r
run_decides σ s q w s' out room t h k d c =
    let e = d.called in
    let known : e.store ≡ reads σ = reads-once (take store_bytes s) e.store (reads σ) e.store_is (h, k) in
    let blank = replicate room unwritten in
    let l : Follows (call (reads σ) q (length (take room blank))) (ran_says d.ran) (take store_bytes s) d.part (take room blank) d.replies =
    subst (λ (x : Reads). Follows (call x q (length (take room blank))) (ran_says d.ran) (take store_bytes s) d.part (take room blank) d.replies)
    known e.leaves in
    let m : Follows (call (reads σ) q room) (ran_says d.ran) (take store_bytes s) d.part blank d.replies =
    rw (all-blank room, length-replicate room unwritten) at l in
    answer_decides (call (reads σ) q room) d.ran t (take store_bytes s) d.part d.replies out w room m d.told
    (d.out ∙ ap (λ (x : List ℕ). d.replies ++ x) (no_blank room) ∙ append-nil d.replies) c

-- ---- the settings in front, and the creation that they ask for

module _ (q w : List ℕ) (room : ℕ) where
  asked_as : {x : Asked} {r : Bool} → x ≡ settings_of q → Decides (Accepts (on_asked x (drop settings_bytes q) room) w) r → Decides (Accepted q room w) r
  asked_as {x} {r} e d =
      decides_map (λ a. record { state = a.state; is = a.is }) (λ a. record { state = a.state; is = a.is })
      (subst (λ (y : Asked). Decides (Accepts (on_asked y (drop settings_bytes q) room) w) r) e d)

  none-asked : settings_of q ≡ no_settings → Decides (Accepted q room w) false
  none-asked e = asked_as (sym e) (not-accepted (refused 9 0) w (refused-not 9 0) refl)

  pub case_short : length q < settings_bytes → Decides (Accepted q room w) false
  unfolding settings_of
  case_short h = none-asked (rw (lt-leb settings_bytes (length q) h) refl)

module _ (store : List ℕ) (settings : Settings) (t : Told) (s : List ℕ) (long : store_bytes ≤ length store) (c : CreatedIn store_bytes settings store t s) where
  abbrev verdict : Verdict State
  verdict = create settings.capacity settings.small_ratio settings.ghost_ratio store_bytes

  lent : length (take store_bytes store) ≡ store_bytes
  lent = rw (length-take store_bytes store) (omega arith)

  left : Follows verdict (created_says c.created) (take store_bytes store) c.part [] []
  left = rw lent at c.called.leaves

  number_as : t.number ≡ (told_of (created_says c.created)).number
  number_as = ap (λ (x : Told). x.number) c.told

  not_made : (q w : List ℕ) (room : ℕ) → (t.number ≡ 0 → ⊥) → Decides (Accepts (on_created verdict q room) w) false
  not_made q w room n =
      not-accepted (on_created verdict q room) w
      (unmade verdict c.created (take store_bytes store) c.part left (λ z. n (number_as ∙ z)) q room) refl

  was-made : (q w : List ℕ) (room : ℕ) {r : Bool} → t.number ≡ 0 → CaseRun q w s room r → Decides (Accepts (on_created verdict q room) w) r
  was-made q w room n d =
      let u = made_of verdict c.created (take store_bytes store) c.part left (sym number_as ∙ n) in
      let l : length c.part ≡ store_bytes = u.settled.same_length ∙ lent in
      let p : take store_bytes s ≡ c.part = ap (λ (x : List ℕ). take store_bytes x) c.store ∙ take_at c.part (drop store_bytes store) store_bytes l in
      rw u.is
      (run_decides u.state s q w d.store' d.out room d.told (rw p (omega arith)) (rw p u.settled.holds) d.ran d.says)

module _ (q w store : List ℕ) (room : ℕ) {read : Option Settings} {settings : Settings} {t : Told} {s : List ℕ} (long : store_bytes ≤ length store)
    (e : read ≡ Some settings) (f : asked_of read ≡ settings_of q) (c : CreatedIn store_bytes settings store t s) where
  pub case_refused : (t.number ≡ 0 → ⊥) → Decides (Accepted q room w) false
  case_refused n = asked_as q w room (sym (ap asked_of e) ∙ f) (not_made store settings t s long c (drop settings_bytes q) w room n)

  pub case_made : {r : Bool} → t.number ≡ 0 → CaseRun (take (length q - settings_bytes) (drop settings_bytes q)) w s room r → Decides (Accepted q room w) r
  case_made {r} n d =
      let rest = take_all (length q - settings_bytes) (drop settings_bytes q) (simp length-drop (omega arith)) in
      asked_as q w room (sym (ap asked_of e) ∙ f)
      (was-made store settings t s long c (drop settings_bytes q) w room n (subst (λ (x : List ℕ). CaseRun x w s room r) rest d))
