-- The laws of the program's output: the record of a refusal, what a call leaves, and the settings before it.
-- Assumes nothing.
use mathlib.Core.Path.{◌≡◌, refl, sym, ap, subst, ◌∙◌}
use mathlib.Core.Bool.{Bool, true, false, cond, ◌&&◌}
use mathlib.Core.List.{List, [], ◌++◌}
use Prim.Native.Nat.{ℕ, ◌+◌, ◌-◌, ◌≤◌}
use native.Mathlib.Omega.{arith}
use native.Mathlib.Nat.{zero-add}
use lib.Dec.{leb, leb→le}
use lib.ListN.{length, get_or, take, drop, length-drop}
use lib.Seq.{take_all}
use Rattle.std.specs.Prelude.{Option, Some, Result, Ok, Err}
use Rattle.cells.specs.Cells.{put_le}
use Rattle.rules.specs.State.{State}
use Rattle.rules.specs.Bytes.{mark, marks, bytes_of}
use Rattle.rules.specs.Sizing.{Asked, asks, no_settings, settings_bytes, settings_at, settings_of}
use Rattle.rules.specs.Refusals.{store_bytes}
use Rattle.rules.specs.Verdict.{Verdict, refused, done, create, Reads, reads, call, on_created, on_asked}
use Rattle.rules.proofs.TripLaws.{bytes-length}
use Rattle.sizing.specs.declared.Settings.{Settings}
use Rattle.rules.specs.declared.Turned.{Turned}
use Rattle.rules.specs.Refusals.{number_of, detail_of}
use Rattle.sizing.specs.Answers.{asks_of, asked_of}
use Rattle.wire.specs.Wire.{splice, Wrote}
use Rattle.wire.proofs.SpliceLaws.{put-splice, wrote-wrote, wrote-length}
use Rattle.s3_fifo.specs.Calls.{Said, gave, turned, created_says, ran_says, Settled, Follows, Created, Called}
use Rattle.s3_fifo.proofs.OnceLaws.{reads-once}
use Rattle.replay.specs.Output.{no_record, no_bytes, printed, output_for, ReplyLeaves, ReplyAs}

-- ---- the record of a refusal

-- one number more
number-wrote : {p p₁ p₂ a : List ℕ} {m : ℕ} (w n : ℕ) → Wrote p 0 a p₁ m → p₂ ≡ put_le w p₁ m n → m + w ≤ length p → Wrote p 0 (a ++ bytes_of w n) p₂ (m + w)
number-wrote {p} {p₁} {p₂} {a} {m} w n x e h =
    let l = wrote-length x (omega (arith, x.end)) in
    let y : Wrote p₁ m (bytes_of w n) p₂ (m + w) = record {
      bytes = e ∙ put-splice w p₁ m n (omega arith);
      end = ap (λ (k : ℕ). m + k) (sym (bytes-length w n));
    } in
    wrote-wrote x y (omega (arith, x.end, bytes-length w n))

-- bytes in front
front-wrote : {p p₁ : List ℕ} (m : List ℕ) → p₁ ≡ m ++ drop (length m) p → Wrote p 0 m p₁ (length m)
unfolding splice
front-wrote {p} m e = record { bytes = e ∙ ap (λ (k : ℕ). m ++ drop k p) (sym (zero-add (length m))); end = sym (zero-add (length m)) }

pub refusal_wrote : {p p₁ p₂ p₃ : List ℕ} (n d : ℕ) → no_bytes ≤ length p → p₁ ≡ mark 78 79 ++ drop 2 p → p₂ ≡ put_le 1 p₁ 2 n → p₃ ≡ put_le 8 p₂ 3 d
    → Wrote p 0 (no_record n d) p₃ 11
unfolding bytes_of
refusal_wrote {p} n d h e₁ e₂ e₃ = number-wrote 8 d (number-wrote 1 n (front-wrote (mark 78 79) e₁) e₂ (omega arith)) e₃ h

-- ---- what an answer comes to

-- the record of a refusal, where nothing was written before
leaves-refused : (v : Verdict State) (n d : ℕ) (p p' p'' : List ℕ) (r : ℕ) → ReplyLeaves v (turned n d) p p' → Wrote p' 0 (no_record n d) p'' r
    → Wrote p 0 (printed v) p'' r
leaves-refused (refused m e) n d p p' p'' r l w =
    let h = l.0 in let a : n ≡ m = cc in let b : d ≡ e = cc in
    rw (← a, ← b) (subst (λ (x : List ℕ). Wrote x 0 (no_record n d) p'' r) l.1 w)
leaves-refused (done σ bs) n d p p' p'' r l w = let h = l.0 in let z : ◌≡◌ {A = ℕ} 0 1 = cc in absurd (omega arith)

-- and replies as they stand
leaves-gave : (v : Verdict State) (n : ℕ) (p p' : List ℕ) → ReplyLeaves v (gave n) p p' → Wrote p 0 (printed v) p' n
unfolding splice
leaves-gave (refused m e) n p p' l = let h = l.0 in let z : ◌≡◌ {A = ℕ} 0 1 = cc in absurd (omega arith)
leaves-gave (done σ bs) n p p' l =
    let h = l.0 in let e : n ≡ length bs = cc in
    record { bytes = l.1 ∙ ap (λ (k : ℕ). bs ++ drop k p) (sym (zero-add (length bs))); end = e ∙ sym (zero-add (length bs)) }

abbrev verdict_on : List ℕ → List ℕ → Verdict State
verdict_on s p = on_asked (settings_of s) (drop settings_bytes s) (length p)

module _ (s p : List ℕ) {a : Result ℕ Turned} {p' : List ℕ} (l : ReplyAs (verdict_on s p) (ran_says a) p p') where
  as-said : {b : Result ℕ Turned} → a ≡ b → ReplyAs (verdict_on s p) (ran_says b) p p'
  as-said e = subst (λ (x : Result ℕ Turned). ReplyAs (verdict_on s p) (ran_says x) p p') e l

  pub reply_refused : {t : Turned} {p'' : List ℕ} {r : ℕ} → a ≡ Err t → Wrote p' 0 (no_record (number_of t) (detail_of t)) p'' r
      → Wrote p 0 (output_for s (length p)) p'' r
  unfolding output_for
  reply_refused {t} {p''} {r} e w = leaves-refused (verdict_on s p) (number_of t) (detail_of t) p p' p'' r (as-said e).leaves w

  pub reply_gave : {n : ℕ} → a ≡ Ok n → Wrote p 0 (output_for s (length p)) p' n
  unfolding output_for
  reply_gave {n} e = leaves-gave (verdict_on s p) n p p' (as-said e).leaves

-- ---- what a creation leaves

-- the state that was set up, and that the store holds it
record MadeOf (v : Verdict State) (s s' : List ℕ) : Type 0 where
  state : State
  nothing : List ℕ
  is : v ≡ done state nothing
  settled : Settled s s' state

gave-done : (v : Verdict State) (n : ℕ) (s s' p p' : List ℕ) → Follows v (gave n) s s' p p' → MadeOf v s s'
gave-done (refused m e) n s s' p p' l = let h = l.0 in let z : ◌≡◌ {A = ℕ} 0 1 = cc in absurd (omega arith)
gave-done (done σ bs) n s s' p p' l = record { state = σ; nothing = bs; is = refl; settled = l.1 }

-- the replies alone
leaves-as : (v : Verdict State) (a : Said) (s s' p p' : List ℕ) → Follows v a s s' p p' → ReplyLeaves v a p p'
leaves-as (refused n d) a s s' p p' l = (l.0, l.2)
leaves-as (done σ bs) a s s' p p' l = (l.0, l.2)

module _ {settings : Settings} {s s' : List ℕ} {created : Result Unit Turned} (long : store_bytes ≡ length s) (c : Created settings s created s') where
  abbrev creation : Verdict State
  creation = create settings.capacity settings.small_ratio settings.ghost_ratio store_bytes

  left_as : (q : Result Unit Turned) → created ≡ q → Follows creation (created_says q) s s' [] []
  left_as q e = rw (← long, e) at c.leaves

  output_is : {v : Verdict State} (q : List ℕ) {p p' : List ℕ} {a : Said} → creation ≡ v → ReplyAs (on_created v q (length p)) a p p'
      → ReplyAs (on_asked (asks_of settings) q (length p)) a p p'
  output_is {v} q {p} {p'} {a} e l = subst (λ (x : Verdict State). ReplyAs (on_created x q (length p)) a p p') (sym e) l

  pub run-made : {x : Unit} {s'' q p p' : List ℕ} {ran : Result ℕ Turned} → created ≡ Ok x → Called s' q p ran s'' p'
      → ReplyAs (on_asked (asks_of settings) q (length p)) (ran_says ran) p p'
  run-made {x} {s''} {q} {p} {p'} {ran} e d =
      let u = gave-done creation 0 s s' [] [] (left_as (Ok x) e) in
      let known : d.store ≡ reads u.state =
      reads-once s' d.store (reads u.state) d.store_is (omega (arith, long, u.settled.same_length), u.settled.holds) in
      let l : Follows (call (reads u.state) q (length p)) (ran_says ran) s' s'' p p' =
      subst (λ (y : Reads). Follows (call y q (length p)) (ran_says ran) s' s'' p p') known d.leaves in
      output_is q u.is (record { leaves = leaves-as (call (reads u.state) q (length p)) (ran_says ran) s' s'' p p' l })

-- ---- the settings in front

abbrev Asks : Asked → Type 0
Asks (asks capacity small ghost) = Unit {0}
Asks no_settings = ⊥

long-by : (s : List ℕ) (a b : Bool) → leb settings_bytes (length s) ≡ a → (x : Asked) → Asks (cond (a && b) x no_settings) → settings_bytes ≤ length s
long-by s true b e x h = leb→le settings_bytes (length s) (rw e tt)
long-by s false b e x h = absurd h

asks-long : (s : List ℕ) (x : Asked) → settings_of s ≡ x → Asks x → settings_bytes ≤ length s
unfolding settings_of
asks-long s x e h =
    long-by s (leb settings_bytes (length s)) (marks (get_or s 0 0) (get_or s 1 0) (mark 67 70)) refl (settings_at s 2) (subst Asks (sym e) h)

module _ (s : List ℕ) {read : Option Settings} (e : asked_of read ≡ settings_of s) where
  module _ {settings : Settings} (h : read ≡ Some settings) where
    asked_is : asks_of settings ≡ settings_of s
    asked_is = sym (ap asked_of h) ∙ e

    pub asked-long : settings_bytes ≤ length s
    asked-long = asks-long s (asks_of settings) (sym asked_is) tt

    rest : take (length s - settings_bytes) (drop settings_bytes s) ≡ drop settings_bytes s
    rest = take_all (length s - settings_bytes) (drop settings_bytes s) (simp length-drop (omega arith))

    pub reply_asked : {p p' : List ℕ} {a : Said}
        → ReplyAs (on_asked (asks_of settings) (take (length s - settings_bytes) (drop settings_bytes s)) (length p)) a p p'
        → ReplyAs (on_asked (settings_of s) (drop settings_bytes s) (length p)) a p p'
    reply_asked {p} {p'} {a} l =
        let l' = subst (λ (q : List ℕ). ReplyAs (on_asked (asks_of settings) q (length p)) a p p') rest l in
        subst (λ (x : Asked). ReplyAs (on_asked x (drop settings_bytes s) (length p)) a p p') asked_is l'
