-- What the program writes is what the rules say of all its input, though it looks at no more than its first part; and it fits.
-- Assumes nothing.
use mathlib.Core.Path.{◌≡◌, refl, sym, ap, subst, ◌∙◌}
use mathlib.Core.Bool.{Bool, true, false}
use mathlib.Core.List.{List, [], ◌++◌, append-nil}
use Prim.Native.Nat.{ℕ, ◌+◌, ◌≤◌, ◌<◌}
use native.Mathlib.Decide.{dec_le}
use native.Mathlib.Omega.{arith}
use mir.Val.{Fits as Fits·}
use mir.Syntax.{w8}
use lib.Dec.{leb}
use lib.Ieee.{Float}
use lib.ListN.{length, get_or, take, drop, length-take, length-drop}
use lib.Seq.{take_all, take-append-le, get_or-take, get_or-drop}
use borrow.Author.Tests.{lt-ltb, le-leb, leb-true, leb-false}
use Rattle.std.specs.Prelude.{Option, Some, None, IfSome}
use Rattle.std.specs.Io.KnownBytes.{Consumes, IsAtEnd}
use Rattle.cells.specs.Cells.{le, Bytes}
use Rattle.cells.proofs.Laws.{le_ext}
use Rattle.rules.specs.State.{State, Sound}
use Rattle.rules.specs.Bytes.{bytes_of}
use Rattle.rules.specs.Sizing.{Asked, asks, no_settings, settings_bytes, settings_of}
use Rattle.rules.specs.Sizing.{Sized, limits, refused as misfit, sizing}
use Rattle.rules.specs.Refusals.{store_bytes, most_request_bytes}
use Rattle.rules.specs.declared.Turned.TheVariants.{LongRequests}
use Rattle.rules.specs.Verdict.{Verdict, refused, done, turned_away, on_sized, create, reads, call, FitsRoom, on_created, on_asked}
use Rattle.rules.proofs.SoundLaws.{empty-sound}
use Rattle.rules.proofs.VerdictLaws.{call_fits}
use Rattle.sizing.proofs.AcceptedLaws.{accepted-fine}
use Rattle.wire.specs.Wire.{Wrote}
use Rattle.wire.proofs.SpliceLaws.{wrote-length}
use Rattle.replay.specs.Output.{no_record, no_bytes, printed, output_for, most_input, reply_room, written_for}

-- ---- the cut does not matter

within-most : (s : List ℕ) → length s ≤ most_input → written_for s ≡ output_for s reply_room
unfolding written_for
within-most s h = ap (λ (x : List ℕ). output_for x reply_room) (take_all most_input s h)

-- two inputs that are long enough for settings ask for the same where they agree so far
module _ (s t : List ℕ) (same : (j : ℕ) → j < settings_bytes → get_or s j 0 ≡ get_or t j 0) where
  number_same : (at : ℕ) → at + 8 ≤ settings_bytes → le 8 s at ≡ le 8 t at
  number_same at h = le_ext 8 s t at (λ j a b. same j (omega arith))

  settings-same : settings_bytes ≤ length s → settings_bytes ≤ length t → settings_of s ≡ settings_of t
  unfolding settings_of
  settings-same a b =
      rw (
        le-leb settings_bytes (length s) a,
        le-leb settings_bytes (length t) b,
        same 0 (omega arith),
        same 1 (omega arith),
        number_same 2 (omega arith),
        number_same 10 (omega arith),
        number_same 18 (omega arith),
      ) refl

-- requests that are too long are refused before anything is read of them
long-call : (σ : State) (q : List ℕ) (room : ℕ) → most_request_bytes < length q → call (reads σ) q room ≡ turned_away LongRequests
unfolding call
long-call σ q room h = rw (lt-ltb most_request_bytes (length q) h) refl

module _ (q t : List ℕ) (room : ℕ) (hq : most_request_bytes < length q) (ht : most_request_bytes < length t) where
  long-created : (v : Verdict State) → on_created v q room ≡ on_created v t room
  long-created (refused n d) = refl
  long-created (done σ bs) = long-call σ q room hq ∙ sym (long-call σ t room ht)

  long-asked : (a : Asked) → on_asked a q room ≡ on_asked a t room
  long-asked no_settings = refl
  long-asked (asks capacity small ghost) = long-created (create capacity small ghost store_bytes)

beyond-most : (s : List ℕ) → most_input < length s → written_for s ≡ output_for s reply_room
unfolding written_for
beyond-most s h =
    let t = take most_input s in
    let l : length t ≡ most_input = rw (length-take most_input s) (omega arith) in
    let e = settings-same t s (λ j b. get_or-take most_input s j 0 (omega arith)) (omega arith) (omega arith) in
    ap printed
    (ap (λ (a : Asked). on_asked a (drop settings_bytes t) reply_room) e
    ∙ long-asked (drop settings_bytes t) (drop settings_bytes s) reply_room (rw (length-drop settings_bytes t) (omega arith))
    (rw (length-drop settings_bytes s) (omega arith)) (settings_of s))

cut_by : (s : List ℕ) (t : Bool) → leb (length s) most_input ≡ t → written_for s ≡ output_for s reply_room
cut_by s true e = within-most s (leb-true (length s) most_input e)
cut_by s false e = beyond-most s (leb-false (length s) most_input e)

-- the settings stand in front, and too many bytes are refused by their number alone
pub written-whole : (s : List ℕ) → written_for s ≡ output_for s reply_room
written-whole s = cut_by s (leb (length s) most_input) refl

-- ---- and it fits

-- a created state is sound
abbrev Sounds : Verdict State → Type 0
Sounds (refused n d) = Unit {0}
Sounds (done σ bs) = Sound σ

sized_sounds : (c : ℕ) (small ghost : Float) (z : Sized) → sizing c small ghost ≡ z → Sounds (on_sized store_bytes z)
sized_sounds c small ghost (misfit n d) e = tt
sized_sounds c small ghost (limits L) e = empty-sound L (accepted-fine c small ghost e)

create_sounds : (c : ℕ) (small ghost : Float) → Sounds (create c small ghost store_bytes)
unfolding create
create_sounds c small ghost = sized_sounds c small ghost (sizing c small ghost) refl

module _ (q : List ℕ) (room : ℕ) (b : Bytes q) where
  created-fits : (v : Verdict State) → Sounds v → FitsRoom room (on_created v q room)
  created-fits (refused n d) h = tt
  created-fits (done σ bs) h = call_fits σ q room b h

  asked-fits : (a : Asked) → FitsRoom room (on_asked a q room)
  asked-fits no_settings = tt
  asked-fits (asks c small ghost) = created-fits (create c small ghost store_bytes) (create_sounds c small ghost)

no_length : (n d : ℕ) → length (no_record n d) ≡ no_bytes
unfolding bytes_of
no_length n d = refl

printed-fits : (room : ℕ) (v : Verdict State) → no_bytes ≤ room → FitsRoom room v → length (printed v) ≤ room
printed-fits room (refused n d) h f = rw (no_length n d) h
printed-fits room (done σ bs) h f = f.1

output_fits : (s : List ℕ) (room : ℕ) → Bytes s → no_bytes ≤ room → length (output_for s room) ≤ room
unfolding output_for
output_fits s room b h =
    let q = drop settings_bytes s in
    printed-fits room (on_asked (settings_of s) q room) h
    (asked-fits q room (λ j. rw (get_or-drop settings_bytes s j 0) (b (settings_bytes + j))) (settings_of s))

-- replies stay within their room, and the record of a refusal has 11 bytes
pub written-fits : (s : List ℕ) → Bytes s → length (written_for s) ≤ reply_room
written-fits s b = rw (written-whole s) (output_fits s reply_room b (omega arith))

-- ---- what the code does: of what was read nothing is cut off

module _ (s p : List ℕ) {p' : List ℕ} {r : ℕ} (a : length s ≤ most_input) (c : reply_room ≡ length p) (w : Wrote p 0 (output_for s (length p)) p' r) where
  pub reply_read : Wrote p 0 (written_for s) p' r
  reply_read = rw (within-most s a) (rw (← c) at w)

  pub reply_fits : ((k : ℕ) → Fits· w8 (get_or s k 0)) → r ≤ length p'
  reply_fits f =
      let d = reply_read in
      let l = written-fits s (λ k. (f k).fits) in
      omega (arith, d.end, wrote-length d (omega arith))

-- ---- and what the reader gives beyond what was read makes no difference

beyond-read : (t ys : List ℕ) → most_input ≤ length t → written_for t ≡ written_for (t ++ ys)
unfolding written_for
beyond-read t ys h = ap (λ (x : List ℕ). output_for x reply_room) (sym (take-append-le most_input t ys h))

all_read : (t ys : List ℕ) → (length t < most_input → ys ≡ []) → Dec (most_input ≤ length t) → written_for t ≡ written_for (t ++ ys)
all_read t ys e (yes h) = beyond-read t ys h
all_read t ys e (no n) = ap written_for (sym (append-nil t) ∙ ap (λ (x : List ℕ). t ++ x) (sym (e (omega arith))))

-- t was read, and all of the input where it is short
answers_all : {p p' : List ℕ} {r : ℕ} (a b : Option (List ℕ)) (t : List ℕ) → Consumes a b t → (length t < most_input → IsAtEnd b)
    → Wrote p 0 (written_for t) p' r → IfSome a (λ xs. Wrote p 0 (written_for xs) p' r)
answers_all None b t c e w = tt
answers_all (Some xs) None t c e w = absurd c
answers_all {p} {p'} {r} (Some xs) (Some ys) t c e w =
    subst (λ (l : List ℕ). Wrote p 0 l p' r) (all_read t ys e (dec_le most_input (length t)) ∙ ap written_for (sym c)) w

-- t is the first n bytes of a buffer
pub answers_read : {p p' : List ℕ} {r : ℕ} (a b : Option (List ℕ)) (buf : List ℕ) (n : ℕ) → most_input ≡ length buf → n ≤ length buf
    → Consumes a b (take n buf) → (n < length buf → IsAtEnd b) → Wrote p 0 (written_for (take n buf)) p' r
    → IfSome a (λ xs. Wrote p 0 (written_for xs) p' r)
answers_read a b buf n l h c e w =
    let k : length (take n buf) ≡ n = rw (length-take n buf) (omega arith) in
    answers_all a b (take n buf) c (λ q. e (omega arith)) w
