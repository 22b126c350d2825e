-- The laws of a run of bytes written into a list.
-- Assumes nothing.
use Prim.Native.Nat.{ℕ, zero, suc, ◌+◌, ◌/◌, ◌%◌, ◌≤◌}
use native.Mathlib.Omega.{arith}
use native.Mathlib.Numerals.{add-one}
use native.Mathlib.Nat.{zero-add, add-zero, add-suc, suc-add}
use mathlib.Core.Path.{◌≡◌, refl, sym, ap, ◌∙◌}
use mathlib.Core.List.{List, [], ◌∷◌, ◌++◌, append_assoc, append-nil}
use lib.ListN.{length, get_or, take, drop, set, length-append, take-append-drop}
use lib.Seq.{sets, sets-eq, length-sets, length-take-le, take_at, drop_at, drop-drop}
use Rattle.cells.specs.Cells.{put_le}
use Rattle.rules.specs.Bytes.{bytes_of, encode}
use Rattle.rules.proofs.TripLaws.{bytes-length}
use Rattle.rules.proofs.RoomLaws.{size, encode-size}
use Rattle.wire.specs.declared.Reply.{Reply as Reply·}
use Rattle.wire.specs.Wire.{splice, Wrote, told as told·}

sets_append : (a b s : List ℕ) (at : ℕ) → sets (sets s at a) (at + length a) b ≡ sets s at (a ++ b)
sets_append [] b s at = rw (add-zero at)
sets_append (x ∷ a) b s at = rw (add-suc at (length a), ← suc-add at (length a)) (sets_append a b (set s at x) (suc at))

-- stores one after the other make a splice
pub splice_sets : (s : List ℕ) (at : ℕ) (bs : List ℕ) → at + length bs ≤ length s → splice s at bs ≡ sets s at bs
unfolding splice
splice_sets s at bs h = sym (sets-eq bs s at h)

pub splice-length : (s : List ℕ) (at : ℕ) (bs : List ℕ) → at + length bs ≤ length s → length (splice s at bs) ≡ length s
splice-length s at bs h = rw (splice_sets s at bs h) (length-sets s at bs)

pub splice-splice : (s : List ℕ) (at : ℕ) (a b : List ℕ) → at + length a + length b ≤ length s
    → splice (splice s at a) (at + length a) b ≡ splice s at (a ++ b)
splice-splice s at a b h =
    let both : at + length (a ++ b) ≤ length s = rw length-append (omega arith) in
    let first : at + length a ≤ length s = omega arith in
    let second : at + length a + length b ≤ length (splice s at a) = rw (splice-length s at a first) h in
    rw (splice_sets (splice s at a) (at + length a) b second, splice_sets s at a first, splice_sets s at (a ++ b) both) (sets_append a b s at)

-- a number and a mark
put_sets : (w : ℕ) (s : List ℕ) (at v : ℕ) → put_le w s at v ≡ sets s at (bytes_of w v)
unfolding put_le bytes_of
put_sets zero s at v = refl
put_sets (suc w) s at v = rw (add-one at) (put_sets w (set s at (v % 256)) (suc at) (v / 256))

pub put-splice : (w : ℕ) (s : List ℕ) (at v : ℕ) → at + w ≤ length s → put_le w s at v ≡ splice s at (bytes_of w v)
put-splice w s at v h = put_sets w s at v ∙ sym (splice_sets s at (bytes_of w v) (rw (bytes-length w v) h))

pub mark-splice : (m s : List ℕ) (at : ℕ) → length m ≡ 2 → at + 2 ≤ length s → set (set s at (get_or m 0 0)) (at + 1) (get_or m 1 0) ≡ splice s at m
mark-splice [] s at e h = absurd (omega arith)
mark-splice (a ∷ []) s at e h = absurd (omega arith)
mark-splice (a ∷ b ∷ []) s at e h = rw (add-one at, splice_sets s at (a ∷ b ∷ []) h)
mark-splice (a ∷ b ∷ d ∷ m) s at e h = absurd (omega arith)

module _ (s : List ℕ) (at : ℕ) (bs : List ℕ) (h : at + length bs ≤ length s) where
  head-length : length (take at s ++ bs) ≡ at + length bs
  head-length = rw (length-append, length-take-le at s (omega arith))

  pub take-splice : take (at + length bs) (splice s at bs) ≡ take at s ++ bs
  unfolding splice
  take-splice = take_at (take at s ++ bs) (drop (at + length bs) s) (at + length bs) head-length

  pub drop-splice : drop (at + length bs) (splice s at bs) ≡ drop (at + length bs) s
  unfolding splice
  drop-splice = drop_at (take at s ++ bs) (drop (at + length bs) s) (at + length bs) head-length

-- ---- one run after the other

pub wrote-wrote : {s s₁ s₂ a b : List ℕ} {at m r : ℕ} → Wrote s at a s₁ m → Wrote s₁ m b s₂ r
    → at + length a + length b ≤ length s → Wrote s at (a ++ b) s₂ r
wrote-wrote {s} {s₁} {s₂} {a} {b} {at} p q h =
    record { bytes = rw (q.bytes, p.bytes, p.end) (splice-splice s at a b h); end = rw length-append (omega arith) }

pub wrote-length : {s s₁ a : List ℕ} {at m : ℕ} → Wrote s at a s₁ m → at + length a ≤ length s → length s₁ ≡ length s
wrote-length {s} {s₁} {a} {at} p h = ap length p.bytes ∙ splice-length s at a h

-- ---- the writers: a mark, a number, a mark and a number, a mark and two

pub wrote-mark : {m s : List ℕ} {at : ℕ} → length m ≡ 2 → at + 2 ≤ length s
    → Wrote s at m (set (set s at (get_or m 0 0)) (at + 1) (get_or m 1 0)) (at + 2)
wrote-mark {m} {s} {at} e h = record { bytes = mark-splice m s at e h; end = omega arith }

pub wrote-number : (v : ℕ) {s s' : List ℕ} {at : ℕ} → at + 8 ≤ length s → s' ≡ put_le 8 s at v → Wrote s at (bytes_of 8 v) s' (at + 8)
wrote-number v {s} {at = at} h e = record { bytes = e ∙ put-splice 8 s at v h; end = omega (arith, bytes-length 8 v) }

module _ (m : List ℕ) (e : length m ≡ 2) (k : ℕ) {s s₁ : List ℕ} {at r₁ : ℕ} where
  pub wrote_one : at + 10 ≤ length s → Wrote s at m s₁ r₁ → {s₂ : List ℕ} {r : ℕ} → Wrote s₁ r₁ (bytes_of 8 k) s₂ r → Wrote s at (m ++ bytes_of 8 k) s₂ r
  wrote_one h p q = wrote-wrote p q (omega (arith, bytes-length 8 k))

  module _ (h : at + 18 ≤ length s) (p : Wrote s at (m ++ bytes_of 8 k) s₁ r₁) where
    ten : length (m ++ bytes_of 8 k) ≡ 10
    ten = rw length-append (omega (arith, bytes-length 8 k))

    pub one-fits : length s₁ ≡ length s → r₁ + 8 ≤ length s₁
    one-fits l = omega (arith, ten, p.end)

    pub wrote-two : (v : ℕ) {s₂ : List ℕ} {r : ℕ} → Wrote s₁ r₁ (bytes_of 8 v) s₂ r → Wrote s at (m ++ bytes_of 8 k ++ bytes_of 8 v) s₂ r
    wrote-two v q = wrote-wrote p q (omega (arith, ten, bytes-length 8 v))

-- ---- replies

-- a reply that is known has its size
pub reply_size : {r q : Reply·} → r ≡ q → length (encode (told· r)) ≡ size (told· q)
reply_size {q = q} e = rw e (encode-size (told· q))

pub wrote_reply : {s s' : List ℕ} {at n : ℕ} {r q : Reply·} → r ≡ q → Wrote s at (encode (told· q)) s' n → Wrote s at (encode (told· r)) s' n
wrote_reply e w = rw e w

-- ---- a buffer that is filled from the front

-- of what whole will be, all but rest stands in the first `out` bytes of s; the others are as in s₀
pub record Partly (s₀ s : List ℕ) (out : ℕ) (rest whole : List ℕ) : Type 0 where
  pub within : out ≤ length s
  pub same : length s ≡ length s₀
  pub untouched : drop out s ≡ drop out s₀
  pub told : take out s ++ rest ≡ whole

pub partly_more : {s₀ s : List ℕ} {out : ℕ} {rest whole : List ℕ} (bs : List ℕ) → out + length bs ≤ length s
    → Partly s₀ s out (bs ++ rest) whole → Partly s₀ (splice s out bs) (out + length bs) rest whole
partly_more {s₀} {s} {out} {rest} {whole} bs h p =
    record {
      within = rw (splice-length s out bs h) h;
      same = splice-length s out bs h ∙ p.same;
      untouched = drop-splice s out bs h ∙ sym (drop-drop (length bs) out s) ∙ ap (drop (length bs)) p.untouched ∙ drop-drop (length bs) out s₀;
      told = rw (take-splice s out bs h, append_assoc) p.told;
    }

pub partly_all : {s₀ s : List ℕ} {out : ℕ} {whole : List ℕ} → Partly s₀ s out [] whole → (s ≡ splice s₀ 0 whole) × (out ≡ length whole)
unfolding splice
partly_all {s₀} {s} {out} {whole} p =
    let all : take out s ≡ whole = sym (append-nil (take out s)) ∙ p.told in
    let n : out ≡ length whole = sym (length-take-le out s p.within) ∙ ap length all in
    (sym (take-append-drop out s) ∙ rw (all, p.untouched, zero-add (length whole), ← n), n)
