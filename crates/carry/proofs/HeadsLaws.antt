-- The laws of the record that was cut: the buffer is filled with its bytes, and what is read there says what the bytes kept begin.
-- Assumes nothing.
use mathlib.Core.Path.{◌≡◌, refl, sym, ap, ap₂, subst, ◌∙◌}
use mathlib.Core.Bool.{true, false, true≢false}
use mathlib.Core.List.{List, [], ◌∷◌, ◌++◌, append_assoc, append-nil}
use Prim.Native.Nat.{ℕ, ◌+◌, ◌-◌, ◌≤◌, ◌<◌, min}
use native.Mathlib.Nat.{add-zero}
use native.Mathlib.Omega.{arith}
use Rattle.std.specs.Prelude.{Result, Ok, Err}
use lib.Dec.{eqb}
use borrow.Author.Tests.{eq-eqb}
use lib.ListN.{length, take, drop, length-append, length-drop, drop_of_length-le}
use lib.Seq.{take_all, length-take-le, take-take, take_at, take-append-add, take-length, drop_at}
use Rattle.rules.specs.Bytes.{longest_record, ask, strange, short, spot_at, reading_at, unknown_at, ends, walk, parse_from, parse}
use Rattle.rules.specs.Carry.{most_kept, waits, left_by}
use Rattle.rules.specs.Records.{Request}
use Rattle.rules.proofs.ParseLaws.{read_goes}
use Rattle.rules.proofs.FeedLaws.{end-end}
use Rattle.rules.proofs.HeadLaws.{front_read, short-few, short-parse, strange-parse, past_kept, past_within, join_requests, join_left}
use Rattle.wire.specs.declared.Stop.{Stop}
use Rattle.wire.specs.declared.Stop.TheVariants.{Whole as All, Unknown as Strange, Cut as Short}
use Rattle.wire.specs.declared.Request.{Request as Request·}
use Rattle.wire.specs.Wire.{asked, meaning}
use Rattle.carry.specs.declared.Head.TheVariants.{Whole, Cut, Unknown}
use Rattle.carry.specs.Heads.{Completes, StillCut, HeadJoins, HeadFilled}

-- ---- the buffer

-- one list copied to the front, and a second one behind it
overlaid : (k p head : List ℕ) (n : ℕ) → length k ≡ n → {h₁ part h₂ : List ℕ} → h₁ ≡ take (length k) k ++ drop (length k) head
    → part ≡ take (length p) p ++ drop (length p) (take (length h₁ - n) (drop n h₁)) → h₂ ≡ take n h₁ ++ (part ++ drop (length h₁ - n) (drop n h₁))
    → h₂ ≡ k ++ p ++ drop (length p) (drop n head)
overlaid k p head n l {h₁} {part} {h₂} e f g =
    let first : h₁ ≡ k ++ drop n head = e ∙ ap₂ (λ (x y : List ℕ). x ++ y) (take-length k) (ap (λ (i : ℕ). drop i head) l) in
    let front : take n h₁ ≡ k = ap (take n) first ∙ take_at k (drop n head) n l in
    let back : drop n h₁ ≡ drop n head = ap (drop n) first ∙ drop_at k (drop n head) n l in
    let lent : take (length h₁ - n) (drop n h₁) ≡ drop n head = take_all (length h₁ - n) (drop n h₁) (omega (arith, length-drop n h₁)) ∙ back in
    let none : drop (length h₁ - n) (drop n h₁) ≡ [] = drop_of_length-le (drop n h₁) {i = length h₁ - n} (omega (arith, length-drop n h₁)) in
    let d : List ℕ = drop (length p) (drop n head) in
    let second : part ≡ p ++ d = f ∙ ap₂ (λ (x y : List ℕ). x ++ drop (length p) y) (take-length p) lent in
    g ∙ ap₂ (λ (x y : List ℕ). x ++ (part ++ y)) front none ∙ ap (λ (x : List ℕ). k ++ x) (append-nil part ∙ second) ∙ sym (append_assoc k p d)

-- the bytes kept, and as many of the piece as there is room for
module _ (k piece head : List ℕ) (m : ℕ) (few : length k ≤ most_kept) (room : length head ≡ longest_record)
    (least : m ≡ min (length piece) (longest_record - length k)) where
  abbrev p : List ℕ
  p = take m piece

  -- how many bytes the second part has, and both
  p-length : length p ≡ m
  p-length = length-take-le m piece (omega arith)

  both : length (k ++ p) ≡ length k + m
  both = omega (arith, length-append k p, p-length)

  -- with these in front the buffer is filled
  fills : {h : List ℕ} → h ≡ k ++ p ++ drop (length p) (drop (length k) head) → HeadFilled k piece h (length k + m)
  fills {h} e =
      let d : List ℕ = drop (length p) (drop (length k) head) in
      let all = length-append k piece in
      record {
        long = omega (arith, ap length e, length-append (k ++ p) d, both, length-drop (length p) (drop (length k) head), length-drop (length k) head, p-length);
        fits = omega arith;
        begun = omega arith;
        within = omega arith;
        full = λ h. omega arith;
        bytes = ap (take (length k + m)) e ∙ take_at (k ++ p) d (length k + m) both ∙ sym (take-append-add k piece m);
      }

  -- two copies fill it
  pub filled : {h part : List ℕ} → h ≡ take (length k) k ++ drop (length k) head
      → part ≡ take (length p) p ++ drop (length p) (take (length h - length k) (drop (length k) h))
      → HeadFilled k piece (take (length k) h ++ (part ++ drop (length h - length k) (drop (length k) h))) (length k + m)
  filled e f = fills (overlaid k p head (length k) refl e f refl)

-- ---- the answers

module _ {kept piece head : List ℕ} where
  -- each answer says one thing
  whole-joins : (n : ℕ) → Completes kept piece head n → HeadJoins kept piece head (Whole n)
  whole-joins n c = record {
    whole = λ m e. let q : n ≡ m = cc in subst (Completes kept piece head) q c;
    cut = λ m e. let z : ◌≡◌ {A = ℕ} 0 1 = cc in absurd (omega arith);
    unknown = λ e. let z : ◌≡◌ {A = ℕ} 0 1 = cc in absurd (omega arith);
  }

  cut-joins : (n : ℕ) → StillCut kept piece head n → HeadJoins kept piece head (Cut n)
  cut-joins n c = record {
    whole = λ m e. let z : ◌≡◌ {A = ℕ} 0 1 = cc in absurd (omega arith);
    cut = λ m e. let q : n ≡ m = cc in subst (StillCut kept piece head) q c;
    unknown = λ e. let z : ◌≡◌ {A = ℕ} 0 1 = cc in absurd (omega arith);
  }

  unknown-joins : parse (kept ++ piece) ≡ ends (unknown_at 0) → HeadJoins kept piece head Unknown
  unknown-joins c = record {
    whole = λ m e. let z : ◌≡◌ {A = ℕ} 0 1 = cc in absurd (omega arith);
    cut = λ m e. let z : ◌≡◌ {A = ℕ} 0 1 = cc in absurd (omega arith);
    unknown = λ e. c;
  }

-- no byte was kept: nothing is to be completed
none-completes : (piece head : List ℕ) → Completes [] piece head 0
unfolding parse parse_from walk
none-completes piece head = record {
  fits = omega arith;
  begun = omega arith;
  within = omega arith;
  requests = refl;
  left = λ o. ap (λ (n : ℕ). left_by n piece (parse piece).end) (sym (add-zero o));
}

-- the answer then
pub joins-none : (kept piece head : List ℕ) → length kept ≡ 0 → HeadJoins kept piece head (Whole 0)
joins-none [] piece head e = whole-joins 0 (none-completes piece head)
joins-none (b ∷ kept) piece head e = absurd (omega arith)

module _ {kept piece head : List ℕ} {n : ℕ} (f : HeadFilled kept piece head n)
    (r : Result (Request· × ℕ) Stop) (e : meaning r ≡ reading_at (take n head) 0) where
  -- what was read of the first bytes of all
  front : reading_at (take n (kept ++ piece)) 0 ≡ meaning r
  front = sym (e ∙ ap (λ (l : List ℕ). reading_at l 0) f.bytes)

  -- and how many they are
  front_length : length (take n (kept ++ piece)) ≡ n
  front_length = length-take-le n (kept ++ piece) f.within

  -- a whole record there is the one that the bytes kept begin
  completes : waits (spot_at kept 0) ≡ true → (q : Request) (after : ℕ) → reading_at (take n (kept ++ piece)) 0 ≡ ask q after → Completes kept piece head after
  completes w q after a =
      let all : reading_at (kept ++ piece) 0 ≡ ask q after = front_read n (kept ++ piece) (ask q after) a tt in
      let past = past_kept kept piece w q after all in
      let inside : after ≤ n = omega (arith, read_goes (take n (kept ++ piece)) 0 q after a, front_length) in
      let same : take after (kept ++ piece) ≡ take after head =
      sym (take-take after n (kept ++ piece) inside) ∙ ap (take after) (sym f.bytes) ∙ take-take after n head inside in
      record {
        fits = omega (arith, f.fits, f.long);
        begun = omega arith;
        within = omega (arith, past_within kept piece w q after all);
        requests = join_requests kept piece w q after all ∙ ap (λ (l : List ℕ). (parse l).requests ++ (parse_from piece (after - length kept)).requests) same;
        left = join_left kept piece w q after all;
      }

  -- the four answers, by what was read
  pub joins-whole : waits (spot_at kept 0) ≡ true → {q : Request·} {after : ℕ} → r ≡ Ok (q, after) → HeadJoins kept piece head (Whole after)
  joins-whole w {q} {after} g = whole-joins after (completes w (asked q) after (front ∙ ap meaning g))

  pub joins-cut : r ≡ Err Short → HeadJoins kept piece head (Cut n)
  joins-cut g =
      let a : reading_at (take n (kept ++ piece)) 0 ≡ short = front ∙ ap meaning g in
      let few : n < longest_record = omega (arith, short-few (take n (kept ++ piece)) a, front_length) in
      let all : take n (kept ++ piece) ≡ kept ++ piece = take_all n (kept ++ piece) (omega (arith, f.full few)) in
      cut-joins n (record {
        fits = omega (arith, f.fits, f.long);
        few = omega arith;
        all = f.bytes ∙ all;
        cut = short-parse (kept ++ piece) (ap (λ (l : List ℕ). reading_at l 0) (sym all) ∙ a);
      })

  pub joins-unknown : r ≡ Err Strange → HeadJoins kept piece head Unknown
  joins-unknown g = unknown-joins (strange-parse (kept ++ piece) (front_read n (kept ++ piece) strange (front ∙ ap meaning g) tt))

  -- nothing is read only where nothing was kept
  none_kept : r ≡ Err All → length kept ≡ 0
  none_kept g = omega (arith, end-end (take n (kept ++ piece)) 0 (front ∙ ap meaning g), front_length, f.begun)

  -- and where bytes were kept there is something to read
  pub joins-end : eqb (length kept) 0 ≡ false → r ≡ Err All → HeadJoins kept piece head (Whole 0)
  joins-end some g = absurd (true≢false (sym (eq-eqb (length kept) 0 (none_kept g)) ∙ some))
