-- The laws of a record that was cut and whose next bytes have come: what its first bytes say of all of it.
-- Assumes nothing.
use Prim.Native.Nat.{ℕ, ◌+◌, ◌-◌, ◌≤◌, ◌<◌}
use native.Mathlib.Omega.{arith}
use native.Mathlib.Decide.{dec_le}
use borrow.Author.Tests.{lt-leb, le-ltb}
use mathlib.Core.Path.{◌≡◌, refl, sym, ap, ap₂, ◌∙◌, subst}
use mathlib.Core.Bool.{Bool, true, false, cond}
use mathlib.Core.List.{List, [], ◌∷◌, ◌++◌}
use Rattle.std.specs.Prelude.{Option, Some, None}
use lib.Dec.{leb, ltb}
use lib.ListN.{length, get_or, take, drop, take-append-drop, length-append}
use lib.Seq.{length-take-le, get_or-take, take-append-le, drop-append-add}
use Rattle.rules.specs.declared.Kind.{Kind}
use Rattle.rules.specs.declared.Row.{Row}
use Rattle.rules.specs.Records.{Request}
use Rattle.rules.specs.Bytes.{longest_record, row, table, find, Spot, at, unknown, cut, over, within, spot_at, made}
use Rattle.rules.specs.Bytes.{Reading, ask, strange, short, end, reading, reading_at, whole, unknown_at, cut_at}
use Rattle.rules.specs.Bytes.{Parsed, ends, with, on_reading, parse_from, parse}
use Rattle.rules.specs.Carry.{waits, left_by}
use Rattle.rules.proofs.TableLaws.{find_known, row-kind, row-bytes}
use Rattle.rules.proofs.ParseLaws.{Lies, spot_lies, read_goes, read-end, parse-step}
use Rattle.rules.proofs.FeedLaws.{made-front, read-front, Firm, shift, parse-drop, left-shift}
use Rattle.rules.proofs.CouldLaws.{cut_short, cut-parse}

-- ---- a record that is whole reads the same in its own bytes

-- a row's kind, by the spot
known-row : (r : Row) (t : Bool) (k : Kind) → cond t cut (at r.kind) ≡ at k → r.kind ≡ k
known-row r true k e = let z : ◌≡◌ {A = ℕ} 0 1 = cc in absurd (omega arith)
known-row r false k e = cc

-- the row that was found is that of the kind
at_row : (s : List ℕ) (k : Kind) → spot_at s 0 ≡ at k → find (get_or s 0 0) (get_or s 1 0) table ≡ Some (row k)
unfolding spot_at
at_row s k e = pick (leb (length s) 0) (ltb (length s - 0) 2) (find (get_or s 0 0) (get_or s 1 0) table) refl e
  where
    pick : (t u : Bool) (f : Option Row) → find (get_or s 0 0) (get_or s 1 0) table ≡ f → cond t over (cond u cut (within (length s - 0) f)) ≡ at k
        → f ≡ Some (row k)
    pick true u f g e = let z : ◌≡◌ {A = ℕ} 0 1 = cc in absurd (omega arith)
    pick false true f g e = let z : ◌≡◌ {A = ℕ} 0 1 = cc in absurd (omega arith)
    pick false false None g e = let z : ◌≡◌ {A = ℕ} 0 1 = cc in absurd (omega arith)
    pick false false (Some r) g e =
        ap (λ (x : Row). Some x) (find_known (get_or s 0 0) (get_or s 1 0) r g ∙ ap row (known-row r (ltb (length s - 0) r.bytes) k e))

-- and with the row and all of its bytes that is the spot
spot_of-row : (s : List ℕ) (k : Kind) → length s ≡ (row k).bytes → find (get_or s 0 0) (get_or s 1 0) table ≡ Some (row k) → spot_at s 0 ≡ at k
unfolding spot_at
spot_of-row s k l f =
    let b = row-bytes k in
    rw (
      lt-leb (length s) 0 (omega arith),
      le-ltb (length s - 0) 2 (omega arith),
      f,
      le-ltb (length s - 0) (row k).bytes (omega arith),
      row-kind k,
    )

module _ (s : List ℕ) (k : Kind) (e : spot_at s 0 ≡ at k) where
  abbrev n : ℕ
  n = (row k).bytes

  -- its own bytes: how many, the spot, the request, the record
  own-length : length (take n s) ≡ (row k).bytes
  own-length = length-take-le n s (omega (arith, subst (Lies s 0) e (spot_lies s 0)))

  own_spot : spot_at (take n s) 0 ≡ at k
  own_spot =
      let b = row-bytes k in
      spot_of-row (take n s) k own-length (rw (get_or-take n s 0 0 (omega arith), get_or-take n s 1 0 (omega arith)) (at_row s k e))

  own-made : made (take n s) 0 k ≡ made s 0 k
  own-made = sym (made-front k (take n s) (drop n s) 0 (omega (arith, own-length))) ∙ ap (λ (l : List ℕ). made l 0 k) (take-append-drop n s)

  own_read : reading_at (take n s) 0 ≡ ask (made s 0 k) (0 + (row k).bytes)
  unfolding reading_at
  own_read = ap (reading (take n s) 0) own_spot ∙ ap (λ (q : Request). ask q (0 + (row k).bytes)) own-made

-- so of whatever was read
pub own-bytes : (s : List ℕ) (q : Request) (after : ℕ) → reading_at s 0 ≡ ask q after → reading_at (take after s) 0 ≡ ask q after
unfolding reading_at
own-bytes s q after e = go (spot_at s 0) refl e
  where
    go : (p : Spot) → spot_at s 0 ≡ p → reading s 0 p ≡ ask q after → reading_at (take after s) 0 ≡ ask q after
    go (at k) h g =
        let a : 0 + (row k).bytes ≡ after = cc in
        let b : (row k).bytes ≡ after = omega (arith, a) in
        ap (λ (m : ℕ). reading_at (take m s) 0) (sym b) ∙ own_read s k h ∙ g
    go unknown h g = let z : ◌≡◌ {A = ℕ} 0 1 = cc in absurd (omega arith)
    go cut h g = let z : ◌≡◌ {A = ℕ} 0 1 = cc in absurd (omega arith)
    go over h g = let z : ◌≡◌ {A = ℕ} 0 1 = cc in absurd (omega arith)

-- and these bytes are one request and nothing more
own-parse : (s : List ℕ) (q : Request) (after : ℕ) → reading_at s 0 ≡ ask q after → parse (take after s) ≡ record { requests = q ∷ []; end = whole }
unfolding parse
own-parse s q after e =
    let t : List ℕ = take after s in
    let l : length t ≡ after = length-take-le after s (read_goes s 0 q after e).1 in
    parse-step t 0 ∙ ap (on_reading (parse_from t) 0) (own-bytes s q after e)
    ∙ ap (with q) (parse-step t after ∙ ap (on_reading (parse_from t) after) (read-end t after (omega arith)))

-- ---- what the first bytes say

-- a record that is whole in them, or a mark that is none
pub front_read : (n : ℕ) (s : List ℕ) (r : Reading Request) → reading_at (take n s) 0 ≡ r → Firm r → reading_at s 0 ≡ r
front_read n s r e f = subst (λ (l : List ℕ). reading_at l 0 ≡ r) (take-append-drop n s) (read-front (take n s) (drop n s) 0 r e f)

-- whether what was read waits for more
abbrev pub pending : Reading Request → Bool
pending (ask q after) = false
pending strange = false
pending short = true
pending end = true

-- it is what the spot says
pub read-pending : (s : List ℕ) (r : Reading Request) → reading_at s 0 ≡ r → waits (spot_at s 0) ≡ pending r
unfolding reading_at
read-pending s r e = go (spot_at s 0) ∙ ap pending e
  where
    go : (p : Spot) → waits p ≡ pending (reading s 0 p)
    go (at k) = refl
    go unknown = refl
    go cut = refl
    go over = refl

-- a record that was read as cut is
cut_spot : (s : List ℕ) → reading_at s 0 ≡ short → spot_at s 0 ≡ cut
unfolding reading_at
cut_spot s e = go (spot_at s 0) e
  where
    go : (p : Spot) → reading s 0 p ≡ short → p ≡ cut
    go (at k) e = let z : ◌≡◌ {A = ℕ} 0 1 = cc in absurd (omega arith)
    go unknown e = let z : ◌≡◌ {A = ℕ} 0 1 = cc in absurd (omega arith)
    go cut e = refl
    go over e = let z : ◌≡◌ {A = ℕ} 0 1 = cc in absurd (omega arith)

-- a record that is cut has less than 18 bytes
pub short-few : (s : List ℕ) → reading_at s 0 ≡ short → length s < longest_record
short-few s e = cut_short s (cut_spot s e)

-- nothing else is read then, nor where a mark is none
pub short-parse : (s : List ℕ) → reading_at s 0 ≡ short → parse s ≡ ends (cut_at 0)
short-parse s e = cut-parse s (cut_spot s e)

pub strange-parse : (s : List ℕ) → reading_at s 0 ≡ strange → parse s ≡ ends (unknown_at 0)
unfolding parse
strange-parse s e = parse-step s 0 ∙ ap (on_reading (parse_from s) 0) e

-- ---- the record that the bytes kept begin is whole, with the piece behind them

module _ (kept piece : List ℕ) (w : waits (spot_at kept 0) ≡ true) (q : Request) (after : ℕ) (e : reading_at (kept ++ piece) 0 ≡ ask q after) where
  -- it has more bytes than were kept
  pub past_kept : length kept < after
  past_kept = pick (dec_le after (length kept))
    where
      not_yet : after ≤ length kept → ⊥
      not_yet h =
          let same : take after (kept ++ piece) ≡ take after kept = take-append-le after kept piece h in
          let there : reading_at kept 0 ≡ ask q after = front_read after kept (ask q after) (rw same at (own-bytes (kept ++ piece) q after e)) tt in
          let no : waits (spot_at kept 0) ≡ false = read-pending kept (ask q after) there in
          let z : ◌≡◌ {A = ℕ} 0 1 = cc in omega arith

      pick : Dec (after ≤ length kept) → length kept < after
      pick (yes h) = absurd (not_yet h)
      pick (no h) = omega arith

  -- and lies within both
  pub past_within : after ≤ length kept + length piece
  past_within = omega (arith, read_goes (kept ++ piece) 0 q after e, length-append kept piece)

  -- what the piece has behind it
  abbrev rest : List ℕ
  rest = drop (after - length kept) piece

  -- that is what all has behind it
  rest-is : drop after (kept ++ piece) ≡ rest
  rest-is =
      let m : after ≡ length kept + (after - length kept) = omega (arith, past_kept) in
      ap (λ (n : ℕ). drop n (kept ++ piece)) m ∙ drop-append-add kept piece (after - length kept)

  -- all is this request and the rest
  all-is : parse (kept ++ piece) ≡ with q (shift after (parse rest))
  unfolding parse
  all-is =
      parse-step (kept ++ piece) 0 ∙ ap (on_reading (parse_from (kept ++ piece)) 0) e
      ∙ ap (with q) (parse-drop after (kept ++ piece) ∙ ap (λ (l : List ℕ). shift after (parse l)) rest-is)

  -- the requests of all are this one, and those of the rest of the piece
  pub join_requests : (parse (kept ++ piece)).requests ≡ (parse (take after (kept ++ piece))).requests ++ (parse_from piece (after - length kept)).requests
  join_requests =
      ap (λ (p : Parsed Request). p.requests) all-is
      ∙ sym (ap₂ (λ (p r : Parsed Request). p.requests ++ r.requests) (own-parse (kept ++ piece) q after e) (parse-drop (after - length kept) piece))

  -- and what is left is what is left of the rest
  pub join_left : (o : ℕ) → left_by o (kept ++ piece) (parse (kept ++ piece)).end ≡ left_by (o + length kept) piece (parse_from piece (after - length kept)).end
  join_left o =
      let m : ℕ = after - length kept in
      let there : o + length kept + m ≡ o + after = omega (arith, past_kept) in
      ap (λ (p : Parsed Request). left_by o (kept ++ piece) p.end) all-is
      ∙ left-shift o after (kept ++ piece) rest (parse rest).end rest-is (omega (arith, past_within, length-append kept piece))
      ∙ ap (λ (n : ℕ). left_by n rest (parse rest).end) (sym there)
      ∙ sym (left-shift (o + length kept) m piece rest (parse rest).end refl (omega (arith, past_kept, past_within)))
      ∙ ap (λ (p : Parsed Request). left_by (o + length kept) piece p.end) (sym (parse-drop m piece))
