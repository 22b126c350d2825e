-- What was written as requests is read as the same requests.
-- Assumes nothing.
use Prim.Native.Nat.{ℕ, zero, suc, ◌+◌, ◌-◌, ◌/◌, ◌%◌, ◌^◌, ◌≤◌, ◌<◌}
use native.Mathlib.Omega.{arith}
use native.Mathlib.Nat.{add-zero, pow-suc, div-lt_iff_lt-mul}
use borrow.Author.Tests.{lt-leb, le-ltb}
use mathlib.Core.Path.{◌≡◌, refl, sym, ap, ap₂, ◌∙◌}
use mathlib.Core.List.{List, [], ◌∷◌, ◌++◌, append_assoc, append-nil}
use lib.ListN.{length, drop, length-append}
use lib.Seq.{drop-append_seam}
use Rattle.cells.specs.Cells.{le}
use Rattle.std.specs.Prelude.{Some}
use Rattle.rules.specs.declared.Row.{Row}
use Rattle.rules.specs.Records.{Request, GT, PK, RM, IN, EV, CL, Narrow, AllNarrow}
use Rattle.rules.specs.Bytes.{bytes_of, row, kind_of, table, find, at, spot_at, made, ask, reading, reading_at, whole, Parsed}
use Rattle.rules.specs.Bytes.{with, on_reading, parse_from, parse}
use Rattle.rules.specs.Bytes.{written, all_written}
use Rattle.rules.proofs.ParseLaws.{parse-step, read-end, le-drop, spot_drop, made-drop}

pub bytes-length : (w v : ℕ) → length (bytes_of w v) ≡ w
unfolding bytes_of
bytes-length zero v = refl
bytes-length (suc w) v = ap suc (bytes-length w (v / 256))

-- a number read where it was written
pub le_bytes : (w v : ℕ) (rest : List ℕ) → v < 256 ^ w → le w (bytes_of w v ++ rest) 0 ≡ v
unfolding le bytes_of
le_bytes zero v rest h = omega arith
le_bytes (suc w) v rest h =
    let l = v % 256 ∷ (bytes_of w (v / 256) ++ rest) in
    let e : le w l 1 ≡ v / 256 = sym (le-drop w 1 l 0) ∙ le_bytes w (v / 256) rest ((div-lt_iff_lt-mul (omega arith)).1 (rw pow-suc at h)) in
    omega (arith, e)

pub le-after : (pre : List ℕ) (w v : ℕ) (rest : List ℕ) → v < 256 ^ w → le w (pre ++ (bytes_of w v ++ rest)) (length pre) ≡ v
le-after pre w v rest h =
    ap (le w (pre ++ (bytes_of w v ++ rest))) (sym (add-zero (length pre)))
    ∙ sym (le-drop w (length pre) (pre ++ (bytes_of w v ++ rest)) 0)
    ∙ ap (λ l. le w l 0) (drop-append_seam pre (bytes_of w v ++ rest))
    ∙ le_bytes w v rest h

spot_of : (a b : ℕ) (t : List ℕ) (r : Row) → find a b table ≡ Some r → r.bytes ≤ suc (suc (length t)) → spot_at (a ∷ b ∷ t) 0 ≡ at r.kind
unfolding spot_at
spot_of a b t r f h =
    rw (
      lt-leb (suc (suc (length t))) 0 (omega arith),
      le-ltb (suc (suc (length t)) - 0) 2 (omega arith),
      f,
      le-ltb (suc (suc (length t)) - 0) r.bytes (omega arith),
    )

eight : (v : ℕ) (rest : List ℕ) → length (bytes_of 8 v ++ rest) ≡ 8 + length rest
eight v rest = length-append (bytes_of 8 v) rest ∙ ap (λ n. n + length rest) (bytes-length 8 v)

spot_written : (q : Request) (rest : List ℕ) → spot_at (written q ++ rest) 0 ≡ at (kind_of q)
unfolding find table
spot_written (GT k) rest = spot_of 71 84 (bytes_of 8 k ++ rest) _ refl (omega (arith, eight k rest))
spot_written (PK k) rest = spot_of 80 75 (bytes_of 8 k ++ rest) _ refl (omega (arith, eight k rest))
spot_written (RM k) rest = spot_of 82 77 (bytes_of 8 k ++ rest) _ refl (omega (arith, eight k rest))
spot_written (IN k v) rest =
    spot_of 73 78 (bytes_of 8 k ++ bytes_of 8 v ++ rest) _ refl
    (omega (arith, ap length (append_assoc (bytes_of 8 k) (bytes_of 8 v) rest), eight k (bytes_of 8 v ++ rest), eight v rest))
spot_written EV rest = spot_of 69 86 rest _ refl (omega arith)
spot_written CL rest = spot_of 67 76 rest _ refl (omega arith)

made-written : (q : Request) (rest : List ℕ) → Narrow q → made (written q ++ rest) 0 (kind_of q) ≡ q
made-written (GT k) rest h = ap GT (le-after (71 ∷ 84 ∷ []) 8 k rest h)
made-written (PK k) rest h = ap PK (le-after (80 ∷ 75 ∷ []) 8 k rest h)
made-written (RM k) rest h = ap RM (le-after (82 ∷ 77 ∷ []) 8 k rest h)
made-written (IN k v) rest h =
    let ten : suc (suc (length (bytes_of 8 k))) ≡ 10 = ap (λ n. suc (suc n)) (bytes-length 8 k) in
    rw (append_assoc (bytes_of 8 k) (bytes_of 8 v) rest)
    (ap₂ (λ (x y : ℕ). IN x y) (le-after (73 ∷ 78 ∷ []) 8 k (bytes_of 8 v ++ rest) h.0)
    (ap (le 8 (73 ∷ 78 ∷ (bytes_of 8 k ++ (bytes_of 8 v ++ rest)))) (sym ten) ∙ le-after (73 ∷ 78 ∷ bytes_of 8 k) 8 v rest h.1))
made-written EV rest h = refl
made-written CL rest h = refl

written-length : (q : Request) → length (written q) ≡ (row (kind_of q)).bytes
written-length (GT k) = ap (λ n. suc (suc n)) (bytes-length 8 k)
written-length (PK k) = ap (λ n. suc (suc n)) (bytes-length 8 k)
written-length (RM k) = ap (λ n. suc (suc n)) (bytes-length 8 k)
written-length (IN k v) = ap (λ n. suc (suc n)) (eight k (bytes_of 8 v) ∙ ap (λ n. 8 + n) (bytes-length 8 v))
written-length EV = refl
written-length CL = refl

read_at : (pre : List ℕ) (q : Request) (rest : List ℕ) → Narrow q
    → reading_at (pre ++ (written q ++ rest)) (length pre) ≡ ask q (length pre + length (written q))
unfolding reading_at
read_at pre q rest h =
    let s = pre ++ (written q ++ rest) in
    let n = length pre in
    let seam : drop n s ≡ written q ++ rest = drop-append_seam pre (written q ++ rest) in
    let p : spot_at s n ≡ at (kind_of q) =
    ap (spot_at s) (sym (add-zero n)) ∙ sym (spot_drop n s 0) ∙ ap (λ l. spot_at l 0) seam ∙ spot_written q rest in
    let m : made s n (kind_of q) ≡ q =
    ap (λ i. made s i (kind_of q)) (sym (add-zero n)) ∙ sym (made-drop n s 0 (kind_of q)) ∙ ap (λ l. made l 0 (kind_of q)) seam ∙ made-written q rest h in
    ap (reading s n) p ∙ ap₂ (λ (x : Request) (y : ℕ). ask x y) m (ap (λ a. n + a) (sym (written-length q)))

abbrev all : List Request → Parsed Request
all qs = record { requests = qs; end = whole }

trip_from : (pre : List ℕ) (qs : List Request) → AllNarrow qs → parse_from (pre ++ all_written qs) (length pre) ≡ all qs
unfolding all_written
trip_from pre [] h = rw (append-nil pre, parse-step pre (length pre), read-end pre (length pre) (omega arith))
trip_from pre (q ∷ qs) h =
    let s = pre ++ (written q ++ all_written qs) in
    let ih : parse_from (pre ++ written q ++ all_written qs) (length (pre ++ written q)) ≡ all qs = trip_from (pre ++ written q) qs h.1 in
    parse-step s (length pre) ∙ ap (on_reading (parse_from s) (length pre)) (read_at pre q (all_written qs) h.0)
    ∙ ap (with q) (ap₂ parse_from (sym (append_assoc pre (written q) (all_written qs))) (sym (length-append pre (written q))) ∙ ih)

-- the parser inverts the writing of requests
pub parse-written : (qs : List Request) → AllNarrow qs → parse (all_written qs) ≡ record { requests = qs; end = whole }
unfolding parse
parse-written qs h = trip_from [] qs h
