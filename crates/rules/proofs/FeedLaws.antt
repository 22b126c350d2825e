-- The laws of feeding: reading in pieces is reading the whole, so that where a stream is cut makes no difference.
-- Assumes nothing.
use Prim.Native.Nat.{ℕ, zero, suc, ◌+◌, ◌-◌, ◌≤◌, ◌<◌}
use native.Mathlib.Omega.{arith}
use native.Mathlib.Nat.{add-zero, add_assoc}
use borrow.Author.Tests.{lt-leb, leb-true, leb-false, ltb-false, le-ltb}
use mathlib.Core.Path.{◌≡◌, refl, sym, ap, ap₂, ◌∙◌, subst}
use mathlib.Core.Bool.{Bool, true, false, cond}
use mathlib.Core.List.{List, [], ◌∷◌, ◌++◌, append_assoc, append-nil}
use Rattle.std.specs.Prelude.{Option, Some, None}
use lib.Dec.{leb, ltb}
use lib.ListN.{length, get_or, drop, length-append, length-drop, get_or-append}
use lib.Seq.{drop-append_seam, drop-append-le, drop-drop}
use Rattle.cells.specs.Cells.{le}
use Rattle.cells.proofs.Laws.{le_ext}
use Rattle.rules.specs.declared.Kind.{Kind}
use Rattle.rules.specs.declared.Kind.TheVariants.{Get, Peek, Remove, Insert, Evict, Clear}
use Rattle.rules.specs.declared.Row.{Row}
use Rattle.rules.specs.State.{State}
use Rattle.rules.specs.Records.{Request, GT, PK, RM, IN, Reply}
use Rattle.rules.specs.Requests.{run}
use Rattle.rules.specs.Bytes.{row, table, find, Spot, at, unknown, cut, over, within, spot_at, made, Reading, ask, strange, short, end, reading, reading_at}
use Rattle.rules.specs.Bytes.{End, whole, unknown_at, cut_at, Parsed, with, on_reading, parse_from, parse}
use Rattle.rules.specs.Carry.{Carry, left_by}
use Rattle.rules.specs.Feed.{Flow, flow, flowing, on_carry, feed_on, after_replies, and_then, feed_all, glued}
use Rattle.rules.proofs.ParseLaws.{Lies, spot_lies, read_goes, parse-step, spot_drop, made-drop}
use Rattle.rules.proofs.LedgerLaws.{run-append}

-- ---- a record that is whole, or that is none, stays so when more bytes come

le-front : (w : ℕ) (a b : List ℕ) (i : ℕ) → i + w ≤ length a → le w (a ++ b) i ≡ le w a i
le-front w a b i h = le_ext w (a ++ b) a i (λ j p q. get_or-append a b 0 j (omega arith))

pub made-front : (k : Kind) (a b : List ℕ) (i : ℕ) → i + (row k).bytes ≤ length a → made (a ++ b) i k ≡ made a i k
made-front Get a b i h = ap GT (le-front 8 a b (i + 2) (omega arith))
made-front Peek a b i h = ap PK (le-front 8 a b (i + 2) (omega arith))
made-front Remove a b i h = ap RM (le-front 8 a b (i + 2) (omega arith))
made-front Insert a b i h = ap₂ (λ (x y : ℕ). IN x y) (le-front 8 a b (i + 2) (omega arith)) (le-front 8 a b (i + 10) (omega arith))
made-front Evict a b i h = refl
made-front Clear a b i h = refl

abbrev Settled : Spot → Type 0
Settled (at k) = Unit {0}
Settled unknown = Unit {0}
Settled cut = ⊥
Settled over = ⊥

within_more : (l m : ℕ) (f : Option Row) (p : Spot) → l ≤ m → Settled p → within l f ≡ p → within m f ≡ p
within_more l m None p h s e = e
within_more l m (Some r) p h s e = pick (ltb l r.bytes) refl e
  where
    pick : (t : Bool) → ltb l r.bytes ≡ t → cond t cut (at r.kind) ≡ p → cond (ltb m r.bytes) cut (at r.kind) ≡ p
    pick true g e = absurd (subst Settled (sym e) s)
    pick false g e = rw (le-ltb m r.bytes (omega (arith, ltb-false l r.bytes g))) e

spot_front : (a b : List ℕ) (i : ℕ) (p : Spot) → spot_at a i ≡ p → Settled p → spot_at (a ++ b) i ≡ p
unfolding spot_at
spot_front a b i p e s = pick (leb (length a) i) refl (ltb (length a - i) 2) refl e
  where
    f : Option Row
    f = find (get_or a i 0) (get_or a (i + 1) 0) table

    pick : (t : Bool) → leb (length a) i ≡ t → (u : Bool) → ltb (length a - i) 2 ≡ u → cond t over (cond u cut (within (length a - i) f)) ≡ p
        → cond (leb (length (a ++ b)) i) over
        (cond (ltb (length (a ++ b) - i) 2) cut (within (length (a ++ b) - i) (find (get_or (a ++ b) i 0) (get_or (a ++ b) (i + 1) 0) table))) ≡ p
    pick true g u h e = absurd (subst Settled (sym e) s)
    pick false g true h e = absurd (subst Settled (sym e) s)
    pick false g false h e =
        let n = length-append a b in
        let x = leb-false (length a) i g in
        let y = ltb-false (length a - i) 2 h in
        rw (
          lt-leb (length (a ++ b)) i (omega arith),
          le-ltb (length (a ++ b) - i) 2 (omega arith),
          get_or-append a b 0 i (omega arith),
          get_or-append a b 0 (i + 1) (omega arith),
        )
        (within_more (length a - i) (length (a ++ b) - i) f p (omega arith) s e)

abbrev pub Firm : Reading Request → Type 0
Firm (ask q after) = Unit {0}
Firm strange = Unit {0}
Firm short = ⊥
Firm end = ⊥

pub read-front : (a b : List ℕ) (i : ℕ) (r : Reading Request) → reading_at a i ≡ r → Firm r → reading_at (a ++ b) i ≡ r
unfolding reading_at
read-front a b i r e s = go (spot_at a i) refl e
  where
    go : (p : Spot) → spot_at a i ≡ p → reading a i p ≡ r → reading (a ++ b) i (spot_at (a ++ b) i) ≡ r
    go (at k) h g =
        ap (reading (a ++ b) i) (spot_front a b i (at k) h tt)
        ∙ ap (λ q. ask q (i + (row k).bytes)) (made-front k a b i (subst (Lies a i) h (spot_lies a i))) ∙ g
    go unknown h g = ap (reading (a ++ b) i) (spot_front a b i unknown h tt) ∙ g
    go cut h g = absurd (subst Firm (sym g) s)
    go over h g = absurd (subst Firm (sym g) s)

-- nothing more is there only at the end
over-end : (s : List ℕ) (i : ℕ) → spot_at s i ≡ over → length s ≤ i
unfolding spot_at
over-end s i e = pick (leb (length s) i) refl (ltb (length s - i) 2) (find (get_or s i 0) (get_or s (i + 1) 0) table) e
  where
    inner : (t : Bool) (k : Kind) → cond t cut (at k) ≡ over → ⊥
    inner true k h = let z : ◌≡◌ {A = ℕ} 0 1 = cc in omega arith
    inner false k h = let z : ◌≡◌ {A = ℕ} 0 1 = cc in omega arith

    pick : (t : Bool) → leb (length s) i ≡ t → (u : Bool) (f : Option Row) → cond t over (cond u cut (within (length s - i) f)) ≡ over → length s ≤ i
    pick true g u f e = leb-true (length s) i g
    pick false g true f e = let z : ◌≡◌ {A = ℕ} 0 1 = cc in absurd (omega arith)
    pick false g false None e = let z : ◌≡◌ {A = ℕ} 0 1 = cc in absurd (omega arith)
    pick false g false (Some r) e = absurd (inner (ltb (length s - i) r.bytes) r.kind e)

pub end-end : (s : List ℕ) (i : ℕ) → reading_at s i ≡ end → length s ≤ i
unfolding reading_at
end-end s i e = go (spot_at s i) refl e
  where
    go : (p : Spot) → spot_at s i ≡ p → reading s i p ≡ end → length s ≤ i
    go (at k) h g = let z : ◌≡◌ {A = ℕ} 0 1 = cc in absurd (omega arith)
    go unknown h g = let z : ◌≡◌ {A = ℕ} 0 1 = cc in absurd (omega arith)
    go cut h g = let z : ◌≡◌ {A = ℕ} 0 1 = cc in absurd (omega arith)
    go over h g = over-end s i h

-- ---- two parts, read from an offset in the first

abbrev pub joined : List Request → Parsed Request → Parsed Request
joined rs p = record { requests = rs ++ p.requests; end = p.end }

-- reading a alone gave the requests rs and ended so: what reading a and b together gives
abbrev pub Fed : List ℕ → List ℕ → ℕ → List Request → End → Type 0
Fed a b i rs whole = parse_from (a ++ b) i ≡ joined rs (parse_from (a ++ b) (length a))
Fed a b i rs (cut_at c) = (c ≤ length a) × (parse_from (a ++ b) i ≡ joined rs (parse_from (a ++ b) c))
Fed a b i rs (unknown_at c) = parse_from (a ++ b) i ≡ record { requests = rs; end = unknown_at c }

module _ (a b : List ℕ) where
  -- one record more in front
  fed-on : (i after : ℕ) (q : Request) (rs : List Request) (e : End) → parse_from (a ++ b) i ≡ with q (parse_from (a ++ b) after) → Fed a b after rs e
      → Fed a b i (q ∷ rs) e
  fed-on i after q rs whole x f = x ∙ ap (with q) f
  fed-on i after q rs (cut_at c) x f = (f.0, x ∙ ap (with q) f.1)
  fed-on i after q rs (unknown_at c) x f = x ∙ ap (with q) f

  fed-step : (i : ℕ) → i ≤ length a → ((after : ℕ) → i < after → after ≤ length a → Fed a b after (parse_from a after).requests (parse_from a after).end)
      → (r : Reading Request) → reading_at a i ≡ r → Fed a b i (on_reading (parse_from a) i r).requests (on_reading (parse_from a) i r).end
  fed-step i h ih (ask q after) e =
      let g = read_goes a i q after e in
      fed-on i after q (parse_from a after).requests (parse_from a after).end
      (parse-step (a ++ b) i ∙ ap (on_reading (parse_from (a ++ b)) i) (read-front a b i (ask q after) e tt)) (ih after g.0 g.1)
  fed-step i h ih strange e = parse-step (a ++ b) i ∙ ap (on_reading (parse_from (a ++ b)) i) (read-front a b i strange e tt)
  fed-step i h ih short e = (h, refl)
  fed-step i h ih end e = let g = end-end a i e in ap (parse_from (a ++ b)) (omega arith)

  fed-at : (m i : ℕ) → i ≤ length a → length a ≤ i + m → Fed a b i (parse_from a i).requests (parse_from a i).end
  fed-at zero i h g =
      subst (λ (p : Parsed Request). Fed a b i p.requests p.end) (sym (parse-step a i))
      (fed-step i h (λ after l k. absurd (omega arith)) (reading_at a i) refl)
  fed-at (suc m) i h g =
      subst (λ (p : Parsed Request). Fed a b i p.requests p.end) (sym (parse-step a i))
      (fed-step i h (λ after l k. fed-at m after k (omega arith)) (reading_at a i) refl)

  pub parse-parts : Fed a b 0 (parse a).requests (parse a).end
  unfolding parse
  parse-parts = fed-at (length a) 0 (omega arith) (omega arith)

-- ---- reading from an offset is reading what stands there

abbrev pub shift_end : ℕ → End → End
shift_end n whole = whole
shift_end n (unknown_at i) = unknown_at (n + i)
shift_end n (cut_at i) = cut_at (n + i)

abbrev pub shift : ℕ → Parsed Request → Parsed Request
shift n p = record { requests = p.requests; end = shift_end n p.end }

abbrev shift_reading : ℕ → Reading Request → Reading Request
shift_reading n (ask q after) = ask q (n + after)
shift_reading n strange = strange
shift_reading n short = short
shift_reading n end = end

read-drop : (n : ℕ) (s : List ℕ) (i : ℕ) → reading_at s (n + i) ≡ shift_reading n (reading_at (drop n s) i)
unfolding reading_at
read-drop n s i = ap (reading s (n + i)) (sym (spot_drop n s i)) ∙ go (spot_at (drop n s) i)
  where
    go : (p : Spot) → reading s (n + i) p ≡ shift_reading n (reading (drop n s) i p)
    go (at k) = ap₂ (λ (q : Request) (j : ℕ). ask q j) (sym (made-drop n s i k)) (add_assoc n i (row k).bytes)
    go unknown = refl
    go cut = refl
    go over = refl

module _ (n : ℕ) (s : List ℕ) where
  turn : (i : ℕ) → ((after : ℕ) → i < after → parse_from s (n + after) ≡ shift n (parse_from (drop n s) after))
      → (r : Reading Request) → reading_at (drop n s) i ≡ r
      → on_reading (parse_from s) (n + i) (shift_reading n r) ≡ shift n (on_reading (parse_from (drop n s)) i r)
  turn i ih (ask q after) e = ap (with q) (ih after (read_goes (drop n s) i q after e).0)
  turn i ih strange e = refl
  turn i ih short e = refl
  turn i ih end e = refl

  no_more : (i : ℕ) → length s ≤ n + i → (r : Reading Request) → reading_at (drop n s) i ≡ r
      → on_reading (parse_from s) (n + i) (shift_reading n r) ≡ shift n (on_reading (parse_from (drop n s)) i r)
  no_more i h (ask q after) e = absurd (omega (arith, read_goes (drop n s) i q after e, length-drop n s))
  no_more i h strange e = refl
  no_more i h short e = refl
  no_more i h end e = refl

  parse-drop-at : (m i : ℕ) → length s ≤ n + i + m → parse_from s (n + i) ≡ shift n (parse_from (drop n s) i)
  parse-drop-at zero i h =
      parse-step s (n + i) ∙ ap (on_reading (parse_from s) (n + i)) (read-drop n s i) ∙ no_more i (omega arith) (reading_at (drop n s) i) refl
      ∙ ap (shift n) (sym (parse-step (drop n s) i))
  parse-drop-at (suc m) i h =
      parse-step s (n + i) ∙ ap (on_reading (parse_from s) (n + i)) (read-drop n s i)
      ∙ turn i (λ after l. parse-drop-at m after (omega arith)) (reading_at (drop n s) i) refl ∙ ap (shift n) (sym (parse-step (drop n s) i))

  pub parse-drop : parse_from s n ≡ shift n (parse (drop n s))
  unfolding parse
  parse-drop = ap (parse_from s) (sym (add-zero n)) ∙ parse-drop-at (length s) 0 (omega arith)

-- ---- what is left, seen from further on

pub left-shift : (o d : ℕ) (s x : List ℕ) (e : End) → drop d s ≡ x → d ≤ length s → left_by o s (shift_end d e) ≡ left_by (o + d) x e
left-shift o d s x whole h l = ap (λ (n : ℕ). record { offset = n; kept = []; stopped = false }) (omega (arith, ap length h, length-drop d s))
left-shift o d s x (cut_at i) h l =
    ap₂ (λ (n : ℕ) (k : List ℕ). record { offset = n; kept = k; stopped = false }) (omega arith) (sym (drop-drop i d s) ∙ ap (drop i) h)
left-shift o d s x (unknown_at i) h l = ap (λ (n : ℕ). record { offset = n; kept = []; stopped = true }) (omega arith)

-- ---- two pieces

module _ (σ : State) (o : ℕ) (a b : List ℕ) where
  -- from the place d of a on
  goes_on : (rs : List Request) (d : ℕ) (x : List ℕ) → drop d (a ++ b) ≡ x → d ≤ length a → parse (a ++ b) ≡ joined rs (parse_from (a ++ b) d)
      → flowing σ o (a ++ b) (parse (a ++ b)) ≡ after_replies (run σ rs).replies (flowing (run σ rs).state (o + d) x (parse x))
  goes_on rs d x h l f =
      let p : Parsed Request = parse x in
      let e : parse (a ++ b) ≡ joined rs (shift d p) = f ∙ ap (joined rs) (parse-drop d (a ++ b)) ∙ ap (λ (y : List ℕ). joined rs (shift d (parse y))) h in
      ap (flowing σ o (a ++ b)) e
      ∙ ap₂ flow (left-shift o d (a ++ b) x p.end h (omega (arith, length-append a b))) (run-append σ rs p.requests)

  parts : (rs : List Request) (e : End) → Fed a b 0 rs e
      → flowing σ o (a ++ b) (parse (a ++ b)) ≡ and_then (flow (left_by o a e) (run σ rs)) (λ τ d. on_carry τ d b d.stopped)
  unfolding parse
  parts rs whole f = goes_on rs (length a) b (drop-append_seam a b) (omega arith) f
  parts rs (cut_at c) f = goes_on rs c (drop c a ++ b) (drop-append-le c a b f.0) f.0 f.1
  parts rs (unknown_at c) f =
      let stops : List Reply → Flow = λ l. record { state = (run σ rs).state; replies = l; carry = left_by o a (unknown_at c) } in
      ap (flowing σ o (a ++ b)) f ∙ ap stops (sym (append-nil (run σ rs).replies))

pub feed-two : (σ : State) (c : Carry) (a b : List ℕ) → feed_on σ c (a ++ b) ≡ and_then (feed_on σ c a) (λ τ d. feed_on τ d b)
unfolding feed_on
feed-two σ c a b = go c.stopped refl
  where
    go : (t : Bool) → c.stopped ≡ t → on_carry σ c (a ++ b) t ≡ and_then (on_carry σ c a t) (λ τ d. on_carry τ d b d.stopped)
    go true e = subst (λ (t : Bool). on_carry σ c (a ++ b) true ≡ after_replies [] (on_carry σ c b t)) (sym e) refl
    go false e =
        ap (λ (l : List ℕ). flowing σ c.offset l (parse l)) (sym (append_assoc c.kept a b))
        ∙ parts σ c.offset (c.kept ++ a) b (parse (c.kept ++ a)).requests (parse (c.kept ++ a)).end (parse-parts (c.kept ++ a) b)

-- ---- pieces one after the other are one piece

pub feed-glued : (σ : State) (c : Carry) (p : List ℕ) (ps : List (List ℕ)) → feed_all σ c (p ∷ ps) ≡ feed_on σ c (glued (p ∷ ps))
unfolding feed_all
feed-glued σ c p [] =
    ap (λ (l : List Reply). record { state = (feed_on σ c p).state; replies = l; carry = (feed_on σ c p).carry }) (append-nil (feed_on σ c p).replies)
    ∙ ap (feed_on σ c) (sym (append-nil p))
feed-glued σ c p (q ∷ ps) =
    ap (after_replies (feed_on σ c p).replies) (feed-glued (feed_on σ c p).state (feed_on σ c p).carry q ps) ∙ sym (feed-two σ c p (glued (q ∷ ps)))
