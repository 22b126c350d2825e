-- Feeds leave exactly the carried records that pass the test of refusal 17. And what a finish says of the whole stream.
-- Assumes nothing.
use Prim.Native.Nat.{ℕ, zero, suc, ◌+◌, ◌-◌, ◌*◌, ◌/◌, ◌%◌, ◌≤◌, ◌<◌}
use native.Mathlib.Omega.{arith}
use native.Mathlib.Nat.{add-zero}
use borrow.Author.Tests.{leb-false, ltb-false, le-ltb}
use mathlib.Core.Path.{◌≡◌, refl, sym, ap, ◌∙◌, subst}
use mathlib.Core.Bool.{Bool, true, false, cond}
use mathlib.Core.List.{List, [], ◌∷◌, ◌++◌}
use lib.Dec.{leb, ltb}
use lib.ListN.{length, get_or, drop, length-append, length-drop}
use Rattle.cells.specs.Cells.{Bytes, le}
use Rattle.rules.specs.declared.Turned.{Turned}
use Rattle.rules.specs.declared.Turned.TheVariants.{LongRequests, BadRecord, NoRoom, BadCarry}
use Rattle.rules.specs.Parts.{null}
use Rattle.rules.specs.State.{Limits, State, empty_at, Sound}
use Rattle.rules.specs.Records.{Request, CL}
use Rattle.rules.specs.Requests.{run, apply}
use Rattle.rules.specs.Bytes.{table, find, Spot, at, unknown, cut, over, within, spot_at, Reading, ask, strange, short, end, reading, reading_at}
use Rattle.rules.specs.Bytes.{End, whole, unknown_at, cut_at, Parsed, on_reading, walk, parse_from, parse, room_for, encode_all}
use Rattle.rules.specs.Refusals.{most_request_bytes}
use Rattle.rules.specs.Verdict.{Verdict, refused, done, turned_away, unless, reads}
use Rattle.rules.specs.Carry.{Carry, opening, left_by, last_offset, waits, could_leave, carries}
use Rattle.rules.specs.Feed.{Onward, on_carry, feed_on, completed, runs_over, feed_rows, feed, finish_on, ended, Reached, begins, feeds}
use Rattle.rules.proofs.SoundLaws.{empty-sound}
use Rattle.rules.proofs.ParseLaws.{read_goes, parse-step, spot_drop}
use Rattle.rules.proofs.FeedLaws.{end-end}
use Rattle.rules.proofs.CouldLaws.{even-row, cut_short, cut-parse, over-nil, could-even, could-stop, could-wait, stop-could, wait-could}

-- ---- where reading ends

abbrev pub Ends : List ℕ → ℕ → End → Type 0
Ends s i whole = length s % 2 ≡ i % 2
Ends s i (cut_at c) = (c % 2 ≡ i % 2) × (c ≤ length s) × (spot_at s c ≡ cut)
Ends s i (unknown_at c) = (c % 2 ≡ i % 2) × (c + 2 ≤ length s)

ends-from : (s : List ℕ) (i after : ℕ) (e : End) → after % 2 ≡ i % 2 → Ends s after e → Ends s i e
ends-from s i after whole h f = f ∙ h
ends-from s i after (cut_at c) h f = (f.0 ∙ h, f.1, f.2)
ends-from s i after (unknown_at c) h f = (f.0 ∙ h, f.1)

abbrev Spots : List ℕ → ℕ → Reading Request → Type 0
Spots s i (ask q after) = after % 2 ≡ i % 2
Spots s i strange = i + 2 ≤ length s
Spots s i short = spot_at s i ≡ cut
Spots s i end = Unit {0}

unknown-there : (s : List ℕ) (i : ℕ) → spot_at s i ≡ unknown → i + 2 ≤ length s
unfolding spot_at
unknown-there s i e = pick (leb (length s) i) refl (ltb (length s - i) 2) refl e
  where
    pick : (t : Bool) → leb (length s) i ≡ t → (u : Bool) → ltb (length s - i) 2 ≡ u
        → cond t over (cond u cut (within (length s - i) (find (get_or s i 0) (get_or s (i + 1) 0) table))) ≡ unknown → i + 2 ≤ length s
    pick true g u h e = let z : ◌≡◌ {A = ℕ} 0 1 = cc in absurd (omega arith)
    pick false g true h e = let z : ◌≡◌ {A = ℕ} 0 1 = cc in absurd (omega arith)
    pick false g false h e = omega (arith, leb-false (length s) i g, ltb-false (length s - i) 2 h)

spots : (s : List ℕ) (i : ℕ) → Spots s i (reading_at s i)
unfolding reading_at
spots s i = go (spot_at s i) refl
  where
    go : (p : Spot) → spot_at s i ≡ p → Spots s i (reading s i p)
    go (at k) e = omega (arith, even-row k)
    go unknown e = unknown-there s i e
    go cut e = e
    go over e = tt

module _ (s : List ℕ) where
  ends-step : (i : ℕ) → i ≤ length s → ((after : ℕ) → i < after → after ≤ length s → Ends s after (parse_from s after).end)
      → (r : Reading Request) → reading_at s i ≡ r → Spots s i r → Ends s i (on_reading (parse_from s) i r).end
  ends-step i h ih (ask q after) e p = let g = read_goes s i q after e in ends-from s i after (parse_from s after).end p (ih after g.0 g.1)
  ends-step i h ih strange e p = (refl, p)
  ends-step i h ih short e p = (refl, h, p)
  ends-step i h ih end e p = let g = end-end s i e in ap (λ (n : ℕ). n % 2) (omega arith)

  ends_at : (m i : ℕ) → i ≤ length s → length s ≤ i + m → Ends s i (parse_from s i).end
  ends_at zero i h g =
      subst (λ (p : Parsed Request). Ends s i p.end) (sym (parse-step s i))
      (ends-step i h (λ after l k. absurd (omega arith)) (reading_at s i) refl (spots s i))
  ends_at (suc m) i h g =
      subst (λ (p : Parsed Request). Ends s i p.end) (sym (parse-step s i))
      (ends-step i h (λ after l k. ends_at m after k (omega arith)) (reading_at s i) refl (spots s i))

  pub parse-ends-from : (i : ℕ) → i ≤ length s → Ends s i (parse_from s i).end
  parse-ends-from i h = ends_at (length s) i h (omega arith)

  pub parse-ends : Ends s 0 (parse s).end
  unfolding parse
  parse-ends = ends_at (length s) 0 (omega arith) (omega arith)

-- ---- what a feed leaves passes

left-could : (o : ℕ) (s : List ℕ) (e : End) → o % 2 ≡ 0 → o + length s ≤ last_offset → Ends s 0 e → could_leave (left_by o s e) ≡ true
unfolding spot_at
left-could o s whole h l f = wait-could (o + length s) [] (omega arith) refl (omega arith)
left-could o s (cut_at c) h l f =
    let g = length-drop c s in
    let b = f.1 in
    wait-could (o + c) (drop c s) (omega (arith, f.0)) (ap waits (spot_drop c s 0 ∙ ap (spot_at s) (add-zero c) ∙ f.2)) (omega arith)
left-could o s (unknown_at c) h l f = let b = f.1 in stop-could (o + c) (omega (arith, f.0)) (omega arith)

pub feed-could : (σ : State) (c : Carry) (piece : List ℕ) → could_leave c ≡ true → runs_over c (length piece) ≡ false
    → could_leave (feed_on σ c piece).carry ≡ true
unfolding feed_on
feed-could σ c piece h r = go c.stopped refl
  where
    go : (t : Bool) → c.stopped ≡ t → could_leave (on_carry σ c piece t).carry ≡ true
    go true e = h
    go false e =
        let s = c.kept ++ piece in
        let n = length-append c.kept piece in
        let r' : ltb last_offset (c.offset + length c.kept + length piece) ≡ false = rw e at r in
        left-could c.offset s (parse s).end (could-even c h)
        (omega (arith, ltb-false last_offset (c.offset + length c.kept + length piece) r')) (parse-ends s)

-- ---- what passes is left by feeds that are accepted

least : Limits
least = record { capacity = 1; small_limit = 0; ghost_limit = 0 }

least-sound : Sound (empty_at least)
unfolding least
least-sound = empty-sound least (record { some_room = omega arith; capacity_fits = omega arith; small_fits = omega arith; ghost_fits = omega arith })

abbrev waiting : ℕ → List ℕ → Carry
waiting o l = record { offset = o; kept = l; stopped = false }

abbrev halted : ℕ → Carry
halted o = record { offset = o; kept = []; stopped = true }

-- nothing is turned away
accepted : (c : Carry) (bytes : ℕ) (rs : List Request) (room : ℕ) (v : Verdict Onward) → runs_over c bytes ≡ false → bytes ≤ most_request_bytes
    → c.stopped ≡ false → room_for rs ≤ room → unless (feed_rows c bytes rs room) v ≡ v
accepted c bytes rs room v b d e f = rw (b, le-ltb most_request_bytes bytes d, e, le-ltb room (room_for rs) f)

abbrev left : State → Carry → List ℕ → Verdict Onward
left τ d bs = done (record { state = τ; carry = d }) bs

abbrev clears : List ℕ
clears = 67 ∷ 76 ∷ []

clear_bytes : Bytes clears
clear_bytes zero = omega arith
clear_bytes (suc zero) = omega arith
clear_bytes (suc (suc zero)) = omega arith
clear_bytes (suc (suc (suc j))) = omega arith

clear_fed : (o : ℕ) → o % 2 ≡ 0 → o + 2 ≤ last_offset
    → feed (reads (empty_at least)) (carries (waiting o [])) clears 2 ≡ left (empty_at least) (waiting (o + 2) []) (79 ∷ 75 ∷ [])
unfolding feed feed_on completed parse parse_from walk reading_at spot_at find table le run apply room_for encode_all
clear_fed o h l =
    accepted (waiting o []) 2 (CL ∷ []) 2 _ (le-ltb last_offset (o + 0 + 2) (omega arith)) (omega arith) refl (omega arith)

at_offset : (n : ℕ) → 2 * n ≤ last_offset → Reached (waiting (2 * n) [])
at_offset zero h = begins
at_offset (suc n) h =
    let e : 2 * n + 2 ≡ 2 * suc n = omega arith in
    subst (λ (o : ℕ). Reached (waiting o [])) e
    (feeds clears 2 (at_offset n (omega arith)) least-sound clear_bytes (clear_fed (2 * n) (omega arith) (omega arith)))

kept-fed : (o : ℕ) (s : List ℕ) → o % 2 ≡ 0 → o + length s ≤ last_offset → spot_at s 0 ≡ cut
    → feed (reads (empty_at least)) (carries (waiting o [])) s 0 ≡ left (empty_at least) (waiting (o + 0) s) []
unfolding feed feed_on completed run room_for encode_all
kept-fed o s h l e =
    rw (cut-parse s e)
    (accepted (waiting o []) (length s) [] 0 _ (le-ltb last_offset (o + 0 + length s) (omega arith)) (omega (arith, cut_short s e)) refl (omega arith))

abbrev nonsense : List ℕ
nonsense = 88 ∷ 88 ∷ []

nonsense-bytes : Bytes nonsense
nonsense-bytes zero = omega arith
nonsense-bytes (suc zero) = omega arith
nonsense-bytes (suc (suc zero)) = omega arith
nonsense-bytes (suc (suc (suc j))) = omega arith

halt_fed : (o : ℕ) → o % 2 ≡ 0 → o + 2 ≤ last_offset
    → feed (reads (empty_at least)) (carries (waiting o [])) nonsense 0 ≡ left (empty_at least) (halted (o + 0)) []
unfolding feed feed_on completed parse parse_from walk reading_at spot_at find table run room_for encode_all
halt_fed o h l =
    accepted (waiting o []) 2 [] 0 _ (le-ltb last_offset (o + 0 + 2) (omega arith)) (omega arith) refl (omega arith)

pub could_reach : (c : Carry) → Bytes c.kept → could_leave c ≡ true → Reached c
could_reach c b h = go c.stopped refl
  where
    o : ℕ
    o = c.offset

    half : 2 * (o / 2) ≡ o
    half = omega (arith, could-even c h)

    from : o ≤ last_offset → Reached (waiting o [])
    from l = subst (λ (n : ℕ). Reached (waiting n [])) half (at_offset (o / 2) (omega (arith, half)))

    waits-go : (p : Spot) → spot_at c.kept 0 ≡ p → waits p ≡ true → o + length c.kept ≤ last_offset → Reached (waiting o c.kept)
    waits-go (at k) e w l = let z : ◌≡◌ {A = ℕ} 0 1 = cc in absurd (omega arith)
    waits-go unknown e w l = let z : ◌≡◌ {A = ℕ} 0 1 = cc in absurd (omega arith)
    waits-go cut e w l =
        subst (λ (n : ℕ). Reached (waiting n c.kept)) (add-zero o)
        (feeds c.kept 0 (from (omega arith)) least-sound b (kept-fed o c.kept (could-even c h) l e))
    waits-go over e w l = subst (λ (k : List ℕ). Reached (waiting o k)) (sym (over-nil c.kept e)) (from (omega arith))

    go : (t : Bool) → c.stopped ≡ t → Reached c
    go true e =
        let q = could-stop c h e in
        let l = q.1 in
        let f : Reached (halted (o + 0)) = feeds nonsense 0 (from (omega arith)) least-sound nonsense-bytes (halt_fed o (could-even c h) l) in
        let r : Reached (halted o) = subst (λ (n : ℕ). Reached (halted n)) (add-zero o) f in
        subst Reached (λ i. record { offset = o; kept = sym q.0 i; stopped = sym e i }) r
    go false e =
        let q = could-wait c h e in
        let r = waits-go (spot_at c.kept 0) refl q.0 q.1 in
        subst Reached (λ i. record { offset = o; kept = c.kept; stopped = sym e i }) r

-- ---- and the other way round: whatever feeds leave passes

no_feed : {A : Type 0} {n d : ℕ} {w : Onward} {bs : List ℕ} → refused n d ≡ done w bs → A
no_feed e = let z : ◌≡◌ {A = ℕ} 0 1 = cc in absurd (omega arith)

passed : (t : Bool) (why : Turned) (v : Verdict Onward) {w : Onward} {bs : List ℕ} → cond t (turned_away why) v ≡ done w bs → (t ≡ false) × (v ≡ done w bs)
passed true why v e = no_feed e
passed false why v e = (refl, e)

opening-could : could_leave opening ≡ true
unfolding spot_at
opening-could = wait-could 0 [] refl refl (omega arith)

pub reach_could : {c : Carry} → Reached c → could_leave c ≡ true
unfolding feed
reach_could begins = opening-could
reach_could (feeds {c = c} {d = d} {σ = σ} {τ = τ} {bs = bs} piece room r s b e) =
    let rs = completed c piece in
    let p1 = passed (runs_over c (length piece)) BadCarry _ e in
    let p2 = passed (ltb most_request_bytes (length piece)) LongRequests _ p1.1 in
    let p3 = passed c.stopped (BadRecord c.offset) _ p2.1 in
    let p4 = passed (ltb room (room_for rs)) (NoRoom (room_for rs)) _ p3.1 in
    let f : (feed_on σ c piece).carry ≡ d = same p4.1 in
    subst (λ (x : Carry). could_leave x ≡ true) f (feed-could σ c piece (reach_could r) p1.0)
  where
    same : {v w : Onward} {k bs : List ℕ} → done v k ≡ done w bs → v.carry ≡ w.carry
    same {v} {w} e = let z : v ≡ w = cc in ap (λ (w : Onward). w.carry) z

-- ---- a finish, over a whole stream

cut_in : (s : List ℕ) (i : ℕ) → spot_at s i ≡ cut → i < length s
unfolding spot_at
cut_in s i e = pick (leb (length s) i) refl e
  where
    pick : (t : Bool) → leb (length s) i ≡ t
        → cond t over (cond (ltb (length s - i) 2) cut (within (length s - i) (find (get_or s i 0) (get_or s (i + 1) 0) table))) ≡ cut → i < length s
    pick true g e = let z : ◌≡◌ {A = ℕ} 0 1 = cc in absurd (omega arith)
    pick false g e = leb-false (length s) i g

pub some-kept : (l : List ℕ) → 0 < length l → null l ≡ false
some-kept [] h = absurd (omega arith)
some-kept (x ∷ l) h = refl

finish-left : (s : List ℕ) (e : End) → Ends s 0 e → finish_on (carries (left_by 0 s e)) ≡ ended e
finish-left s whole f = refl
finish-left s (cut_at c) f =
    rw (some-kept (drop c s) (omega (arith, length-drop c s, cut_in s c f.2))) (ap (λ (n : ℕ). turned_away (BadRecord n)) (omega arith))
finish-left s (unknown_at c) f = ap (λ (n : ℕ). turned_away (BadRecord n)) (omega arith)

-- after all of a stream a finish says of it what one call's refusal 9 would
pub finish-is : (σ : State) (s : List ℕ) → finish_on (carries (feed_on σ opening s).carry) ≡ ended (parse s).end
unfolding feed_on
finish-is σ s = finish-left s (parse s).end (parse-ends s)
