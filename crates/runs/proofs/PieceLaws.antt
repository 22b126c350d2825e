-- The laws of a feed of a stream that goes on: what stands in front of the piece, what is left of it, and each answer.
-- Assumes nothing.
use mathlib.Core.Path.{◌≡◌, refl, sym, ap, ap₂, ◌∙◌, subst}
use mathlib.Core.Bool.{true, false}
use mathlib.Core.Logic.{◌⊎◌, inl, inr}
use mathlib.Core.List.{List, [], ◌++◌}
use Prim.Native.Nat.{ℕ, ◌+◌, ◌-◌, ◌≤◌, ◌<◌}
use native.Mathlib.Omega.{arith}
use native.Mathlib.Nat.{add-zero, sub-zero}
use lib.ListN.{length, take, drop, drop_of_length-le}
use mir.Syntax.{w64}
use mir.Val.{Fits}
use Rattle.std.specs.Prelude.{Result, Ok, Err}
use Rattle.rules.specs.Bytes.{longest_record, spot_at, End, whole, unknown_at, cut_at, Parsed, parse_from, parse, room_for, encode_all}
use Rattle.rules.specs.Carry.{most_kept, Carry, waits, last_offset, left_by, carry_bytes, kept_room}
use Rattle.nodes.specs.declared.Shape.{Shape}
use Rattle.rules.specs.declared.Turned.{Turned}
use Rattle.rules.specs.declared.Turned.TheVariants.{NoRoom}
use Rattle.rules.specs.Records.{Request}
use Rattle.rules.specs.Requests.{run}
use Rattle.rules.specs.Refusals.{most_request_bytes}
use Rattle.rules.proofs.StreamLaws.{parse-room, room-append, EndsIn, parse-within}
use Rattle.wire.specs.declared.Stop.TheVariants.{Whole as All, Unknown as Strange, Cut as Short}
use Rattle.wire.specs.declared.Survey.{Survey}
use Rattle.wire.specs.Wire.{end_at, stop_of, surveyed}
use Rattle.wire.specs.CarriedOut.{HasRoom}
use Rattle.carry.specs.declared.Brought.TheVariants.{Going}
use Rattle.carry.specs.declared.Head.{Head}
use Rattle.carry.specs.declared.Head.TheVariants.{Whole, Cut, Unknown}
use Rattle.carry.specs.Carries.{kept_in, Brings, CarryPut}
use Rattle.carry.specs.Heads.{HeadJoins}
use Rattle.carry.proofs.CarriesLaws as lent
use Rattle.store.specs.Holds.{Held}
use Rattle.runs.specs.declared.Fed.{Fed}
use Rattle.runs.specs.declared.Fed.TheVariants.{Done, Stopped}
use Rattle.runs.specs.Runs.{Runs, asked_across, FedRan, FedOn}
use Rattle.runs.proofs.RunLaws.{splice-none, runs-room, runs-runs}

-- ---- what stands in front of a piece, and the piece from an offset on

module _ (head piece : List ℕ) (from : ℕ) {v w : Survey} (g : v ≡ surveyed (length head) (parse head))
    (h : w ≡ surveyed (length piece) (parse_from piece from)) where
  rooms : v.room + w.room ≡ room_for (asked_across head piece from)
  rooms = ap₂ (λ (x y : Survey). x.room + y.room) g h ∙ sym (room-append (parse head).requests (parse_from piece from).requests)

  module _ (few : length head ≤ longest_record) (in-piece : from ≤ length piece) (most : length piece ≤ most_request_bytes) where
    -- a sum that fits
    pub rooms-fit : Fits w64 (v.room + w.room)
    unfolding parse
    rooms-fit =
        let a = parse-room head 0 (omega arith) in
        let b = parse-room piece from in-piece in
        let c = ap (λ (y : Survey). y.room) g in
        let d = ap (λ (y : Survey). y.room) h in
        record { fits = omega arith }

  -- no room
  pub whole-refused : {z : Shape} {s c p : List ℕ} (k : Carry) → length p < v.room + w.room → {i : ℕ} → i ≡ v.room + w.room
      → FedOn z s s c c p p (asked_across head piece from) k (Err (NoRoom i))
  whole-refused {p = p} k l {i} e =
      record { fed = (ap NoRoom (e ∙ rooms), subst (λ (n : ℕ). length p < n) rooms l, refl, refl, refl) }

  pub both-ready : {p : List ℕ} → v.room + w.room ≤ length p → HasRoom (asked_across head piece from) p 0
  both-ready l = record { within = omega arith; room = omega (arith, rooms) }

-- the two runs
module _ (head piece : List ℕ) (from : ℕ) {p : List ℕ} (r : HasRoom (asked_across head piece from) p 0) where
  room-both : room_for (parse head).requests + room_for (parse_from piece from).requests ≤ length p
  room-both = let l = r.room in omega (arith, room-append (parse head).requests (parse_from piece from).requests)

  pub head-ready : HasRoom (parse_from head 0).requests p 0
  unfolding parse
  head-ready = let l = room-both in record { within = omega arith; room = omega arith }

  module _ {z : Shape} {s s₁ p₁ : List ℕ} {m : ℕ} (a : Runs z s s₁ (parse_from head 0).requests p p₁ 0 m) where
    pub piece-ready : HasRoom (parse_from piece from).requests p₁ m
    unfolding parse
    piece-ready = runs-room a (parse_from piece from).requests room-both

    pub both-ran : {s₂ p₂ : List ℕ} {n : ℕ} → Runs z s₁ s₂ (parse_from piece from).requests p₁ p₂ m n
        → Runs z s s₂ (asked_across head piece from) p p₂ 0 n
    unfolding parse
    both-ran b = runs-runs a b room-both

-- ---- what is left of the piece

strange-end : (n : ℕ) (e : End) → stop_of e ≡ Strange → e ≡ unknown_at (end_at n e)
strange-end n whole h = let z : ◌≡◌ {A = ℕ} 0 1 = cc in absurd (omega arith)
strange-end n (unknown_at i) h = refl
strange-end n (cut_at i) h = let z : ◌≡◌ {A = ℕ} 0 1 = cc in absurd (omega arith)

short-end : (n : ℕ) (e : End) → stop_of e ≡ Short → e ≡ cut_at (end_at n e)
short-end n whole h = let z : ◌≡◌ {A = ℕ} 0 1 = cc in absurd (omega arith)
short-end n (unknown_at i) h = let z : ◌≡◌ {A = ℕ} 0 1 = cc in absurd (omega arith)
short-end n (cut_at i) h = refl

-- all was read
pub all_end : (e : End) → stop_of e ≡ All → e ≡ whole
all_end whole h = refl
all_end (unknown_at i) h = let z : ◌≡◌ {A = ℕ} 0 1 = cc in absurd (omega arith)
all_end (cut_at i) h = let z : ◌≡◌ {A = ℕ} 0 1 = cc in absurd (omega arith)

end-within : (s : List ℕ) (e : End) → EndsIn s e → end_at (length s) e ≤ length s
end-within s whole h = omega arith
end-within s (unknown_at i) h = h
end-within s (cut_at i) h = h.0

module _ (piece : List ℕ) (from : ℕ) {w : Survey} (h : w ≡ surveyed (length piece) (parse_from piece from)) where
  abbrev e : End
  e = (parse_from piece from).end

  at-is : w.at ≡ end_at (length piece) e
  at-is = ap (λ (y : Survey). y.at) h

  -- the offset in the stream where reading ended
  pub end_fits : from ≤ length piece → (base : ℕ) → base + length piece ≤ last_offset → Fits w64 (base + w.at)
  end_fits l base b = let i = end-within piece e (parse-within piece from l) in record { fits = omega (arith, at-is) }

  stop_is : w.stop ≡ stop_of e
  stop_is = ap (λ (y : Survey). y.stop) h

  at_cut : w.stop ≡ Short → e ≡ cut_at w.at
  at_cut k = short-end (length piece) e (sym stop_is ∙ k) ∙ ap cut_at (sym at-is)

  at-whole : w.stop ≡ All → (e ≡ whole) × (w.at ≡ length piece)
  at-whole k = let q = all_end e (sym stop_is ∙ k) in (q, at-is ∙ ap (end_at (length piece)) q)

  -- what goes on has room in the record: a record that is cut, or nothing
  kept_part : (w.stop ≡ Short) ⊎ (w.stop ≡ All) → from ≤ length piece → (w.at ≤ length piece) × (length piece ≤ w.at + kept_room)
  kept_part (inl k) l = let r = subst (EndsIn piece) (at_cut k) (parse-within piece from l) in (r.0, omega (arith, r.1))
  kept_part (inr k) l = let q = (at-whole k).1 in (omega arith, omega arith)

  pub goes_inside : (w.stop ≡ Short) ⊎ (w.stop ≡ All) → from ≤ length piece → w.at ≤ length piece
  goes_inside k l = (kept_part k l).0

  pub goes-room : (w.stop ≡ Short) ⊎ (w.stop ≡ All) → from ≤ length piece → length piece ≤ w.at + kept_room
  goes-room k l = (kept_part k l).1

  left-strange : w.stop ≡ Strange → (base : ℕ) → record { offset = base + w.at; kept = drop (length piece) piece; stopped = true } ≡ left_by base piece e
  left-strange k base =
      let q : e ≡ unknown_at w.at = strange-end (length piece) e (sym stop_is ∙ k) ∙ ap unknown_at (sym at-is) in
      ap (λ (l : List ℕ). record { offset = base + w.at; kept = l; stopped = true }) (drop_of_length-le piece {i = length piece} (omega arith))
      ∙ ap (left_by base piece) (sym q)

  left_goes : (w.stop ≡ Short) ⊎ (w.stop ≡ All) → (base : ℕ)
      → record { offset = base + w.at; kept = drop w.at piece; stopped = false } ≡ left_by base piece e
  left_goes (inl k) base = ap (left_by base piece) (sym (at_cut k))
  left_goes (inr k) base =
      let q = at-whole k in
      ap₂ (λ (o : ℕ) (l : List ℕ). record { offset = base + o; kept = l; stopped = false }) q.1 (drop_of_length-le piece {i = w.at} (omega (arith, q.1)))
      ∙ ap (left_by base piece) (sym q.0)

-- ---- the answers of `feed_whole`

module _ (head piece : List ℕ) (from : ℕ) {v w : Survey} (g : v ≡ surveyed (length head) (parse head))
    (h : w ≡ surveyed (length piece) (parse_from piece from)) (p : List ℕ) (enough : v.room + w.room ≤ length p)
    {z : Shape} {s s₂ p₂ : List ℕ} {n : ℕ} (a : Runs z s s₂ (asked_across head piece from) p p₂ 0 n)
    (base : ℕ) {c c' : List ℕ} where
  ran : {k l : Carry} → k ≡ l → CarryPut c k c' → FedRan z s s₂ c c' p p₂ (asked_across head piece from) l n
  ran {k} {l} q u = record { runs = a; room = omega (arith, rooms head piece from g h); put = (subst (λ (x : Carry). CarryPut c x c') q u).is }

  pub whole-stopped : w.stop ≡ Strange → CarryPut c (record { offset = base + w.at; kept = drop (length piece) piece; stopped = true }) c'
      → FedOn z s s₂ c c' p p₂ (asked_across head piece from) (left_by base piece (parse_from piece from).end) (Ok (Stopped n (base + w.at)))
  whole-stopped k u =
      let q = left-strange piece from h k base in
      record { fed = (ap (λ (x : Carry). x.stopped) (sym q), ap (λ (x : Carry). x.offset) (sym q), ran q u) }

  pub whole-goes : (w.stop ≡ Short) ⊎ (w.stop ≡ All)
      → CarryPut c (record { offset = base + w.at; kept = drop w.at piece; stopped = false }) c'
      → FedOn z s s₂ c c' p p₂ (asked_across head piece from) (left_by base piece (parse_from piece from).end) (Ok (Done n))
  whole-goes k u =
      let q = left_goes piece from h k base in
      record { fed = (ap (λ (x : Carry). x.stopped) (sym q), ran q u) }

-- ---- the answers of `feed_going`

module _ {bs : List ℕ} {o n : ℕ} (b : Brings bs (Ok (Going o n))) where
  pub brings_long : carry_bytes ≤ length bs
  brings_long = lent.going_long b refl

  pub brings_few : n ≤ most_kept
  brings_few = lent.going_few b refl

  -- the bytes kept, once they are lent for themselves
  module _ {k : List ℕ} (of : k ≡ kept_in bs n) where
    pub kept_few : length k ≤ most_kept
    kept_few = omega (arith, ap length of, lent.going_kept b refl, brings_few)

    pub kept-waits : waits (spot_at k 0) ≡ true
    kept-waits = ap (λ (l : List ℕ). waits (spot_at l 0)) of ∙ lent.going_waits b refl

-- no request was carried out
none-ran : {z : Shape} {s p c c' : List ℕ} {k : Carry} → Held z s → CarryPut c k c' → FedRan z s s c c' p p [] k 0
unfolding run encode_all room_for
none-ran {p = p} h u =
    record {
      runs = record {
        held = h;
        carried = record { state = refl; replies = splice-none p 0 (omega arith); count = refl };
        rest = refl;
        same = refl;
        untouched = λ y. refl;
        sized = omega arith;
      };
      room = omega arith;
      put = u.is;
    }

module _ {bs : List ℕ} {o n : ℕ} (b : Brings bs (Ok (Going o n))) {k : List ℕ} (of : k ≡ kept_in bs n) {piece head : List ℕ} {r : Head}
    (joins : HeadJoins k piece head r) where
  j : HeadJoins (kept_in bs n) piece head r
  j = subst (λ (l : List ℕ). HeadJoins l piece head r) of joins

  abbrev all : List ℕ
  all = kept_in bs n ++ piece

  -- a record that is cut still
  module _ {m : ℕ} (is : r ≡ Cut m) where
    pub cut-part : m ≤ length head
    cut-part = (j.cut m is).fits

    pub going_cut : {z : Shape} {s p bs' : List ℕ} → Held z s → CarryPut bs (record { offset = o; kept = drop 0 (take (m - 0) head); stopped = false }) bs'
        → FedOn z s s bs bs' p p (parse all).requests (left_by o all (parse all).end) (Ok (Done 0))
    going_cut {z} {s} {p} {bs'} h u =
        let c = j.cut m is in
        let l : take (m - 0) head ≡ all = ap (λ (i : ℕ). take i head) (sub-zero m) ∙ c.all in
        let q : record { offset = o; kept = take (m - 0) head; stopped = false } ≡ left_by o all (cut_at 0) =
        ap₂ (λ (i : ℕ) (x : List ℕ). record { offset = i; kept = x; stopped = false }) (sym (add-zero o)) l in
        subst (λ (x : Parsed Request). FedOn z s s bs bs' p p x.requests (left_by o all x.end) (Ok (Done 0))) (sym c.cut)
        (record { fed = (refl, none-ran h (subst (λ (x : Carry). CarryPut bs x bs') q u)) })

  -- a mark that is none
  pub going_unknown : r ≡ Unknown → {z : Shape} {s p bs' : List ℕ} → Held z s
      → CarryPut bs (record { offset = o; kept = drop (length piece) piece; stopped = true }) bs'
      → FedOn z s s bs bs' p p (parse all).requests (left_by o all (parse all).end) (Ok (Stopped 0 o))
  going_unknown is {z} {s} {p} {bs'} h u =
      let q : record { offset = o; kept = drop (length piece) piece; stopped = true } ≡ left_by o all (unknown_at 0) =
      ap₂ (λ (i : ℕ) (x : List ℕ). record { offset = i; kept = x; stopped = true }) (sym (add-zero o))
      (drop_of_length-le piece {i = length piece} (omega arith)) in
      subst (λ (x : Parsed Request). FedOn z s s bs bs' p p x.requests (left_by o all x.end) (Ok (Stopped 0 o))) (sym (j.unknown is))
      (record { fed = (refl, add-zero o, none-ran h (subst (λ (x : Carry). CarryPut bs x bs') q u)) })

  -- a whole record, or nothing, and the rest of the piece
  module _ {m : ℕ} (is : r ≡ Whole m) where
    pub whole_part : m ≤ length head
    whole_part = (j.whole m is).fits

    pub whole-begun : n ≤ m
    whole-begun = let c = (j.whole m is).begun in omega (arith, lent.going_kept b refl)

    pub going_whole : {z : Shape} {s s' bs' p p' : List ℕ} {a : Result Fed Turned}
        → FedOn z s s' bs bs' p p' ((parse (take (m - 0) head)).requests ++ (parse_from piece (m - n)).requests)
        (left_by (o + n) piece (parse_from piece (m - n)).end) a
        → FedOn z s s' bs bs' p p' (parse all).requests (left_by o all (parse all).end) a
    going_whole {z} {s} {s'} {bs'} {p} {p'} {a} f =
        let c = j.whole m is in
        let k : length (kept_in bs n) ≡ n = lent.going_kept b refl in
        let x : (parse (take (m - 0) head)).requests ++ (parse_from piece (m - n)).requests ≡ (parse all).requests =
        ap₂ (λ (i l : ℕ). (parse (take i head)).requests ++ (parse_from piece (m - l)).requests) (sub-zero m) (sym k) ∙ sym c.requests in
        let y : left_by (o + n) piece (parse_from piece (m - n)).end ≡ left_by o all (parse all).end =
        ap (λ (l : ℕ). left_by (o + l) piece (parse_from piece (m - l)).end) (sym k) ∙ sym (c.left o) in
        subst (λ (l : List Request). FedOn z s s' bs bs' p p' l (left_by o all (parse all).end) a) x
        (subst (λ (l : Carry). FedOn z s s' bs bs' p p' ((parse (take (m - 0) head)).requests ++ (parse_from piece (m - n)).requests) l a) y f)
