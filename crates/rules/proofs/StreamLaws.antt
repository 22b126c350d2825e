-- Streams: where one is cut makes no difference, a feed of nothing changes nothing, and so much reply room always suffices.
-- Assumes nothing.
use Prim.Native.Nat.{ℕ, zero, suc, ◌+◌, ◌*◌, ◌≤◌, ◌<◌}
use native.Mathlib.Omega.{arith}
use native.Mathlib.Nat.{add-zero}
use mathlib.Core.Path.{◌≡◌, refl, sym, ap, ◌∙◌, subst}
use mathlib.Core.Bool.{Bool, true, false, cond}
use mathlib.Core.List.{List, [], ◌∷◌, ◌++◌, append-nil}
use lib.ListN.{length, drop, length-append, length-drop}
use Rattle.rules.specs.State.{State}
use Rattle.rules.specs.Records.{Request}
use Rattle.rules.specs.Requests.{run}
use Rattle.rules.specs.Bytes.{Spot, at, unknown, cut, over, spot_at, Reading, ask, strange, short, end, reading, reading_at, room_to_byte, room_of, room_for}
use Rattle.rules.specs.Bytes.{End, whole, unknown_at, cut_at, Parsed, on_reading, walk, parse_from, parse}
use Rattle.rules.specs.Carry.{Carry, most_kept, waits, could_leave, carries}
use Rattle.rules.specs.Feed.{still, flow, flowing, on_carry, feed_on, feed_all, glued, completed, completed_of}
use Rattle.rules.proofs.TableLaws.{row-bytes, room-made}
use Rattle.rules.proofs.ParseLaws.{read_goes, parse-step, spot_drop}
use Rattle.rules.proofs.PartsLaws.{total-append}
use Rattle.rules.proofs.FeedLaws.{feed-glued}
use Rattle.rules.proofs.CouldLaws.{cut_short, cut-parse, over-nil, could-wait, could-few}
use Rattle.rules.proofs.ReachLaws.{Ends, parse-ends-from}

-- ---- a feed of nothing

nothing-still : (σ : State) (o : ℕ) → flowing σ o [] (parse []) ≡ still σ (record { offset = o; kept = []; stopped = false })
unfolding parse parse_from walk run
nothing-still σ o = ap (λ (n : ℕ). still σ (record { offset = n; kept = []; stopped = false })) (add-zero o)

waiting-still : (σ : State) (o : ℕ) (l : List ℕ) (p : Spot) → spot_at l 0 ≡ p → waits p ≡ true
    → flowing σ o l (parse l) ≡ still σ (record { offset = o; kept = l; stopped = false })
unfolding run
waiting-still σ o l (at k) e w = let z : ◌≡◌ {A = ℕ} 0 1 = cc in absurd (omega arith)
waiting-still σ o l unknown e w = let z : ◌≡◌ {A = ℕ} 0 1 = cc in absurd (omega arith)
waiting-still σ o l cut e w =
    ap (flowing σ o l) (cut-parse l e) ∙ ap (λ (n : ℕ). still σ (record { offset = n; kept = l; stopped = false })) (add-zero o)
waiting-still σ o l over e w =
    subst (λ (k : List ℕ). flowing σ o k (parse k) ≡ still σ (record { offset = o; kept = k; stopped = false })) (sym (over-nil l e)) (nothing-still σ o)

pub feed-nothing : (σ : State) (c : Carry) → could_leave c ≡ true → feed_on σ c [] ≡ still σ c
unfolding feed_on
feed-nothing σ c h = go c.stopped refl
  where
    go : (t : Bool) → c.stopped ≡ t → on_carry σ c [] t ≡ still σ c
    go true e = refl
    go false e =
        ap (λ (l : List ℕ). flowing σ c.offset l (parse l)) (append-nil c.kept)
        ∙ waiting-still σ c.offset c.kept (spot_at c.kept 0) refl (could-wait c h e).0
        ∙ ap (λ (t : Bool). still σ (record { offset = c.offset; kept = c.kept; stopped = t })) (sym e)

-- ---- a feed carries out what it completes

pub feed-runs : (σ : State) (c : Carry) (piece : List ℕ) → let o = run σ (completed_of (carries c) piece) in
    feed_on σ c piece ≡ flow (feed_on σ c piece).carry o
unfolding feed_on completed run
feed-runs σ c piece = go c.stopped
  where
    go : (t : Bool) → on_carry σ c piece t ≡ flow (on_carry σ c piece t).carry (run σ (cond t [] (completed c piece)))
    go true = refl
    go false = refl

-- ---- any cutting

-- pieces one after the other do what one piece of all their bytes does
pub feed-all : (σ : State) (c : Carry) → could_leave c ≡ true → (ps : List (List ℕ)) → feed_all σ c ps ≡ feed_on σ c (glued ps)
unfolding feed_all
feed-all σ c h [] = sym (feed-nothing σ c h)
feed-all σ c h (p ∷ ps) = feed-glued σ c p ps

-- the replies joined, the end state and what is carried are the same, wherever the stream is cut
pub any_cutting : (σ : State) (c : Carry) → could_leave c ≡ true → (ps qs : List (List ℕ)) → glued ps ≡ glued qs → feed_all σ c ps ≡ feed_all σ c qs
any_cutting σ c h ps qs e = feed-all σ c h ps ∙ ap (feed_on σ c) e ∙ sym (feed-all σ c h qs)

-- ---- reply room that always suffices

-- a record of so many bytes asks for at most so many times as much
abbrev Costs : ℕ → Reading Request → Type 0
Costs i (ask q after) = room_of q + room_to_byte * i ≤ room_to_byte * after
Costs i strange = Unit {0}
Costs i short = Unit {0}
Costs i end = Unit {0}

module _ (s : List ℕ) where
  costs : (i : ℕ) → Costs i (reading_at s i)
  unfolding reading_at
  costs i = go (spot_at s i)
    where
      go : (p : Spot) → Costs i (reading s i p)
      go (at k) = omega (arith, room-made s i k, row-bytes k)
      go unknown = tt
      go cut = tt
      go over = tt

  abbrev Bounded : ℕ → Parsed Request → Type 0
  Bounded i p = room_for p.requests + room_to_byte * i ≤ room_to_byte * length s

  room-step : (i : ℕ) → i ≤ length s → ((after : ℕ) → i < after → after ≤ length s → Bounded after (parse_from s after))
      → (r : Reading Request) → reading_at s i ≡ r → Costs i r → Bounded i (on_reading (parse_from s) i r)
  unfolding room_for
  room-step i h ih (ask q after) e c = let g = read_goes s i q after e in omega (arith, ih after g.0 g.1)
  room-step i h ih strange e c = omega arith
  room-step i h ih short e c = omega arith
  room-step i h ih end e c = omega arith

  room_at : (m i : ℕ) → i ≤ length s → length s ≤ i + m → Bounded i (parse_from s i)
  room_at zero i h g = subst (Bounded i) (sym (parse-step s i)) (room-step i h (λ after l k. absurd (omega arith)) (reading_at s i) refl (costs i))
  room_at (suc m) i h g =
      subst (Bounded i) (sym (parse-step s i)) (room-step i h (λ after l k. room_at m after k (omega arith)) (reading_at s i) refl (costs i))

  pub parse-room : (i : ℕ) → i ≤ length s → room_for (parse_from s i).requests ≤ room_to_byte * length s
  parse-room i h = omega (arith, room_at (length s) i h (omega arith))

-- what a piece completes, with the bytes that may be kept before it
pub feed-room : (c : Carry) (piece : List ℕ) → could_leave c ≡ true → room_for (completed c piece) ≤ room_to_byte * (length piece + most_kept)
unfolding completed parse
feed-room c piece h = omega (arith, parse-room (c.kept ++ piece) 0 (omega arith), length-append c.kept piece, could-few c h)

pub room-append : (a b : List Request) → room_for (a ++ b) ≡ room_for a + room_for b
unfolding room_for
room-append a b = total-append room_of a b

-- ---- where reading ends

-- within the bytes, and a record that is cut has fewer than the longest
abbrev pub EndsIn : List ℕ → End → Type 0
EndsIn s whole = Unit {0}
EndsIn s (unknown_at c) = c ≤ length s
EndsIn s (cut_at c) = (c ≤ length s) × (length s ≤ c + most_kept)

ends_in : (s : List ℕ) (i : ℕ) (e : End) → Ends s i e → EndsIn s e
ends_in s i whole h = tt
ends_in s i (unknown_at c) h = let b = h.1 in omega arith
ends_in s i (cut_at c) h =
    let b = h.1 in
    let e : spot_at (drop c s) 0 ≡ cut = spot_drop c s 0 ∙ ap (spot_at s) (add-zero c) ∙ h.2 in
    (b, omega (arith, cut_short (drop c s) e, length-drop c s))

pub parse-within : (s : List ℕ) (i : ℕ) → i ≤ length s → EndsIn s (parse_from s i).end
parse-within s i h = ends_in s i (parse_from s i).end (parse-ends-from s i h)
