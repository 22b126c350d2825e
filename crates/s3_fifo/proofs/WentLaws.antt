-- From a feed's answer to what it did: where no row but that of a stopped stream turned it away, state, replies and carried record are the rules'.
-- Assumes nothing.
use mathlib.Core.Path.{◌≡◌, refl, sym, ap, ap₂, ◌∙◌, subst}
use mathlib.Core.Bool.{Bool, true, false, cond}
use mathlib.Core.List.{List, ◌++◌}
use Prim.Native.Nat.{ℕ, ◌≤◌}
use native.Mathlib.Omega.{arith}
use lib.Dec.{ltb}
use lib.ListN.{length, take, drop, take-append-drop}
use lib.Seq.{take_at}
use Rattle.rules.specs.declared.Turned.{Turned}
use Rattle.rules.specs.declared.Turned.TheVariants.{ShortStore, DamagedStore, LongRequests, BadRecord, NoRoom, BadCarry}
use Rattle.rules.specs.State.{State}
use Rattle.rules.specs.Bytes.{room_for, encode_all}
use Rattle.rules.specs.Refusals.{number_of, detail_of, store_bytes, most_request_bytes}
use Rattle.rules.specs.Verdict.{Verdict, turned_away, Reads, short, damaged, reads}
use Rattle.rules.specs.Carry.{Carry, carry_bytes, carry_written, CarryAs, Carried, unfit, carries, ReadsCarry}
use Rattle.rules.specs.Feed.{Flow, still, on_carry, feed_on, completed, runs_over, Onward, fed, feed}
use Rattle.rules.proofs.ReachLaws.{feed-could}
use Rattle.rules.proofs.CarriedLaws.{carry-written}
use Rattle.store.specs.Holds.{Holds}
use Rattle.std.specs.Prelude.{Result}
use Rattle.runs.specs.declared.Fed.{Fed}
use Rattle.s3_fifo.specs.Calls.{Said, gave, halted, turned, ReadsAs}
use Rattle.s3_fifo.specs.Feeds.{fed_says, replies_in, said_with, FollowsFeed, FedAs}
use Rattle.s3_fifo.specs.Streams.{NotTurned}
use Rattle.s3_fifo.proofs.OnceLaws.{fed-on}

-- an answer with so many reply bytes, by what is carried on
said-count : (c : Carry) (m : ℕ) → replies_in (said_with c m) ≡ m
said-count c m = go c.stopped
  where
    go : (t : Bool) → replies_in (cond t (halted m c.offset) (gave m)) ≡ m
    go true = refl
    go false = refl

-- ---- a feed on a store that holds σ, of a stream that carries k

-- what it did, by what flowed
pub record Went (s c : List ℕ) (w : Flow) (n : ℕ) (s' c' p' : List ℕ) : Type 0 where
  pub holds : Holds s' w.state
  pub told : take n p' ≡ encode_all w.replies
  pub carried : c' ≡ carry_written w.carry ++ drop carry_bytes c
  pub same_length : length s' ≡ length s

module _ (s c q p s' c' p' : List ℕ) (a : Said) (σ : State) (k : Carry) (g : NotTurned a) (h : Holds s σ) (x : CarryAs c k) where
  abbrev Leaves : Verdict Onward → Type 0
  Leaves v = FollowsFeed v a s s' c c' p p'

  -- no row of another number applied
  passes : (t : Bool) (why : Turned) (v : Verdict Onward) → (number_of why ≡ 9 → ⊥) → Leaves (cond t (turned_away why) v) → (t ≡ false) × Leaves v
  passes true why v w l = absurd (w (subst NotTurned l.0 g))
  passes false why v w l = (refl, l)

  -- the stream had stopped before: nothing has changed
  stays : k.stopped ≡ true → Leaves (turned_away (BadRecord k.offset)) → Went s c (feed_on σ k q) (replies_in a) s' c' p'
  unfolding feed_on encode_all
  stays e l =
      let w : feed_on σ k q ≡ still σ k = ap (on_carry σ k q) e in
      let m : replies_in a ≡ 0 = ap replies_in l.0 in
      subst (λ (f : Flow). Went s c f (replies_in a) s' c' p') (sym w)
      (record {
        holds = subst (λ (y : List ℕ). Holds y σ) (sym l.1) h;
        told = ap (λ (i : ℕ). take i p') m;
        carried = l.2 ∙ sym (take-append-drop carry_bytes c) ∙ ap (λ (y : List ℕ). y ++ drop carry_bytes c) x.written;
        same_length = ap length l.1;
      })

  moves : Leaves (fed (feed_on σ k q)) → Went s c (feed_on σ k q) (replies_in a) s' c' p'
  moves l =
      let bs : List ℕ = encode_all (feed_on σ k q).replies in
      record {
        holds = l.1.holds;
        told = ap₂ take (ap replies_in l.0 ∙ said-count (feed_on σ k q).carry (length bs)) l.3 ∙ take_at bs (drop (length bs) p) (length bs) refl;
        carried = l.2;
        same_length = l.1.same_length;
      }

  went_on : Leaves (feed (reads σ) (carries k) q (length p)) → (runs_over k (length q) ≡ false) × Went s c (feed_on σ k q) (replies_in a) s' c' p'
  unfolding feed
  went_on l =
      let p1 = passes (runs_over k (length q)) BadCarry _ (λ e. omega arith) l in
      let p2 = passes (ltb most_request_bytes (length q)) LongRequests _ (λ e. omega arith) p1.1 in
      (p1.0, pick k.stopped refl p2.1)
    where
      rest : Verdict Onward
      rest = cond (ltb (length p) (room_for (completed k q))) (turned_away (NoRoom (room_for (completed k q)))) (fed (feed_on σ k q))

      pick : (t : Bool) → k.stopped ≡ t → Leaves (cond t (turned_away (BadRecord k.offset)) rest) → Went s c (feed_on σ k q) (replies_in a) s' c' p'
      pick true e l = stays e l
      pick false e l =
          moves (passes (ltb (length p) (room_for (completed k q))) (NoRoom (room_for (completed k q))) (fed (feed_on σ k q)) (λ e. omega arith) l).1

  -- what is carried on could be left
  next-carry : runs_over k (length q) ≡ false → Went s c (feed_on σ k q) (replies_in a) s' c' p' → CarryAs c' (feed_on σ k q).carry
  next-carry f w = carry-written (drop carry_bytes c) (feed_on σ k q).carry w.carried (feed-could σ k q x.could f)

-- the same of a feed whose store holds σ and whose record is k
pub record Onwards (s c : List ℕ) (σ : State) (k : Carry) (q : List ℕ) (n : ℕ) (s' c' p' : List ℕ) : Type 0 where
  pub went : Went s c (feed_on σ k q) n s' c' p'
  pub next : CarryAs c' (feed_on σ k q).carry

pub goes_on : {s c q p s' c' p' : List ℕ} (r : Result Fed Turned) {σ : State} {k : Carry} → Holds s σ → store_bytes ≤ length s → CarryAs c k
    → FedAs s c q p r s' c' p' → NotTurned (fed_says r) → Onwards s c σ k q (replies_in (fed_says r)) s' c' p'
goes_on {s} {c} {q} {p} {s'} {c'} {p'} r {σ} {k} h b x f g =
    let w = went_on s c q p s' c' p' (fed_says r) σ k g h x (fed-on (reads σ) (carries k) (b, h) x f) in
    record { went = w.1; next = next-carry s c q p s' c' p' (fed_says r) σ k g h x w.0 w.1 }

-- ---- a feed that goes on was lent a sound store and a record that a feed could have left

pub record Lent (x : Reads) (y : Carried) : Type 0 where
  pub state : State
  pub carry : Carry
  pub store_is : x ≡ reads state
  pub carry_is : y ≡ carries carry

-- another refusal does not go on
away : (why : Turned) (a : Said) → (number_of why ≡ 9 → ⊥) → NotTurned a → a ≡ turned (number_of why) (detail_of why) → ⊥
away why a w g e = w (subst NotTurned e g)

lent : (s c q p s' c' p' : List ℕ) (a : Said) → NotTurned a → (x : Reads) (y : Carried) → FollowsFeed (feed x y q (length p)) a s s' c c' p p' → Lent x y
unfolding feed
lent s c q p s' c' p' a g short y l = absurd (away ShortStore a (λ e. omega arith) g l.0)
lent s c q p s' c' p' a g damaged y l = absurd (away DamagedStore a (λ e. omega arith) g l.0)
lent s c q p s' c' p' a g (reads σ) unfit l = absurd (away BadCarry a (λ e. omega arith) g l.0)
lent s c q p s' c' p' a g (reads σ) (carries k) l = record { state = σ; carry = k; store_is = refl; carry_is = refl }

pub goes-lent : {s c q p s' c' p' : List ℕ} (r : Result Fed Turned) (f : FedAs s c q p r s' c' p') → NotTurned (fed_says r) → Lent f.store f.carry
goes-lent {s} {c} {q} {p} {s'} {c'} {p'} r f g = lent s c q p s' c' p' (fed_says r) g f.store f.carry f.leaves

-- ---- what it left is sound, and its record is none that is refused

after : {s c q p s' c' p' : List ℕ} (r : Result Fed Turned) (f : FedAs s c q p r s' c' p') (g : NotTurned (fed_says r)) → let l = goes-lent r f g in
    Onwards s c l.state l.carry q (replies_in (fed_says r)) s' c' p'
after {s} {c} r f g =
    let l = goes-lent r f g in
    let y : ReadsAs s (reads l.state) = subst (ReadsAs s) l.store_is f.store_is in
    goes_on r y.1 y.0 (subst (ReadsCarry c) l.carry_is f.carry_is) f g

pub fed_intact : {s c q p s' c' p' : List ℕ} (r : Result Fed Turned) → FedAs s c q p r s' c' p' → NotTurned (fed_says r) → ReadsAs s' damaged → ⊥
fed_intact {q = q} r f g d = let l = goes-lent r f g in d.1 (feed_on l.state l.carry q).state (after r f g).went.holds

pub fed_fit : {s c q p s' c' p' : List ℕ} (r : Result Fed Turned) → FedAs s c q p r s' c' p' → NotTurned (fed_says r) → ReadsCarry c' unfit → ⊥
fed_fit {q = q} r f g d = let l = goes-lent r f g in d (feed_on l.state l.carry q).carry (after r f g).next
