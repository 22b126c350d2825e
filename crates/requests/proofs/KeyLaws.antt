-- The requests that name a key: each answer of the rules from what the lookup found and what was read and moved.
-- Assumes nothing.
use mathlib.Core.Path.{◌≡◌, refl, ap, ◌∙◌, subst}
use mathlib.Core.List.{List, [], ◌∷◌}
use Prim.Native.Nat.{ℕ, ◌+◌, ◌<◌, min}
use native.Mathlib.Omega.{arith}
use Rattle.nodes.specs.declared.Shape.{Shape}
use Rattle.rules.specs.State.{Entry, max_freq, with_freq, raise, revalue, put_at, keyed, place, nowhere}
use Rattle.rules.specs.Records.{Request, GT, PK, RM, IN, MI, HI, RE, GO, Peeks, Outcome, says}
use Rattle.rules.specs.Requests.{apply, on_get, on_peek, on_remove, on_insert}
use Rattle.rules.proofs.StateLaws.{place_law}
use Rattle.rules.proofs.EngineLaws.{place_none}
use Rattle.store.specs.declared.QueueKind.{QueueKind}
use Rattle.store.specs.declared.Entry.{Entry as Entry·}
use Rattle.store.specs.declared.Lookup.{Lookup}
use Rattle.store.specs.declared.Lookup.TheVariants.{Resident, Ghost, Absent}
use Rattle.store.specs.Holds.{state_in, Held, Becomes}
use Rattle.store.specs.Entries.{entry_of, GetsEntry}
use Rattle.store.specs.Seats.{queue_kind, FreqSet, ValueReplaced, EntryRemoved}
use Rattle.store.specs.Looks.{Looks}
use Rattle.store.proofs.KeepsLaws.{seat-node, seat-entry}
use Rattle.wire.specs.declared.Reply.TheVariants.{Miss, Hit, Replaced, Gone}
use Rattle.handing.proofs.ComesLaws.{becomes-same}
use Rattle.requests.specs.declared.Spoken.{Spoken}
use Rattle.requests.specs.Answers.{spoken_of, alone, Answers}

-- an answer, from what the rules come to
pub answers : {z : Shape} {s s' : List ℕ} {q : Request} {a : Spoken} (o : Outcome) → apply (state_in z s) q ≡ o → Becomes z s s' o.state
    → spoken_of a ≡ o.replies → (Peeks q → s' ≡ s) → Answers z s s' q a
answers o e b r u = record { becomes = rw e b; replies = rw e r; untouched = u }

-- ---- a key that is not resident

pub record Nowhere (z : Shape) (s : List ℕ) (k : ℕ) : Type 0 where
  pub place_is : place k (state_in z s) ≡ nowhere

pub nowhere-keyed : {z : Shape} {s : List ℕ} {k : ℕ} → Nowhere z s k → keyed k (state_in z s) ≡ 0
nowhere-keyed {z} {s} {k} n = rw n.place_is at (place_law k (state_in z s))

module _ {z : Shape} {s : List ℕ} {k : ℕ} {r : Lookup} (l : Looks z s k r) where
  pub nowhere_ghost : {x : ℕ} → r ≡ Ghost x → Nowhere z s k
  nowhere_ghost {x} e = record { place_is = (l.is_ghost x e).place_is }

  pub nowhere-absent : r ≡ Absent → Nowhere z s k
  nowhere-absent e = record { place_is = place_none k (state_in z s) (omega (arith, (l.absent e).none)) }

-- no resident was found
pub nowhere_else : {z : Shape} {s : List ℕ} {k : ℕ} {r : Lookup} → Looks z s k r → ((q : QueueKind) (x : ℕ) → r ≡ Resident q x → ⊥) → Nowhere z s k
nowhere_else {r = Resident q x} l n = absurd (n q x refl)
nowhere_else {r = Ghost x} l n = nowhere_ghost l refl
nowhere_else {r = Absent} l n = nowhere-absent l refl

module _ {z : Shape} {s : List ℕ} {k : ℕ} (h : Held z s) (n : Nowhere z s k) {a : Spoken} (w : a ≡ alone Miss) where
  missed : (q : Request) → apply (state_in z s) q ≡ says (state_in z s) MI → Answers z s s q a
  missed q e = answers (says (state_in z s) MI) e (becomes-same h.keeps) (ap spoken_of w) (λ u. refl)

  pub get-miss : Answers z s s (GT k) a
  unfolding apply on_get
  get-miss = missed (GT k) (ap (on_get (state_in z s)) n.place_is)

  pub peek_miss : Answers z s s (PK k) a
  unfolding apply on_peek
  peek_miss = missed (PK k) (ap (on_peek (state_in z s)) n.place_is)

  pub remove_miss : Answers z s s (RM k) a
  unfolding apply on_remove
  remove_miss = missed (RM k) (ap (on_remove (state_in z s)) n.place_is)

-- ---- a resident key

module _ {z : Shape} {s : List ℕ} {k : ℕ} {r : Lookup} (l : Looks z s k r) {q : QueueKind} {x : ℕ} (e : r ≡ Resident q x) where
  pub resident-node : Held z s → x < z.room
  resident-node h = seat-node h.keeps (l.resident q x e).seat

  module _ {y : Entry·} (g : GetsEntry z s x y) where
    read : entry_of y ≡ (l.resident q x e).entry
    read = seat-entry (l.resident q x e).seat g

    old : y.value.0 ≡ (l.resident q x e).entry.value
    old = ap (λ (w : Entry). w.value) read

    -- the raised frequency is that of the rules
    frequency : {n : ℕ} → n ≡ min max_freq (y.freq + 1) → n ≡ min max_freq ((l.resident q x e).entry.freq + 1)
    frequency w = w ∙ ap (λ (d : Entry). min max_freq (d.freq + 1)) read

    pub get-hit : {n : ℕ} → n ≡ min max_freq (y.freq + 1) → {s' : List ℕ} → FreqSet z s s' x n → {a : Spoken} → a ≡ alone (Hit y.value)
        → Answers z s s' (GT k) a
    unfolding apply on_get
    get-hit w {s'} c d =
        let t = l.resident q x e in
        answers (says (put_at (queue_kind q) t.before (raise t.entry ∷ []) t.after (state_in z s)) (HI t.entry.value))
        (ap (on_get (state_in z s)) t.place_is)
        (subst (λ i. Becomes z s s' (put_at (queue_kind q) t.before (with_freq i t.entry ∷ []) t.after (state_in z s))) (frequency w)
        (c.of (queue_kind q) t.before t.entry t.after t.seat))
        (ap spoken_of d ∙ ap (λ i. HI i ∷ []) old) (λ u. absurd u)

    pub peek_hit : Held z s → {a : Spoken} → a ≡ alone (Hit y.value) → Answers z s s (PK k) a
    unfolding apply on_peek
    peek_hit h d =
        let t = l.resident q x e in
        answers (says (state_in z s) (HI t.entry.value)) (ap (on_peek (state_in z s)) t.place_is) (becomes-same h.keeps)
        (ap spoken_of d ∙ ap (λ i. HI i ∷ []) old) (λ u. refl)

    pub remove_gone : {s' : List ℕ} → EntryRemoved z s s' (queue_kind q) x → {a : Spoken} → a ≡ alone (Gone y.value) → Answers z s s' (RM k) a
    unfolding apply on_remove
    remove_gone c d =
        let t = l.resident q x e in
        answers (says (put_at (queue_kind q) t.before [] t.after (state_in z s)) (GO t.entry.value)) (ap (on_remove (state_in z s)) t.place_is)
        (c.of t.before t.entry t.after t.seat)
        (ap spoken_of d ∙ ap (λ i. GO i ∷ []) old) (λ u. absurd u)

    pub insert_over : {n u : ℕ} → n ≡ min max_freq (y.freq + 1) → {s' : List ℕ} → ValueReplaced z s s' x u n → {a : Spoken} → a ≡ alone (Replaced y.value)
        → Answers z s s' (IN k u) a
    unfolding apply on_insert
    insert_over {u = u} w {s'} c d =
        let t = l.resident q x e in
        answers (says (put_at (queue_kind q) t.before (revalue u (raise t.entry) ∷ []) t.after (state_in z s)) (RE t.entry.value))
        (ap (on_insert k u (state_in z s)) t.place_is)
        (subst (λ i. Becomes z s s' (put_at (queue_kind q) t.before (revalue u (with_freq i t.entry) ∷ []) t.after (state_in z s))) (frequency w)
        (c.of (queue_kind q) t.before t.entry t.after t.seat))
        (ap spoken_of d ∙ ap (λ i. RE i ∷ []) old) (λ u. absurd u)
