-- The laws of the ghost list's functions: each answer of the rules from what was found and moved.
-- Assumes nothing.
use mathlib.Core.Path.{◌≡◌, refl, sym, ap, ◌∙◌}
use mathlib.Core.Bool.{Bool, true, false, cond}
use mathlib.Core.List.{List, [], ◌∷◌, ◌++◌, append-nil}
use mathlib.Core.Option.{some}
use Prim.Native.Nat.{ℕ, suc, ◌≤◌, ◌<◌}
use native.Mathlib.Omega.{arith}
use lib.Dec.{eqb, ltb}
use lib.ListN.{length}
use borrow.Author.Tests.{eq-eqb, ltb-true, ltb-false}
use Rattle.std.specs.Prelude.{Option, Some, None}
use Rattle.nodes.specs.declared.Shape.{Shape}
use Rattle.rules.specs.declared.GuestBlock.{GuestBlock}
use Rattle.rules.specs.Parts.{bit, total, missing, split_by}
use Rattle.rules.specs.State.{Entry, State, Queue, Small, key_is, queue_of, set_queue, set_ghosts, over_all, residents, keyed, places}
use Rattle.rules.specs.Ghosts.{Given, keeps, dropped, in_front, evict_lru, record_ghost, without, remove_ghost}
use Rattle.rules.specs.Eviction.{ghosted}
use Rattle.rules.proofs.PartsLaws.{nil}
use Rattle.rules.proofs.StateLaws.{put-total}
use Rattle.rules.proofs.GhostsLaws.{lru_total, lru_less, record-zero, record-there, record-room, record-full, record-over}
use Rattle.rules.proofs.EngineLaws.{pop_is, split-none}
use Rattle.store.specs.Holds.{state_in, rest_in, Keeps, Held, Becomes}
use Rattle.store.specs.Entries.{GetsGhost}
use Rattle.store.specs.declared.QueueKind.{QueueKind}
use Rattle.store.specs.declared.Lookup.{Lookup}
use Rattle.store.specs.declared.Lookup.TheVariants.{Resident, Ghost, Absent}
use Rattle.store.specs.Seats.{queue_kind, Seat, Tail, Oldest, DetachedToGhosts, GhostRemoved, Fronted, CanPushFront, PushedFront}
use Rattle.store.specs.Looks.{Lacks, Looks}
use Rattle.store.proofs.KeepsLaws.{ghost_key, ghost_seat-ghosts, seat-queue, becomes_then}
use Rattle.ghost_list.specs.Ghosts.{Gave, Recorded, Lost, RoomMade, Trimmed, Took, Emptied, RecordedTail}

-- the ghosts of the state that a store reads as, and their limit
abbrev ghosts_in : Shape → List ℕ → List ℕ
ghosts_in z s = (state_in z s).ghosts

abbrev ghost_limit_in : Shape → List ℕ → ℕ
ghost_limit_in z s = (state_in z s).limits.ghost_limit

-- an entry of a queue counts
in-queue : (q : Queue) (σ : State) (b : List Entry) (e : Entry) (a : List Entry) → queue_of q σ ≡ b ++ (e ∷ a) → (f : Entry → ℕ) → f e ≤ over_all f σ
in-queue q σ b e a h f = omega (arith, put-total f q b e [] a σ h)

-- ---- nothing happens

same-ghosts : (z : Shape) (s : List ℕ) → Keeps z s → Becomes z s s (set_ghosts (ghosts_in z s) (state_in z s))
same-ghosts z s k = record { keeps = k; state = refl; rest = refl }

-- ---- evict_lru

lru_last : (b : List ℕ) (k : ℕ) → evict_lru (b ++ (k ∷ [])) ≡ record { ghosts = b; back = some k }
unfolding evict_lru
lru_last b k = ap dropped (pop_is b k)

lru_none : (g : List ℕ) → g ≡ [] → evict_lru g ≡ keeps g
unfolding evict_lru
lru_none g h = rw h

pub lost_none : {z : Shape} {s : List ℕ} → Keeps z s → {n : ℕ} → n ≡ length (ghosts_in z s) → n ≡ 0 → Lost z s s None
lost_none {z} {s} k e h =
    let w = lru_none (ghosts_in z s) (nil (ghosts_in z s) (sym e ∙ h)) in
    record { gave = record { becomes = rw w (same-ghosts z s k); back = rw w } }

pub lost_last : {z : Shape} {s s' : List ℕ} {x : ℕ} → Oldest z s x → {k : GuestBlock} → GetsGhost z s x k → GhostRemoved z s s' x → Lost z s s' (Some k)
lost_last {z} {s} {s'} {x} o {k} r m =
    let w : evict_lru (ghosts_in z s) ≡ record { ghosts = o.before; back = some o.key } =
    ap evict_lru (ghost_seat-ghosts z s o.seat) ∙ lru_last o.before o.key in
    let c = m.of o.before o.key [] o.seat in
    record {
      gave = record { becomes = rw (w, ← append-nil o.before) c; back = rw w (ap some (ghost_key o.seat r)) };
    }

-- ---- remove

module _ {z : Shape} {s : List ℕ} {k : ℕ} where
  pub took_there : {s' : List ℕ} {r : Lookup} → Looks z s k r → {x : ℕ} → r ≡ Ghost x → GhostRemoved z s s' x → Took z s s' k true
  unfolding remove_ghost
  took_there l {x} e m =
      let h = l.is_ghost x e in
      let w : remove_ghost k (ghosts_in z s) ≡ record { ghosts = h.before ++ h.after; was = true } = ap (without (ghosts_in z s)) h.split_is in
      record { becomes = rw w (m.of h.before k h.after h.seat); was = rw w }

  not_there : Keeps z s → total (λ y. bit (eqb k y)) (ghosts_in z s) ≡ 0 → Took z s s k false
  unfolding remove_ghost
  not_there p h =
      let n = split-none (eqb k) (ghosts_in z s) h in
      let w : remove_ghost k (ghosts_in z s) ≡ record { ghosts = ghosts_in z s; was = false } = ap (without (ghosts_in z s)) n in
      record { becomes = rw w (same-ghosts z s p); was = rw w }

  -- a resident key is no ghost
  took_resident : Held z s → {r : Lookup} → Looks z s k r → {q : QueueKind} {x : ℕ} → r ≡ Resident q x → Took z s s k false
  took_resident h l {q} {x} e =
      let t = l.resident q x e in
      let m = in-queue (queue_kind q) (state_in z s) t.before t.entry t.after (seat-queue z s t.seat) in
      not_there h.keeps (omega (arith, h.sound.once k, m (λ y. bit (key_is k y)), ap bit (eq-eqb k t.entry.key (sym t.key))))

  took_absent : Held z s → {r : Lookup} → Looks z s k r → r ≡ Absent → Took z s s k false
  took_absent h l e = not_there h.keeps (omega (arith, (l.absent e).none))

  pub took_elsewhere : Held z s → {r : Lookup} → Looks z s k r → ((x : ℕ) → r ≡ Ghost x → ⊥) → Took z s s k false
  took_elsewhere h {r = Resident q x} l n = took_resident h l refl
  took_elsewhere h {r = Ghost x} l n = absurd (n x refl)
  took_elsewhere h {r = Absent} l n = took_absent h l refl

-- ---- record

module _ {z : Shape} {s : List ℕ} (k : ℕ) where
  recorded : {s' : List ℕ} {r : Option GuestBlock} (w : Given) → record_ghost (ghost_limit_in z s) k (ghosts_in z s) ≡ w → Gave z s s' w r → Recorded z s s' k r
  recorded w e g = record { gave = rw e g }

  pub recorded-zero : Held z s → {n : ℕ} → n ≡ ghost_limit_in z s → n ≡ 0 → Recorded z s s k None
  recorded-zero h e q =
      recorded (keeps (ghosts_in z s)) (record-zero (ghost_limit_in z s) k (ghosts_in z s) (sym e ∙ q))
      (record { becomes = same-ghosts z s h.keeps; back = refl })

  module _ {n : ℕ} (e : n ≡ ghost_limit_in z s) (some : n ≡ 0 → ⊥) {r : Lookup} (l : Looks z s k r) where
    pub recorded-there : {s' : List ℕ} {x : ℕ} → r ≡ Ghost x → Fronted z s s' x → Recorded z s s' k None
    recorded-there {s'} {x} q m =
        let h = l.is_ghost x q in
        recorded (keeps (k ∷ (h.before ++ h.after))) (record-there (ghost_limit_in z s) k (ghosts_in z s) h.before k h.after (omega arith) h.split_is)
        (record { becomes = m.of h.before k h.after h.seat; back = refl })

    -- a key that is resident is not recorded
    pub not-resident : keyed k (state_in z s) ≡ 0 → {q : QueueKind} {x : ℕ} → r ≡ Resident q x → Recorded z s s k None
    not-resident nil {q} {x} w =
        let t = l.resident q x w in
        let m = in-queue (queue_kind q) (state_in z s) t.before t.entry t.after (seat-queue z s t.seat) (λ y. bit (key_is k y)) in
        absurd (omega (arith, nil, m, ap bit (eq-eqb k t.entry.key (sym t.key))))

  module _ (h : Held z s) (lack : Lacks z s k) (some : 1 ≤ ghost_limit_in z s) {s₁ : List ℕ} {r : Option GuestBlock} (g : RoomMade z s s₁ r) where
    missing-is : split_by (eqb k) (ghosts_in z s) ≡ missing
    missing-is = split-none (eqb k) (ghosts_in z s) (omega (arith, lack.none))

    -- what making room leaves has no k, and is short of the limit
    room_for : (t : Bool) → ltb (length (ghosts_in z s)) (ghost_limit_in z s) ≡ t
        → (total (λ y. bit (eqb k y)) (cond t (keeps (ghosts_in z s)) (evict_lru (ghosts_in z s))).ghosts ≡ 0)
        × (length (cond t (keeps (ghosts_in z s)) (evict_lru (ghosts_in z s))).ghosts < ghost_limit_in z s)
    room_for true e = (omega (arith, lack.none), omega (arith, ltb-true))
    room_for false e = (omega (arith, lack.none, lru_total (λ y. bit (eqb k y)) (ghosts_in z s)), omega (arith, lru_less (ghosts_in z s), h.sound.few_ghosts))

    pub can_push : CanPushFront z s₁ k
    can_push =
        let w = g.gave.becomes.state in
        let f = room_for (ltb (length (ghosts_in z s)) (ghost_limit_in z s)) refl in
        record {
          none = omega (arith, lack.none, ap (places k) w, f.0);
          within = omega (arith, h.sound.within, ap residents w, ap (λ (y : State). y.limits.capacity) w);
          fewer = omega (arith, f.1, ap (λ (y : State). length y.ghosts) w, ap (λ (y : State). y.limits.ghost_limit) w);
        }

    by_test : (t : Bool) → ltb (length (ghosts_in z s)) (ghost_limit_in z s) ≡ t
        → record_ghost (ghost_limit_in z s) k (ghosts_in z s) ≡ in_front k (cond t (keeps (ghosts_in z s)) (evict_lru (ghosts_in z s)))
    by_test true e = record-room (ghost_limit_in z s) k (ghosts_in z s) (ltb-true _ _ e) missing-is
    by_test false e = record-full (ghost_limit_in z s) k (ghosts_in z s) some (ltb-false _ _ e) missing-is

    pub recorded-new : {s' : List ℕ} → PushedFront z s₁ s' k → Recorded z s s' k r
    recorded-new b =
        recorded _ (by_test (ltb (length (ghosts_in z s)) (ghost_limit_in z s)) refl)
        (record { becomes = becomes_then g.gave.becomes (rw g.gave.becomes.state at b.becomes); back = g.gave.back })

-- ---- record_tail

pub detached-keeps : {z : Shape} {s s₁ : List ℕ} {x : ℕ} → Tail z s Small x → DetachedToGhosts z s s₁ Small x → Keeps z s₁
detached-keeps t m = (m.of t.before t.entry [] t.seat).keeps

-- the key in front, and the oldest dropped where there is one too many: recording
by_trim : (limit k : ℕ) (g : List ℕ) → length g ≤ limit → split_by (eqb k) g ≡ missing → (t : Bool) → ltb limit (suc (length g)) ≡ t
    → (record_ghost limit k g).ghosts ≡ cond t (evict_lru (k ∷ g)).ghosts (k ∷ g)
by_trim limit k g h e true q = record-over limit k g h (ltb-true limit (suc (length g)) q) e
by_trim limit k g h e false q = ap (λ (w : Given). w.ghosts) (record-room limit k g (ltb-false limit (suc (length g)) q) e)

module _ {z : Shape} {s s₁ s₂ : List ℕ} {x : ℕ} (h : Held z s) (m : DetachedToGhosts z s s₁ Small x) (r : Trimmed z s₁ s₂) where
  module _ (b : List Entry) (e : Entry) (t : Seat z s Small x b e []) where
    fell : Becomes z s s₁ (set_ghosts (e.key ∷ ghosts_in z s) (set_queue Small b (state_in z s)))
    fell = rw (← append-nil b) (m.of b e [] t)

    no_ghost : split_by (eqb e.key) (ghosts_in z s) ≡ missing
    no_ghost =
        let n = in-queue Small (state_in z s) b e [] (seat-queue z s t) (λ y. bit (key_is e.key y)) in
        split-none (eqb e.key) (ghosts_in z s) (omega (arith, h.sound.once e.key, ap bit (eq-eqb e.key e.key refl)))

    tail-recorded : Becomes z s s₂ (ghosted Small e (set_queue Small b (state_in z s)))
    tail-recorded =
        let w =
        by_trim (ghost_limit_in z s) e.key (ghosts_in z s) h.sound.few_ghosts no_ghost
        (ltb (ghost_limit_in z s) (suc (length (ghosts_in z s)))) refl in
        rw w (becomes_then fell (rw fell.state at r.becomes))

  pub recorded-tail : RecordedTail z s s₂ x
  recorded-tail = record { of = tail-recorded }

-- ---- clear

-- what is left when all ghosts are gone is as it was
pub record Clearing (z : Shape) (s₀ s : List ℕ) : Type 0 where
  pub keeps : Keeps z s
  pub state : set_ghosts [] (state_in z s) ≡ set_ghosts [] (state_in z s₀)
  pub rest : rest_in z s ≡ rest_in z s₀
  pub same : length s ≡ length s₀

pub ghosts_left : Shape → List ℕ → ℕ
ghosts_left z s = length (ghosts_in z s)

pub clearing_start : {z : Shape} {s : List ℕ} → Keeps z s → Clearing z s s
clearing_start k = record { keeps = k; state = refl; rest = refl; same = refl }

module _ {z : Shape} {s₀ s : List ℕ} (c : Clearing z s₀ s) where
  pub clearing_next : {s₁ : List ℕ} {r : Option GuestBlock} → Lost z s s₁ r → length s₁ ≡ length s → Clearing z s₀ s₁
  clearing_next g n =
      let b = g.gave.becomes in
      record { keeps = b.keeps; state = ap (set_ghosts []) b.state ∙ c.state; rest = b.rest ∙ c.rest; same = n ∙ c.same }

  pub clearing_less : {n : ℕ} → n ≡ length (ghosts_in z s) → 0 < n → {s₁ : List ℕ} {r : Option GuestBlock} → Lost z s s₁ r → ghosts_left z s₁ < ghosts_left z s
  unfolding ghosts_left
  clearing_less e h g = omega (arith, ap (λ (y : State). length y.ghosts) g.gave.becomes.state, lru_less (ghosts_in z s))

  pub clearing_end : {n : ℕ} → n ≡ length (ghosts_in z s) → n ≤ 0 → Emptied z s₀ s
  clearing_end e h =
      let z₀ = nil (ghosts_in z s) (omega arith) in
      record { becomes = record { keeps = c.keeps; state = ap (λ (g : List ℕ). set_ghosts g (state_in z s)) z₀ ∙ c.state; rest = c.rest } }
