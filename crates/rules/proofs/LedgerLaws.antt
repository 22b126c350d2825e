-- Demand 3: nothing leaves untold (RULES 11).
-- Assumes nothing.
use Prim.Native.Nat.{ℕ, ◌+◌, ◌≤◌}
use native.Mathlib.Omega.{arith}
use mathlib.Core.Path.{◌≡◌, refl, ap, ◌∙◌, sym}
use mathlib.Core.Logic.{inl, inr}
use mathlib.Core.Bool.{Bool, true, false, cond, ◌&&◌}
use mathlib.Core.List.{List, [], ◌∷◌, ◌++◌, append_assoc, append-nil}
use lib.Dec.{eqb}
use borrow.Author.Tests.{eqb-true, eq-eqb}
use Rattle.rules.specs.Parts.{bit, total, pop_tail}
use Rattle.rules.specs.State.{Entry, Limits, State, Queue, Small, Main, key_is, fresh, raise, revalue, cool, queue_of, set_ghosts, empty_at, residents}
use Rattle.rules.specs.State.{keyed, Place, nowhere, here, place, Fine, Sound}
use Rattle.rules.specs.Records.{Request, GT, PK, RM, IN, EV, CL, Reply, NW, AllNarrow, tell_first}
use Rattle.rules.specs.Ghosts.{Removed, remove_ghost}
use Rattle.rules.specs.Eviction.{tell, Evicted, evict_if_full}
use Rattle.rules.specs.Requests.{run, apply, on_get, on_peek, on_remove, on_insert, on_new, on_first, on_evict_one, admits, arrive, first_queue}
use Rattle.rules.specs.Ledger.{same, held, handed_in, handed_out, clears, Answered, history}
use Rattle.rules.specs.Ledger.{Ledger, blank, opens, booked, ledger, Balanced, replies_of, served, histories, joined}
use Rattle.rules.specs.Demand3.{FullInsert, Demand3, EachNarrow}
use Rattle.rules.proofs.PartsLaws.{total-append, pop_law}
use Rattle.rules.proofs.StateLaws.{push_total, pop_total, put-total, back_total, Places, place_law}
use Rattle.rules.proofs.SoundLaws.{Roomy, roomy_law, walk-total, Ends, first_ends, apply-sound, run_sound, empty-sound}

module _ (k v : ℕ) where
  abbrev pair : Entry → ℕ
  pair e = same k v e.key e.value

  cool-pair : (q : Queue) (e : Entry) → pair (cool q e) ≡ pair e
  cool-pair Small e = refl
  cool-pair Main e = refl

  -- what the replies to a request hand out
  abbrev out : Request → List Reply → ℕ
  out r rs = total (handed_out k v r) rs

  told-out : (r : Request) (q : Queue) (e : Entry) → handed_out k v r (tell q e) ≡ pair e
  told-out r Small e = refl
  told-out r Main e = refl

  roomy_ledger : (r : Request) (σ : State) (w : Evicted) → Roomy σ w → held k v w.state + out r w.told ≡ held k v σ
  roomy_ledger r σ w (inl h) = rw h.1 (omega arith)
  roomy_ledger r σ w (inr h) =
      let v = h.1 in
      omega (arith, ap (out r) v.told_is, told-out r v.queue v.entry, walk-total pair cool-pair v.walk)

  get_ledger : (a : ℕ) (σ : State) (p : Place) → Places a σ p → held k v (on_get σ p).state + out (GT a) (on_get σ p).replies ≡ held k v σ
  unfolding on_get
  get_ledger a σ nowhere h = omega arith
  get_ledger a σ (here q b e c) h = omega (arith, put-total pair q b e (raise e ∷ []) c σ h.0)

  peek_ledger : (a : ℕ) (σ : State) (p : Place) → held k v (on_peek σ p).state + out (PK a) (on_peek σ p).replies ≡ held k v σ
  unfolding on_peek
  peek_ledger a σ nowhere = omega arith
  peek_ledger a σ (here q b e c) = omega arith

  remove_ledger : (a : ℕ) (σ : State) (p : Place) → Places a σ p → held k v (on_remove σ p).state + out (RM a) (on_remove σ p).replies ≡ held k v σ
  unfolding on_remove
  remove_ledger a σ nowhere h = omega arith
  remove_ledger a σ (here q b e c) h =
      omega (arith, put-total pair q b e [] c σ h.0, ap (λ x. same k v x e.value) (eqb-true a e.key h.1))

  arrive-ledger : (q : Queue) (a b : ℕ) (σ : State) (w : Evicted) → Roomy σ w
      → held k v (arrive q a b w).state + out (IN a b) (arrive q a b w).replies ≡ same k v a b + held k v σ
  arrive-ledger q a b σ w r =
      omega (arith, push_total pair q (fresh a b) w.state, total-append (handed_out k v (IN a b)) w.told (NW w.pops ∷ []), roomy_ledger (IN a b) σ w r)

  new-ledger : (a b : ℕ) (σ : State) (w : Removed) → Sound σ
      → held k v (on_new a b σ w).state + out (IN a b) (on_new a b σ w).replies ≡ same k v a b + held k v σ
  unfolding on_new
  new-ledger a b σ w s = let τ = set_ghosts w.ghosts σ in arrive-ledger (admits w.was) a b τ (evict_if_full τ) (roomy_law τ s.fine)

  insert_ledger : (a b : ℕ) (σ : State) (p : Place) → Places a σ p → Sound σ
      → held k v (on_insert a b σ p).state + out (IN a b) (on_insert a b σ p).replies ≡ same k v a b + held k v σ
  unfolding on_insert
  insert_ledger a b σ nowhere h s = new-ledger a b σ (remove_ghost a σ.ghosts) s
  insert_ledger a b σ (here q x e y) h s =
      omega (
        arith,
        put-total pair q x e (revalue b (raise e) ∷ []) y σ h.0,
        ap (λ z. same k v z e.value) (eqb-true a e.key h.1),
        ap (λ z. same k v z b) (eqb-true a e.key h.1),
      )

  ledger-ends : Ends (λ σ o. held k v o.state + out EV o.replies ≡ held k v σ)
  ledger-ends =
      record {
        none = λ σ. omega arith;
        handed = λ q r e σ h. omega (arith, pop_total pair q r e σ h);
        sent = λ q r e σ h l. omega (arith, back_total pair q r e σ h, cool-pair q e);
      }

  evict-one-ledger : (σ : State) (w : Evicted) → Roomy σ w → held k v (on_evict_one w).state + out EV (on_evict_one w).replies ≡ held k v σ
  unfolding on_evict_one
  evict-one-ledger σ w r =
      let τ = w.state in
      let q = first_queue τ in
      let p = pop_tail (queue_of q τ) in
      let o = on_first q τ p in
      omega (arith, roomy_ledger EV σ w r, first_ends ledger-ends q τ p (pop_law (queue_of q τ)), total-append (handed_out k v EV) w.told o.replies)

  -- one request
  pub apply-ledger : (σ : State) (r : Request) → Sound σ → clears r ≡ false
      → held k v (apply σ r).state + out r (apply σ r).replies ≡ handed_in k v r + held k v σ
  unfolding apply
  apply-ledger σ (GT a) s n = omega (arith, get_ledger a σ (place a σ) (place_law a σ))
  apply-ledger σ (PK a) s n = omega (arith, peek_ledger a σ (place a σ))
  apply-ledger σ (RM a) s n = omega (arith, remove_ledger a σ (place a σ) (place_law a σ))
  apply-ledger σ (IN a b) s n = insert_ledger a b σ (place a σ) (place_law a σ) s
  apply-ledger σ EV s n = omega (arith, evict-one-ledger σ (evict_if_full σ) (roomy_law σ s.fine))
  apply-ledger σ CL s n = let z : ◌≡◌ {A = ℕ} 0 1 = cc in omega arith

  clear_holds : (σ : State) (r : Request) → clears r ≡ true → held k v (apply σ r).state ≡ 0
  unfolding apply
  clear_holds σ (GT a) h = let z : ◌≡◌ {A = ℕ} 0 1 = cc in absurd (omega arith)
  clear_holds σ (PK a) h = let z : ◌≡◌ {A = ℕ} 0 1 = cc in absurd (omega arith)
  clear_holds σ (RM a) h = let z : ◌≡◌ {A = ℕ} 0 1 = cc in absurd (omega arith)
  clear_holds σ (IN a b) h = let z : ◌≡◌ {A = ℕ} 0 1 = cc in absurd (omega arith)
  clear_holds σ EV h = let z : ◌≡◌ {A = ℕ} 0 1 = cc in absurd (omega arith)
  clear_holds σ CL h = refl

  book : (σ : State) (r : Request) (l : Ledger) → Sound σ → Balanced k v l σ → (t : Bool) → clears r ≡ t
      → Balanced k v (cond t blank (record { taken = l.taken + handed_in k v r; given = l.given + out r (apply σ r).replies })) (apply σ r).state
  book σ r l s b true e = record { untold = omega (arith, clear_holds σ r e) }
  book σ r l s b false e = record { untold = omega (arith, apply-ledger σ r s e, b.untold) }

  -- a run of requests keeps the ledger balanced, whatever stood in it before
  pub run-ledger : (σ : State) (rs : List Request) (l : Ledger) → AllNarrow rs → Sound σ → Balanced k v l σ
      → Balanced k v (ledger k v (history σ rs) l) (run σ rs).state
  unfolding run history ledger
  run-ledger σ [] l z s b = b
  run-ledger σ (r ∷ rs) l z s b =
      let a : Answered = record { request = r; replies = (apply σ r).replies } in
      run-ledger (apply σ r).state rs (booked k v a l) z.1 (apply-sound σ r z.0 s) (book σ r l s b (clears r) refl)

  ledger-append : (a b : List Answered) (l : Ledger) → ledger k v (a ++ b) l ≡ ledger k v b (ledger k v a l)
  unfolding ledger
  ledger-append [] b l = refl
  ledger-append (x ∷ a) b l = ledger-append a b (booked k v x l)

-- ---- an absent key and a full cache

bit_and : (s t : Bool) → bit (s && t) ≤ bit s
bit_and true true = omega arith
bit_and true false = omega arith
bit_and false t = omega arith

held_in : (k v : ℕ) (l : List Entry) → total (λ e. same k v e.key e.value) l ≤ total (λ e. bit (key_is k e)) l
held_in k v [] = omega arith
held_in k v (e ∷ l) = omega (arith, held_in k v l, bit_and (eqb k e.key) (eqb v e.value))

same_self : (k v : ℕ) → same k v k v ≡ 1
same_self k v = rw (eq-eqb k k refl, eq-eqb v v refl)

arrive-full : (k v : ℕ) (σ : State) (w : Evicted) → σ.limits.capacity ≤ residents σ → keyed k σ ≡ 0
    → Roomy (set_ghosts (remove_ghost k σ.ghosts).ghosts σ) w → FullInsert k v σ (arrive (admits (remove_ghost k σ.ghosts).was) k v w)
arrive-full k v σ w full absent (inl h) = absurd (omega (arith, h.0))
arrive-full k v σ w full absent (inr h) =
    let r = h.1 in
    let τ = w.state in
    record {
      queue = r.queue;
      entry = r.entry;
      pops = w.pops;
      freed = τ;
      walk = r.walk;
      few = r.few;
      told = rw r.told_is;
      pushed = refl;
      resident =
          omega (
            arith,
            push_total (λ e. same k v e.key e.value) (admits (remove_ghost k σ.ghosts).was) (fresh k v) τ,
            same_self k v,
            held_in k v τ.small,
            held_in k v τ.main,
            walk-total (λ e. bit (key_is k e)) (blind k) r.walk,
            absent,
          );
    }
  where
    blind : (k : ℕ) (p : Queue) (e : Entry) → bit (key_is k (cool p e)) ≡ bit (key_is k e)
    blind k Small e = refl
    blind k Main e = refl

new-full : (k v : ℕ) (σ : State) → Sound σ → σ.limits.capacity ≤ residents σ → keyed k σ ≡ 0 → FullInsert k v σ (on_new k v σ (remove_ghost k σ.ghosts))
unfolding on_new
new-full k v σ s full absent =
    let τ = set_ghosts (remove_ghost k σ.ghosts).ghosts σ in arrive-full k v σ (evict_if_full τ) full absent (roomy_law τ s.fine)

insert_full : (k v : ℕ) (σ : State) (p : Place) → Places k σ p → keyed k σ ≡ 0 → Sound σ → σ.limits.capacity ≤ residents σ
    → FullInsert k v σ (on_insert k v σ p)
unfolding on_insert
insert_full k v σ nowhere h absent s full = new-full k v σ s full absent
insert_full k v σ (here q b e a) h absent s full =
    absurd (omega (arith, put-total (λ x. bit (key_is k x)) q b e [] a σ h.0, ap bit h.1))

pub full_insert : (k v : ℕ) (σ : State) → Sound σ → keyed k σ ≡ 0 → residents σ ≡ σ.limits.capacity → FullInsert k v σ (apply σ (IN k v))
unfolding apply
full_insert k v σ s absent full = insert_full k v σ (place k σ) (place_law k σ) absent s (omega arith)

-- ---- demand 3, put together

pub served-sound : (σ : State) (calls : List (List Request)) → EachNarrow calls → Sound σ → Sound (served σ calls)
unfolding served
served-sound σ [] z s = s
served-sound σ (rs ∷ calls) z s = served-sound (run σ rs).state calls z.1 (run_sound σ rs z.0 s)

pub served-ledger : (k v : ℕ) (σ : State) (calls : List (List Request)) (l : Ledger) → EachNarrow calls → Sound σ → Balanced k v l σ
    → Balanced k v (ledger k v (histories σ calls) l) (served σ calls)
unfolding served histories ledger
served-ledger k v σ [] l z s b = b
served-ledger k v σ (rs ∷ calls) l z s b =
    rw (ledger-append k v (history σ rs) (histories (run σ rs).state calls) l)
    (served-ledger k v (run σ rs).state calls (ledger k v (history σ rs) l) z.1 (run_sound σ rs z.0 s) (run-ledger k v σ rs l z.0 s b))

-- from any sound state on, through any calls
pub demand_3_from : (σ : State) (calls : List (List Request)) → Sound σ → EachNarrow calls → Demand3 σ (served σ calls) (histories σ calls)
demand_3_from σ calls e z =
    let s = served-sound σ calls z e in
    record {
      untold = λ k v. served-ledger k v σ calls (opens k v σ) z e (record { untold = omega arith });
      once = s.once;
      full = λ k v. full_insert k v (served σ calls) s;
    }

-- from a creation on: the ledger opens blank
pub demand_3 : (L : Limits) (calls : List (List Request)) → Fine L → EachNarrow calls
    → Demand3 (empty_at L) (served (empty_at L) calls) (histories (empty_at L) calls)
demand_3 L calls f z = demand_3_from (empty_at L) calls (empty-sound L f) z

-- the same of one run of requests
pub demand_3_run : (σ : State) (rs : List Request) → Sound σ → AllNarrow rs → Demand3 σ (run σ rs).state (history σ rs)
unfolding served histories
demand_3_run σ rs s z = rw (append-nil (history σ rs)) at (demand_3_from σ (rs ∷ []) s (z, tt))

-- ---- where the requests are cut into calls makes no difference

pub run-append : (σ : State) (a b : List Request) → run σ (a ++ b) ≡ tell_first (run σ a).replies (run (run σ a).state b)
unfolding run
run-append σ [] b = refl
run-append σ (r ∷ a) b = rw (run-append (apply σ r).state a b, append_assoc)

pub history-append : (σ : State) (a b : List Request) → history σ (a ++ b) ≡ history σ a ++ history (run σ a).state b
unfolding run history
history-append σ [] b = refl
history-append σ (r ∷ a) b = ap (λ h. record { request = r; replies = (apply σ r).replies } ∷ h) (history-append (apply σ r).state a b)

pub served-once : (σ : State) (calls : List (List Request)) → served σ calls ≡ (run σ (joined calls)).state
unfolding served run
served-once σ [] = refl
served-once σ (rs ∷ calls) = served-once (run σ rs).state calls ∙ ap (λ o. o.state) (sym (run-append σ rs (joined calls)))

pub histories-once : (σ : State) (calls : List (List Request)) → histories σ calls ≡ history σ (joined calls)
unfolding histories history
histories-once σ [] = refl
histories-once σ (rs ∷ calls) = ap (λ h. history σ rs ++ h) (histories-once (run σ rs).state calls) ∙ sym (history-append σ rs (joined calls))

-- the replies of a history are those of the run
pub history-replies : (σ : State) (rs : List Request) → replies_of (history σ rs) ≡ (run σ rs).replies
unfolding run history
history-replies σ [] = refl
history-replies σ (r ∷ rs) = ap (λ l. (apply σ r).replies ++ l) (history-replies (apply σ r).state rs)
