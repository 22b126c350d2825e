-- The replies to a request take no more bytes than the table's reply room.
-- Assumes nothing.
use Prim.Native.Nat.{ℕ, suc, ◌≤◌}
use native.Mathlib.Omega.{arith}
use mathlib.Core.Path.{◌≡◌, refl, ap, sym, ◌∙◌}
use mathlib.Core.Logic.{inl, inr}
use mathlib.Core.List.{List, [], ◌∷◌, ◌++◌, append_assoc}
use lib.ListN.{length, length-append}
use Rattle.rules.specs.declared.Kind.TheVariants.{Get, Peek, Remove, Insert, Evict}
use Rattle.rules.specs.Parts.{total, pop_tail}
use Rattle.rules.specs.State.{Entry, State, Queue, Small, Main, queue_of, set_ghosts, Place, nowhere, here, place, Sound}
use Rattle.rules.specs.Records.{Request, GT, PK, RM, IN, EV, CL, Reply, MI, OK, HI, RE, NW, GO, EX, ES, EM, AllNarrow}
use Rattle.rules.specs.Ghosts.{Removed, remove_ghost}
use Rattle.rules.specs.Eviction.{tell, Evicted, evict_if_full}
use Rattle.rules.specs.Requests.{run, apply, on_get, on_peek, on_remove, on_insert, on_new, on_first, on_evict_one, admits, arrive, first_queue}
use Rattle.rules.specs.Bytes.{bytes_of, encode, encode_all, row, room_of, room_for}
use Rattle.rules.proofs.PartsLaws.{total-append, pop_law}
use Rattle.rules.proofs.SoundLaws.{Roomy, roomy_law, Ends, first_ends, apply-sound}
use Rattle.rules.proofs.TripLaws.{bytes-length}

-- ---- the bytes of a reply

abbrev pub size : Reply → ℕ
size MI = 2
size OK = 2
size (HI v) = 10
size (RE v) = 10
size (NW n) = 10
size (GO v) = 10
size (EX k v) = 18
size (ES k v) = 18
size (EM k v) = 18

one : (v : ℕ) → suc (suc (length (bytes_of 8 v))) ≡ 10
one v = omega (arith, bytes-length 8 v)

two : (k v : ℕ) → suc (suc (length (bytes_of 8 k ++ bytes_of 8 v))) ≡ 18
two k v = rw length-append (omega (arith, bytes-length 8 k, bytes-length 8 v))

pub encode-size : (r : Reply) → length (encode r) ≡ size r
encode-size MI = refl
encode-size OK = refl
encode-size (HI v) = one v
encode-size (RE v) = one v
encode-size (NW n) = one n
encode-size (GO v) = one v
encode-size (EX k v) = two k v
encode-size (ES k v) = two k v
encode-size (EM k v) = two k v

pub encode-length : (rs : List Reply) → length (encode_all rs) ≡ total size rs
unfolding encode_all
encode-length [] = refl
encode-length (r ∷ rs) = omega (arith, length-append (encode r) (encode_all rs), encode-size r, encode-length rs)

pub encode-append : (a b : List Reply) → encode_all (a ++ b) ≡ encode_all a ++ encode_all b
unfolding encode_all
encode-append [] b = refl
encode-append (r ∷ a) b = ap (λ l. encode r ++ l) (encode-append a b) ∙ sym (append_assoc (encode r) (encode_all a) (encode_all b))

-- ---- the replies of a request

roomy_size : (σ : State) (w : Evicted) → Roomy σ w → total size w.told ≤ 18
roomy_size σ w (inl h) = rw h.1 (omega arith)
roomy_size σ w (inr h) = rw h.1.told_is (pair h.1.queue h.1.entry)
  where
    pair : (q : Queue) (e : Entry) → total size (tell q e ∷ []) ≤ 18
    pair Small e = omega arith
    pair Main e = omega arith

place-size : (σ : State) (p : Place)
    → (total size (on_get σ p).replies ≤ (row Get).room) × (total size (on_peek σ p).replies ≤ (row Peek).room)
    × (total size (on_remove σ p).replies ≤ (row Remove).room)
unfolding on_get on_peek on_remove
place-size σ nowhere = omega arith
place-size σ (here q b e a) = omega arith

arrive-size : (q : Queue) (k v : ℕ) (σ : State) (w : Evicted) → Roomy σ w → total size (arrive q k v w).replies ≤ (row Insert).room
arrive-size q k v σ w r = omega (arith, total-append size w.told (NW w.pops ∷ []), roomy_size σ w r)

new-size : (k v : ℕ) (σ : State) (w : Removed) → Sound σ → total size (on_new k v σ w).replies ≤ (row Insert).room
unfolding on_new
new-size k v σ w s = let τ = set_ghosts w.ghosts σ in arrive-size (admits w.was) k v τ (evict_if_full τ) (roomy_law τ s.fine)

insert_size : (k v : ℕ) (σ : State) (p : Place) → Sound σ → total size (on_insert k v σ p).replies ≤ (row Insert).room
unfolding on_insert
insert_size k v σ nowhere s = new-size k v σ (remove_ghost k σ.ghosts) s
insert_size k v σ (here q b e a) s = omega arith

size-ends : Ends (λ σ o. total size o.replies ≤ 18)
size-ends = record { none = λ σ. omega arith; handed = λ q r e σ h. omega arith; sent = λ q r e σ h l. l }

evict-one-size : (σ : State) (w : Evicted) → Roomy σ w → total size (on_evict_one w).replies ≤ (row Evict).room
unfolding on_evict_one
evict-one-size σ w r =
    let τ = w.state in
    let q = first_queue τ in
    let p = pop_tail (queue_of q τ) in
    omega (arith, total-append size w.told (on_first q τ p).replies, roomy_size σ w r, first_ends size-ends q τ p (pop_law (queue_of q τ)))

pub apply-size : (σ : State) (r : Request) → Sound σ → total size (apply σ r).replies ≤ room_of r
unfolding apply
apply-size σ (GT k) s = (place-size σ (place k σ)).0
apply-size σ (PK k) s = (place-size σ (place k σ)).1
apply-size σ (RM k) s = (place-size σ (place k σ)).2
apply-size σ (IN k v) s = insert_size k v σ (place k σ) s
apply-size σ EV s = evict-one-size σ (evict_if_full σ) (roomy_law σ s.fine)
apply-size σ CL s = omega arith

pub run-size : (σ : State) (rs : List Request) → AllNarrow rs → Sound σ → length (encode_all (run σ rs).replies) ≤ room_for rs
unfolding run room_for encode_all
run-size σ [] z s = omega arith
run-size σ (r ∷ rs) z s =
    let o = apply σ r in
    let o' = run o.state rs in
    omega (
      arith,
      encode-length (o.replies ++ o'.replies),
      encode-length o'.replies,
      total-append size o.replies o'.replies,
      apply-size σ r s,
      run-size o.state rs z.1 (apply-sound σ r z.0 s),
    )
