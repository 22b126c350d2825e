-- What holds of a store after a move: its lists, index and numbers are as they should be, and the state is another.
-- Assumes nothing.
use mathlib.Core.Path.{◌≡◌, refl, sym, ap, ap₂, ◌∙◌}
use mathlib.Core.List.{List, [], ◌∷◌, ◌++◌, map, head-eq_of_cons-eq, tail-eq_of_cons-eq}
use Prim.Native.Nat.{ℕ, ◌+◌, ◌≤◌, ◌<◌}
use native.Mathlib.Omega.{arith}
use lib.ListN.{length, get_or}
use Rattle.nodes.specs.Nodes.{Head, Value, Prev, Freq, cols, SetsField, GetsField}
use Rattle.nodes.specs.declared.Shape.{Shape}
use Rattle.nodes.proofs.NodesLaws.{room-kept}
use Rattle.cells.specs.Members.{Among}
use Rattle.lists.specs.Ring.{Last}
use Rattle.lists.proofs.ListsLaws.{lists-tail, lists-once}
use Rattle.pool.specs.Carries.{lists_of, Pooled, Aside, LiveList, CanMove, Moved, CanRelease, Released, CanFill, Filled}
use Rattle.pool.proofs.CarriesLaws.{carries-view}
use Rattle.pool.proofs.PoolLaws.{freq-aside, freq-pooled, value-pooled, value-lists, value-aside, pooled-length, pooled-node, can_fill}
use Rattle.rules.specs.declared.GuestBlock.{GuestBlock}
use Rattle.rules.specs.State.{Entry, State, Queue, Small, Main, with_freq, revalue, queue_of, set_queue, set_ghosts, push_to, put_at, residents}
use Rattle.rules.proofs.PartsLaws.{length-total}
use Rattle.rules.proofs.StateLaws.{set-again}
use Rattle.store.specs.declared.Entry.{Entry as Entry·}
use Rattle.store.specs.declared.Limit.{Limit}
use Rattle.store.specs.declared.Limit.TheVariants.{Capacity, Small as SmallLimit, Ghosts}
use Rattle.store.specs.Holds.{list_no, ghosts_no, entry_at, key_at, state_in, shape_for, Keeps, Becomes}
use Rattle.store.specs.Entries.{entry_of, GetsEntry, GetsGhost}
use Rattle.store.specs.Seats.{limit_no, limit_in, Seat, Seated, Tail, GhostSeat, GhostSeated, Oldest, CanAttachHead, AttachedHead, CanPushFront, PushedFront}
use Rattle.store.specs.Seats.{FreqSet, ValueReplaced, EntryRemoved, Reattached, DetachedToGhosts, GhostRemoved, Fronted}
use Rattle.store.proofs.MapLaws.{map-append, map-length, map-out}
use Rattle.store.proofs.ShownLaws.{limits-aside, queue-shown, ghosts-shown, moved-main, moved-to-ghosts, moved_ghost, released-queue, released_ghost}
use Rattle.store.proofs.ShownLaws.{filled-queue, filled_ghost, freq-written, valued, valued-other, valued-own}
use Rattle.store.proofs.LookLaws.{places-miss}

-- ---- lists of residents and of ghosts

pub kind : (q : Queue) → LiveList (list_no q)
kind Small = record { above = omega arith; below = omega arith }
kind Main = record { above = omega arith; below = omega arith }

pub ghost_kind : LiveList ghosts_no
ghost_kind = record { above = omega arith; below = omega arith }

-- ---- limits and lengths

queue-length : (z : Shape) (s : List ℕ) (q : Queue) → length (queue_of q (state_in z s)) ≡ length (lists_of z (cols z s) (list_no q))
queue-length z s q = ap length (queue-shown z s q) ∙ map-length (entry_at (cols z s)) (lists_of z (cols z s) (list_no q))

ghosts-length : (z : Shape) (s : List ℕ) → length (state_in z s).ghosts ≡ length (lists_of z (cols z s) ghosts_no)
ghosts-length z s = ap length (ghosts-shown z s) ∙ map-length (key_at (cols z s)) (lists_of z (cols z s) ghosts_no)

module _ {z : Shape} {s : List ℕ} where
  pub limit-is : (which : Limit) {n r : ℕ} → n ≡ limit_no which → GetsField z s Head n r → r ≡ limit_in which (state_in z s)
  unfolding state_in
  limit-is Capacity e g = rw e at g.value
  limit-is SmallLimit e g = rw e at g.value
  limit-is Ghosts e g = rw e at g.value

  pub length-is : Keeps z s → (q : Queue) {t n : ℕ} → t ≡ list_no q → GetsField z s Head (4 + t) n → n ≡ length (queue_of q (state_in z s))
  length-is k q e g = pooled-length k.pooled (kind q) (rw e at g) ∙ sym (queue-length z s q)

  pub ghosts-are : Keeps z s → {n : ℕ} → GetsField z s Head (4 + ghosts_no) n → n ≡ length (state_in z s).ghosts
  ghosts-are k g = pooled-length k.pooled ghost_kind g ∙ sym (ghosts-length z s)

-- ---- seats

module _ {z : Shape} {s : List ℕ} (k : Keeps z s) where
  pub tail_is : {q : Queue} {t x : ℕ} → t ≡ list_no q → GetsField z s Prev (z.room + t) x → 1 ≤ length (queue_of q (state_in z s)) → Tail z s q x
  tail_is {q} {t} {x} e g h =
      let r = k.pooled.carries.lists in
      let b = (kind q).below in
      let l : Last (get_or (cols z s Prev) (z.room + list_no q) 0) (lists_of z (cols z s) (list_no q)) =
      lists-tail r b (omega (arith, r.counts (list_no q) b, queue-length z s q)) in
      let m : Last x (lists_of z (cols z s) (list_no q)) = rw (g.value, e) l in
      record {
        before = map (entry_at (cols z s)) m.front;
        entry = entry_at (cols z s) x;
        seat = record { front = m.front; back = []; is = m.is; before = refl; here = refl; after = refl };
      }

  pub oldest_is : {x : ℕ} → GetsField z s Prev (z.room + ghosts_no) x → 1 ≤ length (state_in z s).ghosts → Oldest z s x
  oldest_is {x} g h =
      let r = k.pooled.carries.lists in
      let b = ghost_kind.below in
      let l : Last (get_or (cols z s Prev) (z.room + ghosts_no) 0) (lists_of z (cols z s) ghosts_no) =
      lists-tail r b (omega (arith, r.counts ghosts_no b, ghosts-length z s)) in
      let m : Last x (lists_of z (cols z s) ghosts_no) = rw g.value l in
      record {
        before = map (key_at (cols z s)) m.front;
        key = key_at (cols z s) x;
        seat = record { front = m.front; back = []; is = m.is; before = refl; here = refl; after = refl };
      }

  pub seat-among : {q : Queue} {x : ℕ} {b : List Entry} {e : Entry} {a : List Entry} → Seat z s q x b e a → Among x (lists_of z (cols z s) (list_no q))
  seat-among h = record { front = h.front; back = h.back; is = h.is }

  pub seat-node : {q : Queue} {x : ℕ} {b : List Entry} {e : Entry} {a : List Entry} → Seat z s q x b e a → x < z.room
  seat-node {q} h = pooled-node k.pooled (kind q) (seat-among h)

  pub seated_node : {q : Queue} {x : ℕ} → Seated z s q x → x < z.room + 4
  seated_node h = omega (arith, seat-node h.seat)

  pub seated_release : {q : Queue} {x t : ℕ} → Seated z s q x → t ≡ list_no q → CanRelease z s t x
  seated_release {q} h e = rw e (record { pooled = k.pooled; from = kind q; among = seat-among h.seat })

  pub seated_move : {q : Queue} {x t : ℕ} → Seated z s q x → t ≡ list_no q → CanMove z s t (list_no Main) x
  seated_move {q} h e = rw e (record { pooled = k.pooled; from = kind q; to = kind Main; among = seat-among h.seat })

  pub seated_to-ghosts : {q : Queue} {x t : ℕ} → Seated z s q x → t ≡ list_no q → CanMove z s t ghosts_no x
  seated_to-ghosts {q} h e = rw e (record { pooled = k.pooled; from = kind q; to = ghost_kind; among = seat-among h.seat })

  ghost_among : {x : ℕ} {b : List ℕ} {g : ℕ} {a : List ℕ} → GhostSeat z s x b g a → Among x (lists_of z (cols z s) ghosts_no)
  ghost_among h = record { front = h.front; back = h.back; is = h.is }

  pub ghost_node : {x : ℕ} → GhostSeated z s x → x < z.room
  ghost_node h = pooled-node k.pooled ghost_kind (ghost_among h.seat)

  pub ghost_release : {x : ℕ} → GhostSeated z s x → CanRelease z s ghosts_no x
  ghost_release h = record { pooled = k.pooled; from = ghost_kind; among = ghost_among h.seat }

  pub ghost_move : {x : ℕ} → GhostSeated z s x → CanMove z s ghosts_no ghosts_no x
  ghost_move h = record { pooled = k.pooled; from = ghost_kind; to = ghost_kind; among = ghost_among h.seat }

  -- how many nodes are in use
  in_use : length (lists_of z (cols z s) 1) + length (lists_of z (cols z s) 2) + length (lists_of z (cols z s) 3)
      ≡ residents (state_in z s) + length (state_in z s).ghosts
  in_use = omega (arith, queue-length z s Small, queue-length z s Main, ghosts-length z s, length-total (state_in z s).small, length-total (state_in z s).main)

  rooms : z.room ≡ (state_in z s).limits.capacity + (state_in z s).limits.ghost_limit
  unfolding state_in
  rooms = ap (λ (x : Shape). x.room) k.shaped

  pub attach_fill : (q : Queue) {g t : ℕ} → CanAttachHead z s g → t ≡ list_no q → CanFill z s t g
  attach_fill q {g} h e = rw e (can_fill k.pooled (kind q) (places-miss z s k.pooled g h.none) (omega (arith, in_use, rooms, h.less, h.few)))

  pub push_fill : {g : ℕ} → CanPushFront z s g → CanFill z s ghosts_no g
  push_fill {g} h = can_fill k.pooled ghost_kind (places-miss z s k.pooled g h.none) (omega (arith, in_use, rooms, h.within, h.fewer))

-- ---- what is read at a seat

pub seat-entry : {z : Shape} {s : List ℕ} {q : Queue} {x : ℕ} {b : List Entry} {e : Entry} {a : List Entry} → Seat z s q x b e a
    → {r : Entry·} → GetsEntry z s x r → entry_of r ≡ e
seat-entry h g = g.entry ∙ h.here

pub ghost_key : {z : Shape} {s : List ℕ} {x : ℕ} {b : List ℕ} {k : ℕ} {a : List ℕ} → GhostSeat z s x b k a → {r : GuestBlock} → GetsGhost z s x r → r.0 ≡ k
ghost_key h g = g.key ∙ h.here

pub seat-queue : (z : Shape) (s : List ℕ) {q : Queue} {x : ℕ} {b : List Entry} {e : Entry} {a : List Entry} → Seat z s q x b e a
    → queue_of q (state_in z s) ≡ b ++ (e ∷ a)
seat-queue z s {q} {x} {b} {e} {a} h =
    queue-shown z s q ∙ ap (map (entry_at (cols z s))) h.is ∙ map-append (entry_at (cols z s)) h.front (x ∷ h.back)
    ∙ (λ i. h.before i ++ (h.here i ∷ h.after i))

pub ghost_seat-ghosts : (z : Shape) (s : List ℕ) {x : ℕ} {b : List ℕ} {g : ℕ} {a : List ℕ} → GhostSeat z s x b g a → (state_in z s).ghosts ≡ b ++ (g ∷ a)
ghost_seat-ghosts z s {x} h =
    ghosts-shown z s ∙ ap (map (key_at (cols z s))) h.is ∙ map-append (key_at (cols z s)) h.front (x ∷ h.back)
    ∙ (λ i. h.before i ++ (h.here i ∷ h.after i))

-- ---- a move keeps the store in order

module _ {z : Shape} {s s' : List ℕ} (k : Keeps z s) (n : length s' ≡ length s) where
  keeps-aside : Pooled z s' → Aside (cols z s) (cols z s') → Keeps z s'
  keeps-aside p a = record { room = room-kept k.room n; pooled = p; shaped = k.shaped ∙ ap shape_for (sym (limits-aside a)) }

  becomes : {τ : State} → Pooled z s' → Aside (cols z s) (cols z s') → state_in z s' ≡ τ → Becomes z s s' τ
  becomes p a e = record { keeps = keeps-aside p a; state = e; rest = a.rest }

  pub entry-removed : {q : Queue} {t x : ℕ} → t ≡ list_no q → Released z s s' t x → EntryRemoved z s s' q x
  entry-removed {q} {t} {x} e m₀ =
      let m : Released z s s' (list_no q) x = rw e at m₀ in
      record {
        of = λ b y a h.
            becomes m.pooled m.alike.aside
            (released-queue z s s' h.front x h.back q h.is m ∙ ap₂ (λ l r. set_queue q (l ++ r) (state_in z s)) h.before h.after);
      }

  pub detached-to-ghosts : {q : Queue} {t x : ℕ} → t ≡ list_no q → Moved z s s' t ghosts_no x → DetachedToGhosts z s s' q x
  detached-to-ghosts {q} {t} {x} e m₀ =
      let m : Moved z s s' (list_no q) ghosts_no x = rw e at m₀ in
      record {
        of = λ b y a h.
            becomes m.pooled m.alike.aside
            (moved-to-ghosts z s s' h.front x h.back q h.is m
            ∙ ap
            (λ (w : Entry).
            set_ghosts (w.key ∷ (state_in z s).ghosts) (set_queue q (map (entry_at (cols z s)) h.front ++ map (entry_at (cols z s)) h.back) (state_in z s)))
            h.here
            ∙ ap₂ (λ l r. set_ghosts (y.key ∷ (state_in z s).ghosts) (set_queue q (l ++ r) (state_in z s))) h.before h.after);
      }

  pub ghost_removed : {x : ℕ} → Released z s s' ghosts_no x → GhostRemoved z s s' x
  ghost_removed {x} m =
      record {
        of = λ b g a h.
            becomes m.pooled m.alike.aside
            (released_ghost z s s' h.front x h.back h.is m ∙ ap₂ (λ l r. set_ghosts (l ++ r) (state_in z s)) h.before h.after);
      }

  pub fronted : {x : ℕ} → Moved z s s' ghosts_no ghosts_no x → Fronted z s s' x
  fronted {x} m =
      record {
        of = λ b g a h.
            becomes m.pooled m.alike.aside
            (moved_ghost z s s' h.front x h.back h.is m
            ∙ ap (λ y. set_ghosts (y ∷ (map (key_at (cols z s)) h.front ++ map (key_at (cols z s)) h.back)) (state_in z s)) h.here
            ∙ ap₂ (λ l r. set_ghosts (g ∷ (l ++ r)) (state_in z s)) h.before h.after);
      }

  pub attached-head : (q : Queue) {t g v x : ℕ} → t ≡ list_no q → Filled z s s' t g v x → AttachedHead z s s' q g v
  attached-head q {t} {g} {v} {x} e m₀ =
      let m : Filled z s s' (list_no q) g v x = rw e at m₀ in
      record { becomes = becomes m.pooled m.aside (filled-queue z s s' g v x k.pooled q m) }

  pub pushed_front : {g v x : ℕ} → Filled z s s' ghosts_no g v x → PushedFront z s s' g
  pushed_front {g} {v} {x} m = record { becomes = becomes m.pooled m.aside (filled_ghost z s s' g v x k.pooled m) }

  pub freq-set : {x v : ℕ} → SetsField z s s' Freq x v → FreqSet z s s' x v
  freq-set {x} {v} w =
      record {
        of = λ q b y a h.
            becomes (freq-pooled k.pooled w) (freq-aside w)
            (freq-written z s s' k.pooled q h.front x h.back h.is v w
            ∙ ap (λ (e : Entry). put_at q (map (entry_at (cols z s)) h.front) (with_freq v e ∷ []) (map (entry_at (cols z s)) h.back) (state_in z s)) h.here
            ∙ ap₂ (λ l r. put_at q l (with_freq v y ∷ []) r (state_in z s)) h.before h.after);
      }

-- ---- one move after the other

pub becomes_then : {z : Shape} {s s₁ s₂ : List ℕ} {τ ρ : State} → Becomes z s s₁ τ → Becomes z s₁ s₂ ρ → Becomes z s s₂ ρ
becomes_then a b = record { keeps = b.keeps; state = b.state; rest = b.rest ∙ a.rest }

module _ {z : Shape} {s s₁ : List ℕ} (k : Keeps z s) (n : length s₁ ≡ length s) where
  module _ {q : Queue} {x : ℕ} (m : Moved z s s₁ (list_no q) (list_no Main) x) (b : List Entry) (e : Entry) (a : List Entry) (h : Seat z s q x b e a) where
    went : Becomes z s s₁ (push_to Main e (set_queue q (b ++ a) (state_in z s)))
    went =
        becomes k n m.pooled m.alike.aside
        (moved-main z s s₁ h.front x h.back q h.is m
        ∙ ap (λ y. push_to Main y (set_queue q (map (entry_at (cols z s)) h.front ++ map (entry_at (cols z s)) h.back) (state_in z s))) h.here
        ∙ ap₂ (λ l r. push_to Main e (set_queue q (l ++ r) (state_in z s))) h.before h.after)

    heads : (l : List ℕ) × (lists_of z (cols z s₁) (list_no Main) ≡ x ∷ l)
    heads = (_, carries-view (m.of h.front h.back h.is) 2 (omega arith))

    shows : entry_at (cols z s₁) x ∷ map (entry_at (cols z s₁)) heads.0 ≡ e ∷ queue_of Main (set_queue q (b ++ a) (state_in z s))
    shows = sym (queue-shown z s₁ Main ∙ ap (map (entry_at (cols z s₁))) heads.1) ∙ ap (queue_of Main) went.state

    main-seat : Seat z s₁ Main x [] e (queue_of Main (set_queue q (b ++ a) (state_in z s)))
    main-seat = record { front = []; back = heads.0; is = heads.1; before = refl; here = head-eq_of_cons-eq shows; after = tail-eq_of_cons-eq shows }

  pub reattached : {s₂ : List ℕ} → length s₂ ≡ length s₁ → {q : Queue} {t x v : ℕ} → t ≡ list_no q → Moved z s s₁ t (list_no Main) x
      → SetsField z s₁ s₂ Freq x v → Reattached z s s₂ q x v
  reattached {s₂} n₁ {q} {t} {x} {v} e m₀ w =
      let m : Moved z s s₁ (list_no q) (list_no Main) x = rw e at m₀ in
      record {
        of = λ b y a h.
            let f : Becomes z s s₁ (push_to Main y (set_queue q (b ++ a) (state_in z s))) = went m b y a h in
            let g = (freq-set f.keeps n₁ w).of Main [] y (queue_of Main (set_queue q (b ++ a) (state_in z s))) (main-seat m b y a h) in
            becomes_then f
            (record {
              keeps = g.keeps;
              state = g.state ∙ ap (set_queue Main (with_freq v y ∷ queue_of Main (set_queue q (b ++ a) (state_in z s)))) f.state;
              rest = g.rest;
            });
      }

-- ---- a value is replaced and then a frequency

module _ {z : Shape} {s s₁ : List ℕ} (k : Keeps z s) {x v : ℕ} (w : SetsField z s s₁ Value x v) where
  -- a seat stays a seat
  seat-valued : {q : Queue} {b : List Entry} {e : Entry} {a : List Entry} → Seat z s q x b e a → Seat z s₁ q x b (revalue v e) a
  seat-valued {q} h =
      let o = lists-once k.pooled.carries.lists (kind q).below h.front x h.back h.is in
      record {
        front = h.front;
        back = h.back;
        is = ap (λ (f : ℕ → List ℕ). f (list_no q)) (value-lists w) ∙ h.is;
        before = map-out (entry_at (cols z s)) (entry_at (cols z s₁)) x h.front o.0 (valued-other w) ∙ h.before;
        here = valued-own w (seat-node k h) ∙ ap (revalue v) h.here;
        after = map-out (entry_at (cols z s)) (entry_at (cols z s₁)) x h.back o.1 (valued-other w) ∙ h.after;
      }

  seat-becomes : length s₁ ≡ length s → {q : Queue} {b : List Entry} {e : Entry} {a : List Entry} → Seat z s q x b e a
      → Becomes z s s₁ (put_at q b (revalue v e ∷ []) a (state_in z s))
  seat-becomes n {q} {b} {e} {a} h =
      becomes k n (value-pooled k.pooled w) (value-aside w)
      (valued z s s₁ k.pooled q h.front x h.back h.is v w
      ∙ ap (λ (y : Entry). put_at q (map (entry_at (cols z s)) h.front) (revalue v y ∷ []) (map (entry_at (cols z s)) h.back) (state_in z s)) h.here
      ∙ ap₂ (λ l r. put_at q l (revalue v e ∷ []) r (state_in z s)) h.before h.after)

  pub value_replaced : length s₁ ≡ length s → {s₂ : List ℕ} → length s₂ ≡ length s₁ → {n : ℕ} → SetsField z s₁ s₂ Freq x n → ValueReplaced z s s₂ x v n
  value_replaced l {s₂} l₁ {n} m =
      record {
        of = λ q b e a h.
            let f = seat-becomes l h in
            let g = (freq-set f.keeps l₁ m).of q b (revalue v e) a (seat-valued h) in
            let t : List Entry = b ++ (revalue v (with_freq n e) ∷ a) in
            let r = g.state ∙ ap (set_queue q t) f.state ∙ set-again q t (b ++ (revalue v e ∷ a)) (state_in z s) in
            becomes_then f (record { keeps = g.keeps; state = r; rest = g.rest });
      }
