-- A node seen as a seat in the state: which entry of which queue it carries, or which ghost. And what the moves of a node are in the state.
-- Assumes nothing.
use Rattle.std.specs.Prelude.{◌≡◌, List, [], ◌∷◌, ◌++◌, map, ℕ, ◌≤◌, ◌<◌, length}
use Rattle.nodes.specs.Nodes.{cols}
use Rattle.nodes.specs.declared.Shape.{Shape}
use Rattle.pool.specs.Carries.{lists_of}
use Rattle.rules.specs.State.{Entry, State, Queue, Small, Main, fresh, with_freq, revalue, set_queue, set_ghosts, push_to, put_at, residents, places}
use Rattle.store.specs.declared.QueueKind.{QueueKind}
use Rattle.store.specs.declared.QueueKind.TheVariants.{Small as Small·, Main as Main·}
use Rattle.store.specs.declared.Limit.{Limit}
use Rattle.store.specs.declared.Limit.TheVariants.{Capacity, Small as SmallLimit, Ghosts}
use Rattle.store.specs.Holds.{list_no, ghosts_no, entry_at, key_at, state_in, Becomes}

-- the queue that the code's is
abbrev pub queue_kind : QueueKind → Queue
queue_kind Small· = Small
queue_kind Main· = Main

-- the header's cell of a limit
abbrev pub limit_no : Limit → ℕ
limit_no Capacity = 0
limit_no SmallLimit = 1
limit_no Ghosts = 2

-- the limit of a state that the code's names
abbrev pub limit_in : Limit → State → ℕ
limit_in Capacity σ = σ.limits.capacity
limit_in SmallLimit σ = σ.limits.small_limit
limit_in Ghosts σ = σ.limits.ghost_limit

-- the node x carries the entry e of the queue q, with the entries b before it and a after it
pub record Seat (z : Shape) (s : List ℕ) (q : Queue) (x : ℕ) (b : List Entry) (e : Entry) (a : List Entry) : Type 0 where
  pub front : List ℕ
  pub back : List ℕ
  pub is : lists_of z (cols z s) (list_no q) ≡ front ++ x ∷ back
  pub before : map (entry_at (cols z s)) front ≡ b
  pub here : entry_at (cols z s) x ≡ e
  pub after : map (entry_at (cols z s)) back ≡ a

-- the node x carries some entry of the queue q
pub record Seated (z : Shape) (s : List ℕ) (q : Queue) (x : ℕ) : Type 0 where
  pub before : List Entry
  pub entry : Entry
  pub after : List Entry
  pub seat : Seat z s q x before entry after

-- the last one
pub record Tail (z : Shape) (s : List ℕ) (q : Queue) (x : ℕ) : Type 0 where
  pub before : List Entry
  pub entry : Entry
  pub seat : Seat z s q x before entry []

-- the node x carries the ghost k, with the ghosts b before it and a after it
pub record GhostSeat (z : Shape) (s : List ℕ) (x : ℕ) (b : List ℕ) (k : ℕ) (a : List ℕ) : Type 0 where
  pub front : List ℕ
  pub back : List ℕ
  pub is : lists_of z (cols z s) ghosts_no ≡ front ++ x ∷ back
  pub before : map (key_at (cols z s)) front ≡ b
  pub here : key_at (cols z s) x ≡ k
  pub after : map (key_at (cols z s)) back ≡ a

-- the node x carries some ghost
pub record GhostSeated (z : Shape) (s : List ℕ) (x : ℕ) : Type 0 where
  pub before : List ℕ
  pub key : ℕ
  pub after : List ℕ
  pub seat : GhostSeat z s x before key after

-- the oldest one
pub record Oldest (z : Shape) (s : List ℕ) (x : ℕ) : Type 0 where
  pub before : List ℕ
  pub key : ℕ
  pub seat : GhostSeat z s x before key []

-- ---- what the moves are in the state

-- the entry at x got the frequency n; it stays where it is
pub record FreqSet (z : Shape) (s s' : List ℕ) (x n : ℕ) : Type 0 where
  pub of : (q : Queue) (b : List Entry) (e : Entry) (a : List Entry) → Seat z s q x b e a → Becomes z s s' (put_at q b (with_freq n e ∷ []) a (state_in z s))

-- the entry at x got the value v and then the frequency n
pub record ValueReplaced (z : Shape) (s s' : List ℕ) (x v n : ℕ) : Type 0 where
  pub of : (q : Queue) (b : List Entry) (e : Entry) (a : List Entry) → Seat z s q x b e a
      → Becomes z s s' (put_at q b (revalue v (with_freq n e) ∷ []) a (state_in z s))

-- the entry at x left its queue
pub record EntryRemoved (z : Shape) (s s' : List ℕ) (q : Queue) (x : ℕ) : Type 0 where
  pub of : (b : List Entry) (e : Entry) (a : List Entry) → Seat z s q x b e a → Becomes z s s' (set_queue q (b ++ a) (state_in z s))

-- the entry at x went to Main's head with the frequency n
pub record Reattached (z : Shape) (s s' : List ℕ) (q : Queue) (x n : ℕ) : Type 0 where
  pub of : (b : List Entry) (e : Entry) (a : List Entry) → Seat z s q x b e a
      → Becomes z s s' (push_to Main (with_freq n e) (set_queue q (b ++ a) (state_in z s)))

-- the entry at x left its queue, and its node is the newest ghost
pub record DetachedToGhosts (z : Shape) (s s' : List ℕ) (q : Queue) (x : ℕ) : Type 0 where
  pub of : (b : List Entry) (e : Entry) (a : List Entry) → Seat z s q x b e a
      → Becomes z s s' (set_ghosts (e.key ∷ (state_in z s).ghosts) (set_queue q (b ++ a) (state_in z s)))

-- the ghost at x was taken off
pub record GhostRemoved (z : Shape) (s s' : List ℕ) (x : ℕ) : Type 0 where
  pub of : (b : List ℕ) (k : ℕ) (a : List ℕ) → GhostSeat z s x b k a → Becomes z s s' (set_ghosts (b ++ a) (state_in z s))

-- the ghost at x went to the front
pub record Fronted (z : Shape) (s s' : List ℕ) (x : ℕ) : Type 0 where
  pub of : (b : List ℕ) (k : ℕ) (a : List ℕ) → GhostSeat z s x b k a → Becomes z s s' (set_ghosts (k ∷ (b ++ a)) (state_in z s))

-- the pair of k and v, whose key stood nowhere, went to the head of the queue q with frequency 0
pub record AttachedHead (z : Shape) (s s' : List ℕ) (q : Queue) (k v : ℕ) : Type 0 where
  pub becomes : Becomes z s s' (push_to q (fresh k v) (state_in z s))

-- the key k, which stood nowhere, went to the front of the ghosts
pub record PushedFront (z : Shape) (s s' : List ℕ) (k : ℕ) : Type 0 where
  pub becomes : Becomes z s s' (set_ghosts (k ∷ (state_in z s).ghosts) (state_in z s))

-- there is a node for one more resident with the key k, which stands nowhere
pub record CanAttachHead (z : Shape) (s : List ℕ) (k : ℕ) : Type 0 where
  pub none : places k (state_in z s) ≡ 0
  pub less : residents (state_in z s) < (state_in z s).limits.capacity
  pub few : length (state_in z s).ghosts ≤ (state_in z s).limits.ghost_limit

-- the same for one more ghost
pub record CanPushFront (z : Shape) (s : List ℕ) (k : ℕ) : Type 0 where
  pub none : places k (state_in z s) ≡ 0
  pub within : residents (state_in z s) ≤ (state_in z s).limits.capacity
  pub fewer : length (state_in z s).ghosts < (state_in z s).limits.ghost_limit
