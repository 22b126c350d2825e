-- What eviction on the store is, in the terms of the rules.
-- Assumes nothing.
use Rattle.std.specs.Prelude.{◌≡◌, true, List, [], ◌∷◌, ◌++◌, ℕ, pred, Option, Some, None}
use Rattle.nodes.specs.declared.Shape.{Shape}
use Rattle.rules.specs.State.{Entry, State, Queue, Small, Main, fresh, queue_of, set_queue}
use Rattle.rules.specs.Records.{Reply}
use Rattle.rules.specs.Eviction.{Turn, moved, left, victim, wanted, back, ghosted, step, tell, Evicted}
use Rattle.store.specs.Holds.{state_in, rest_in, Held, Becomes}
use Rattle.store.specs.Seats.{queue_kind, Seat}
use Rattle.evict.specs.declared.Cold.{Cold}
use Rattle.evict.specs.declared.Pushed.{Pushed}
use Rattle.evict.specs.declared.Evicted.{Evicted as Evicted·}

-- the frequency of an entry that goes back
abbrev pub cool_to : Queue → ℕ → ℕ
cool_to Small n = 0
cool_to Main n = pred n

-- the turn that the code's is, a step on the queue q into a state: a pair left, or the tail went to Main's head
abbrev pub turn_of : Queue → Option Pushed → State → Turn
turn_of q None τ = moved q τ
turn_of q (Some p) τ = left (queue_kind p.from) (fresh p.key.0 p.value.0) τ

-- what is told of a pair that was pushed out
abbrev pub pushed_of : Option Pushed → List Reply
pushed_of None = []
pushed_of (Some p) = tell (queue_kind p.from) (fresh p.key.0 p.value.0) ∷ []

-- the queue whose tail is popped
pub record Picks (z : Shape) (s : List ℕ) (q : Queue) : Type 0 where
  pub picked : victim (state_in z s) ≡ q

-- ---- the pop of a tail

-- the entry e of the queue q, with the entries b before it, went to Main's head, cooled
pub record GoesBack (z : Shape) (s s' : List ℕ) (q : Queue) (b : List Entry) (e : Entry) : Type 0 where
  pub warm : wanted e ≡ true
  pub becomes : Becomes z s s' (back q b e (state_in z s))

-- nothing changed: it is the pair of k and v, with frequency 0, still at the node x
pub record StaysTail (z : Shape) (s s' : List ℕ) (q : Queue) (b : List Entry) (e : Entry) (x k v : ℕ) : Type 0 where
  pub pair : e ≡ fresh k v
  pub same : s' ≡ s
  pub seat : Seat z s q x b e []

-- the tail of the queue q was popped, with the answer r
pub record PopsTail (z : Shape) (s s' : List ℕ) (q : Queue) (r : Option Cold) : Type 0 where
  pub before : List Entry
  pub entry : Entry
  pub tail_is : queue_of q (state_in z s) ≡ before ++ (entry ∷ [])
  pub went : r ≡ None → GoesBack z s s' q before entry
  pub stays : (c : Cold) → r ≡ Some c → StaysTail z s s' q before entry c.node c.key.0 c.value.0

-- ---- eviction

-- one step on the queue q: its tail went to Main's head, or left
pub record StepsOn (z : Shape) (s s' : List ℕ) (q : Queue) (r : Option Pushed) : Type 0 where
  pub held : Held z s'
  pub turn : step (state_in z s) ≡ turn_of q r (state_in z s')
  pub from : (p : Pushed) → r ≡ Some p → queue_kind p.from ≡ q
  pub rest : rest_in z s' ≡ rest_in z s

-- one step
pub record Steps (z : Shape) (s s' : List ℕ) (r : Option Pushed) : Type 0 where
  pub popped : Queue
  pub on : StepsOn z s s' popped r

-- an eviction, or what stands in its place
pub record Makes (z : Shape) (s s' : List ℕ) (w : Evicted) (r : Evicted·) : Type 0 where
  pub becomes : Becomes z s s' w.state
  pub told : pushed_of r.pushed ≡ w.told
  pub pops : r.pops ≡ w.pops

-- the last entry of a queue left
pub record Leaves (z : Shape) (s s' : List ℕ) (q : Queue) (x : ℕ) : Type 0 where
  pub of : (b : List Entry) (e : Entry) → Seat z s q x b e [] → Becomes z s s' (ghosted q e (set_queue q b (state_in z s)))
