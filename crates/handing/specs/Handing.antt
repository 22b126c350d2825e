-- What evict_one's own pops and the drain of a queue come to, in the terms of the rules.
-- Assumes nothing.
use Rattle.std.specs.Prelude.{◌≡◌, false, List, [], ◌∷◌, ◌++◌, ℕ, Option, Some, None}
use Rattle.nodes.specs.declared.Shape.{Shape}
use Rattle.rules.specs.Parts.{pop_tail}
use Rattle.rules.specs.declared.GuestBlock.{GuestBlock}
use Rattle.rules.specs.declared.PhysicalBlock.{PhysicalBlock}
use Rattle.rules.specs.State.{Entry, State, Queue, queue_of, set_queue}
use Rattle.rules.specs.Records.{Reply, Outcome}
use Rattle.rules.specs.Eviction.{wanted}
use Rattle.rules.specs.Requests.{hands, on_first, on_second, first_queue}
use Rattle.wire.specs.Wire.{told}
use Rattle.store.specs.Holds.{state_in, Becomes}
use Rattle.wire.specs.declared.Reply.TheVariants.{Handed}
use Rattle.evict.specs.Evicts.{GoesBack}

-- a part of a request came to o, and said l
pub record Comes (z : Shape) (s s' : List ℕ) (o : Outcome) (l : List Reply) : Type 0 where
  pub becomes : Becomes z s s' o.state
  pub replies : l ≡ o.replies

-- ---- evict_one

-- what evict_one does to a state that the eviction rule has left
abbrev pub first_of : State → Outcome
first_of σ = on_first (first_queue σ) σ (pop_tail (queue_of (first_queue σ) σ))

-- the queue of its first pop
pub record Starts (z : Shape) (s : List ℕ) (q : Queue) : Type 0 where
  pub first : first_queue (state_in z s) ≡ q

-- the tail of the queue q was popped by it: the pair was handed out, or it went to Main's head, cooled
pub record PopsOut (z : Shape) (s s' : List ℕ) (q : Queue) (r : Option (GuestBlock × PhysicalBlock)) : Type 0 where
  pub before : List Entry
  pub entry : Entry
  pub tail_is : queue_of q (state_in z s) ≡ before ++ (entry ∷ [])
  pub cold : (k : GuestBlock) (v : PhysicalBlock) → r ≡ Some (k, v) → wanted entry ≡ false
  pub out : (k : GuestBlock) (v : PhysicalBlock) → r ≡ Some (k, v) → Comes z s s' (hands q before entry (state_in z s)) (told (Handed k v) ∷ [])
  pub went : r ≡ None → GoesBack z s s' q before entry

-- its second pop, where the first one handed nothing out
abbrev pub second_of : State → Outcome
second_of σ = on_second σ (pop_tail σ.main)

-- ---- clear

-- all entries of a queue left
pub record Drained (z : Shape) (s s' : List ℕ) (q : Queue) : Type 0 where
  pub becomes : Becomes z s s' (set_queue q [] (state_in z s))
