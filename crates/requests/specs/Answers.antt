-- What a request on the store comes to, in the terms of the rules: the state, and the replies.
-- Assumes nothing.
use Rattle.std.specs.Prelude.{◌≡◌, List, [], ◌∷◌, ◌++◌, ℕ, None}
use Rattle.nodes.specs.declared.Shape.{Shape}
use Rattle.rules.specs.State.{Queue}
use Rattle.rules.specs.Records.{Request, Reply, Peeks}
use Rattle.rules.specs.Eviction.{evict_if_full}
use Rattle.rules.specs.Requests.{arrive, apply}
use Rattle.wire.specs.Wire.{told}
use Rattle.store.specs.Holds.{state_in, Becomes}
use Rattle.wire.specs.declared.Reply.{Reply as Reply·}
use Rattle.evict.specs.Evicts.{pushed_of}
use Rattle.handing.specs.Handing.{Comes}
use Rattle.requests.specs.declared.Spoken.{Spoken}

-- the replies that the code's answer is: the pair pushed out before, and the closing one
abbrev pub spoken_of : Spoken → List Reply
spoken_of r = pushed_of r.pushed ++ (told r.closing ∷ [])

-- the closing reply alone
abbrev pub alone : Reply· → Spoken
alone r = record { pushed = None; closing = r }

-- the request q was answered by r; a peek changed no byte
pub record Answers (z : Shape) (s s' : List ℕ) (q : Request) (r : Spoken) : Type 0 where
  pub becomes : Becomes z s s' (apply (state_in z s) q).state
  pub replies : spoken_of r ≡ (apply (state_in z s) q).replies
  pub untouched : Peeks q → s' ≡ s

-- ---- insert

-- the pair of k and v, whose key stood nowhere, went to the queue q, after eviction where the cache was full
pub record Arrives (z : Shape) (s s' : List ℕ) (q : Queue) (k v : ℕ) (r : Spoken) : Type 0 where
  pub comes : Comes z s s' (arrive q k v (evict_if_full (state_in z s))) (spoken_of r)
