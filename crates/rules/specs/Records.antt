-- Requests and replies, before they are bytes (RULES 6).
-- Assumes nothing.
use Rattle.std.specs.Prelude.{ℕ, ◌<◌, List, [], ◌∷◌, ◌++◌}
use Rattle.cells.specs.Members.{Every}
use Rattle.rules.specs.State.{State, words}

pub data Request : Type 0 where
  GT PK RM : ℕ → Request
  IN : ℕ → ℕ → Request
  EV CL : Request

pub data Reply : Type 0 where
  MI OK : Reply
  HI RE NW GO : ℕ → Reply
  EX ES EM : ℕ → ℕ → Reply

-- its numbers have 64 bits
abbrev pub Narrow : Request → Type 0
Narrow (GT k) = k < words
Narrow (PK k) = k < words
Narrow (RM k) = k < words
Narrow (IN k v) = (k < words) × (v < words)
Narrow EV = Unit {0}
Narrow CL = Unit {0}

abbrev pub AllNarrow : List Request → Type 0
AllNarrow rs = Every Narrow rs

-- looks and changes nothing
abbrev pub Peeks : Request → Type 0
Peeks (GT k) = ⊥
Peeks (PK k) = Unit {0}
Peeks (RM k) = ⊥
Peeks (IN k v) = ⊥
Peeks EV = ⊥
Peeks CL = ⊥

-- none of them does more; there may be none
abbrev pub AllPeeks : List Request → Type 0
AllPeeks rs = Every Peeks rs

-- what a request, or a run of them, comes to
pub record Outcome : Type 0 where
  pub state : State
  pub replies : List Reply

-- one reply
abbrev pub says : State → Reply → Outcome
says σ r = record { state = σ; replies = r ∷ [] }

-- replies that were made before
abbrev pub tell_first : List Reply → Outcome → Outcome
tell_first rs o = record { state = o.state; replies = rs ++ o.replies }
