-- What each function of the ghost list does to the state, and what it gives back, in the terms of the rules.
-- Assumes nothing.
use Rattle.std.specs.Prelude.{◌≡◌, Bool, cond, List, [], ℕ, ltb, length, Option, Some, None}
use Rattle.std.proofs.Math.Option.{none, some}
use Rattle.std.proofs.Math.Option.{Option as Maybe}
use Rattle.nodes.specs.declared.Shape.{Shape}
use Rattle.rules.specs.declared.GuestBlock.{GuestBlock}
use Rattle.rules.specs.State.{Entry, State, Small, set_queue, set_ghosts, residents}
use Rattle.rules.specs.Ghosts.{Given, keeps, evict_lru, record_ghost, remove_ghost, clear_ghosts}
use Rattle.rules.specs.Eviction.{ghosted}
use Rattle.store.specs.Holds.{state_in, Held, Becomes}
use Rattle.store.specs.Seats.{Seat}

-- the key that is given back
abbrev pub given_of : Option GuestBlock → Maybe ℕ
given_of (Some k) = some k.0
given_of None = none

-- the ghosts became those of w, and what w gives back was given back
pub record Gave (z : Shape) (s s' : List ℕ) (w : Given) (r : Option GuestBlock) : Type 0 where
  pub becomes : Becomes z s s' (set_ghosts w.ghosts (state_in z s))
  pub back : given_of r ≡ w.back

-- `record`
pub record Recorded (z : Shape) (s s' : List ℕ) (k : ℕ) (r : Option GuestBlock) : Type 0 where
  pub gave : Gave z s s' (record_ghost (state_in z s).limits.ghost_limit k (state_in z s).ghosts) r

-- `evict_lru`
pub record Lost (z : Shape) (s s' : List ℕ) (r : Option GuestBlock) : Type 0 where
  pub gave : Gave z s s' (evict_lru (state_in z s).ghosts) r

-- the ghosts of a state with room for one more: where there is none the oldest is dropped
abbrev pub roomed : State → Given
roomed σ = cond (ltb (length σ.ghosts) σ.limits.ghost_limit) (keeps σ.ghosts) (evict_lru σ.ghosts)

pub record RoomMade (z : Shape) (s s' : List ℕ) (r : Option GuestBlock) : Type 0 where
  pub gave : Gave z s s' (roomed (state_in z s)) r

-- the ghosts of a state, without the oldest where there is one too many
abbrev pub trimmed : State → List ℕ
trimmed σ = cond (ltb σ.limits.ghost_limit (length σ.ghosts)) (evict_lru σ.ghosts).ghosts σ.ghosts

pub record Trimmed (z : Shape) (s s' : List ℕ) : Type 0 where
  pub becomes : Becomes z s s' (set_ghosts (trimmed (state_in z s)) (state_in z s))

-- `remove`
pub record Took (z : Shape) (s s' : List ℕ) (k : ℕ) (r : Bool) : Type 0 where
  pub becomes : Becomes z s s' (set_ghosts (remove_ghost k (state_in z s).ghosts).ghosts (state_in z s))
  pub was : r ≡ (remove_ghost k (state_in z s).ghosts).was

-- `clear`
pub record Emptied (z : Shape) (s s' : List ℕ) : Type 0 where
  pub becomes : Becomes z s s' (set_ghosts (clear_ghosts (state_in z s).ghosts) (state_in z s))

-- the last entry of Small left, and was recorded
pub record RecordedTail (z : Shape) (s s' : List ℕ) (x : ℕ) : Type 0 where
  pub of : (b : List Entry) (e : Entry) → Seat z s Small x b e [] → Becomes z s s' (ghosted Small e (set_queue Small b (state_in z s)))

-- a store that holds a sound state of ghosts alone, which is what a ghost list by itself is
pub record GhostsAlone (z : Shape) (s : List ℕ) : Type 0 where
  pub held : Held z s
  pub none : residents (state_in z s) ≡ 0
