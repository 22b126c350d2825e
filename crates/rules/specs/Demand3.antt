-- Demand 3 as a statement (RULES 11): nothing leaves untold, a key stands in one place, and an absent key inserted into a full cache pushes out one pair.
-- Assumes nothing.
use Rattle.std.specs.Prelude.{ℕ, suc, ◌≤◌, ◌≡◌, List, [], ◌∷◌}
use Rattle.cells.specs.Members.{Every}
use Rattle.rules.specs.State.{Entry, State, Queue, fresh, set_ghosts, push_to, residents, warmth, keyed, places}
use Rattle.rules.specs.Records.{Request, IN, NW, AllNarrow, Outcome}
use Rattle.rules.specs.Ghosts.{remove_ghost}
use Rattle.rules.specs.Eviction.{tell, Walk}
use Rattle.rules.specs.Requests.{admits, apply}
use Rattle.rules.specs.Ledger.{held, Answered, opens, ledger, Balanced}

-- the insert of an absent key into a full cache: the key comes off the ghosts; eviction walks from there until one pair has left, at most F + 1 steps; that
-- pair is told, with the steps walked; and the new pair is pushed to Main if its key was a ghost, to Small otherwise
pub record FullInsert (k v : ℕ) (σ : State) (o : Outcome) : Type 0 where
  pub queue : Queue
  pub entry : Entry
  pub pops : ℕ
  pub freed : State
  pub walk : Walk (set_ghosts (remove_ghost k σ.ghosts).ghosts σ) pops queue entry freed
  pub few : pops ≤ suc (warmth σ)
  pub told : o.replies ≡ tell queue entry ∷ NW pops ∷ []
  pub pushed : o.state ≡ push_to (admits (remove_ghost k σ.ghosts).was) (fresh k v) freed
  pub resident : held k v o.state ≡ 1

-- of the state that a count starts from, the state now, and all that was asked and answered on the way to it
pub record Demand3 (σ₀ σ : State) (h : List Answered) : Type 0 where
  pub untold : (k v : ℕ) → Balanced k v (ledger k v h (opens k v σ₀)) σ
  pub once : (k : ℕ) → places k σ ≤ 1
  pub full : (k v : ℕ) → keyed k σ ≡ 0 → residents σ ≡ σ.limits.capacity → FullInsert k v σ (apply σ (IN k v))

-- the numbers of all requests of some calls have 64 bits
abbrev pub EachNarrow : List (List Request) → Type 0
EachNarrow calls = Every AllNarrow calls
