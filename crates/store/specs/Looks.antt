-- Where a key stands in a store: what a lookup says of the state.
-- Assumes nothing.
use Rattle.std.specs.Prelude.{◌≡◌, List, ℕ, eqb}
use Rattle.nodes.specs.declared.Shape.{Shape}
use Rattle.rules.specs.Parts.{found, split_by}
use Rattle.rules.specs.State.{Entry, Queue, places, place, nowhere, here}
use Rattle.store.specs.declared.QueueKind.{QueueKind}
use Rattle.store.specs.declared.Lookup.{Lookup}
use Rattle.store.specs.declared.Lookup.TheVariants.{Resident, Ghost, Absent}
use Rattle.store.specs.Holds.{state_in}
use Rattle.store.specs.Seats.{queue_kind, Seat, GhostSeat}

-- the key k is resident at the node x of the queue q
pub record IsResident (z : Shape) (s : List ℕ) (k : ℕ) (q : Queue) (x : ℕ) : Type 0 where
  pub before : List Entry
  pub entry : Entry
  pub after : List Entry
  pub seat : Seat z s q x before entry after
  pub key : entry.key ≡ k
  pub place_is : place k (state_in z s) ≡ here q before entry after

-- the key k is a ghost at the node x
pub record IsGhost (z : Shape) (s : List ℕ) (k x : ℕ) : Type 0 where
  pub before : List ℕ
  pub after : List ℕ
  pub seat : GhostSeat z s x before k after
  pub place_is : place k (state_in z s) ≡ nowhere
  pub split_is : split_by (eqb k) (state_in z s).ghosts ≡ found before k after

-- the key k is neither
pub record Lacks (z : Shape) (s : List ℕ) (k : ℕ) : Type 0 where
  pub none : places k (state_in z s) ≡ 0

-- what a lookup of k says
pub record Looks (z : Shape) (s : List ℕ) (k : ℕ) (r : Lookup) : Type 0 where
  pub resident : (q : QueueKind) (x : ℕ) → r ≡ Resident q x → IsResident z s k (queue_kind q) x
  pub is_ghost : (x : ℕ) → r ≡ Ghost x → IsGhost z s k x
  pub absent : r ≡ Absent → Lacks z s k
