-- How a store reads as a state of the cache (docs/STORE.md): its limits, and the entries and keys of its lists.
-- Assumes nothing.
use Rattle.std.specs.Prelude.{◌≡◌, List, map, ℕ, ◌+◌, ◌*◌, get_or}
use Rattle.nodes.specs.Nodes.{Head, Key, Value, Freq, Rest, Cols, cols, Room}
use Rattle.nodes.specs.declared.Shape.{Shape}
use Rattle.pool.specs.Carries.{lists_of, Pooled}
use Rattle.rules.specs.State.{Entry, Limits, State, Queue, Small, Main, Sound}

-- ---- what the columns show

-- the number of a queue's list
abbrev pub list_no : Queue → ℕ
list_no Small = 1
list_no Main = 2

abbrev pub ghosts_no : ℕ
ghosts_no = 3

-- the entry that a node carries, by the columns of keys, values and freqs
abbrev pub entry_by : List ℕ → List ℕ → List ℕ → ℕ → Entry
entry_by keys values freqs y = record { key = get_or keys y 0; value = get_or values y 0; freq = get_or freqs y 0 }

abbrev pub entry_at : Cols → ℕ → Entry
entry_at c = entry_by (c Key) (c Value) (c Freq)

abbrev pub node_key : List ℕ → ℕ → ℕ
node_key keys y = get_or keys y 0

abbrev pub key_at : Cols → ℕ → ℕ
key_at c = node_key (c Key)

abbrev pub limits_in : Cols → Limits
limits_in c = record { capacity = get_or (c Head) 0 0; small_limit = get_or (c Head) 1 0; ghost_limit = get_or (c Head) 2 0 }

abbrev pub shown : Cols → (ℕ → List ℕ) → State
shown c f =
    record {
      limits = limits_in c;
      small = map (entry_at c) (f (list_no Small));
      main = map (entry_at c) (f (list_no Main));
      ghosts = map (key_at c) (f ghosts_no);
    }

-- the state that a store reads as
unfoldable pub state_in : Shape → List ℕ → State
state_in z s = shown (cols z s) (lists_of z (cols z s))

-- what stands behind the store
abbrev pub rest_in : Shape → List ℕ → List ℕ
rest_in z s = cols z s Rest

-- ---- when a store holds it

-- a node for each resident and each ghost that the limits allow, and three buckets to a node
abbrev pub shape_for : Limits → Shape
shape_for L = record { room = L.capacity + L.ghost_limit; buckets = 3 * (L.capacity + L.ghost_limit) }

-- lists, index and numbers are as they should be
pub record Keeps (z : Shape) (s : List ℕ) : Type 0 where
  pub room : Room z s
  pub pooled : Pooled z s
  pub shaped : z ≡ shape_for (limits_in (cols z s))

-- and the state is sound
pub record Held (z : Shape) (s : List ℕ) : Type 0 where
  pub keeps : Keeps z s
  pub sound : Sound (state_in z s)

-- s holds σ: a store holds one state at most (`holds-once`)
pub record Holds (s : List ℕ) (σ : State) : Type 0 where
  pub held : Held (shape_for σ.limits) s
  pub state : state_in (shape_for σ.limits) s ≡ σ

-- ---- what an operation on the store says

-- from s to s' the state became τ, and what stands behind the store stayed
pub record Becomes (z : Shape) (s s' : List ℕ) (τ : State) : Type 0 where
  pub keeps : Keeps z s'
  pub state : state_in z s' ≡ τ
  pub rest : rest_in z s' ≡ rest_in z s
