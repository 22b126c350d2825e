-- What is read at a node: the code's entry and ghost are those that the columns show.
-- Assumes nothing.
use Rattle.std.specs.Prelude.{◌≡◌, List, ℕ, ◌<◌, get_or}
use Rattle.nodes.specs.Nodes.{Queue as Tag, cols}
use Rattle.nodes.specs.declared.Shape.{Shape}
use Rattle.rules.specs.declared.GuestBlock.{GuestBlock}
use Rattle.rules.specs.State.{Entry, Queue}
use Rattle.store.specs.declared.Entry.{Entry as Entry·}
use Rattle.store.specs.Holds.{list_no, entry_at, key_at}

-- the entry that the code's is
abbrev pub entry_of : Entry· → Entry
entry_of e = record { key = e.key.0; value = e.value.0; freq = e.freq }

-- r is the entry at the node x; its frequency is one byte wide
pub record GetsEntry (z : Shape) (s : List ℕ) (x : ℕ) (r : Entry·) : Type 0 where
  pub entry : entry_of r ≡ entry_at (cols z s) x
  pub one_byte : r.freq < 256

-- r is the ghost at the node x
pub record GetsGhost (z : Shape) (s : List ℕ) (x : ℕ) (r : GuestBlock) : Type 0 where
  pub key : r.0 ≡ key_at (cols z s) x

-- the node x is a resident's, by the list that it names
pub record HoldsResident (z : Shape) (s : List ℕ) (x : ℕ) : Type 0 where
  pub queue : Queue
  pub names : get_or (cols z s Tag) x 0 ≡ list_no queue
