-- The four lists of the store: 0 Free, 1 Small, 2 Main, 3 Ghosts, newest first. List t has the sentinel room + t; its nodes have
-- t in the field Queue; the header's cell 4 + t has its length.
-- Assumes nothing.
use Rattle.std.specs.Prelude.{◌≡◌, List, ℕ, ◌+◌, ◌-◌, ◌≤◌, ◌<◌, length, get_or}
use Rattle.nodes.specs.Nodes.{Head, Key, Value, Next, Prev, Chain, Queue, Freq, Bucket, Rest, Cols, cols, over}
use Rattle.nodes.specs.declared.Shape.{Shape}
use Rattle.lists.specs.Pool.{Pool}

-- how many lists there are
abbrev pub list_count : ℕ
list_count = 4

-- what the header says of the length of list t
abbrev pub many : Cols → ℕ → ℕ
many c t = get_or (c Head) (4 + t) 0

-- the columns' four lists are f's, and the header has their lengths
pub record Lists (z : Shape) (c : Cols) (f : ℕ → List ℕ) : Type 0 where
  pub pool : Pool z.room list_count (c Next) (c Prev) (c Queue) f
  pub counts : (t : ℕ) → t < list_count → many c t ≡ length (f t)
  pub in_head : 8 ≤ length (c Head)

-- how many nodes they have in all
abbrev pub in_all : (ℕ → List ℕ) → ℕ
in_all f = length (f 0) + length (f 1) + length (f 2) + length (f 3)

-- all that is no part of the lists is the same in c and d
pub record Untouched (c d : Cols) : Type 0 where
  pub keys : d Key ≡ c Key
  pub values : d Value ≡ c Value
  pub chains : d Chain ≡ c Chain
  pub freqs : d Freq ≡ c Freq
  pub buckets : d Bucket ≡ c Bucket
  pub rest : d Rest ≡ c Rest
  pub heads_below : (i : ℕ) → i < 4 → get_or (d Head) i 0 ≡ get_or (c Head) i 0
  pub heads_above : (i : ℕ) → 8 ≤ i → get_or (d Head) i 0 ≡ get_or (c Head) i 0

-- ---- what a node's way into a list and out of it does to the columns

-- node x out of its ring: its neighbours become each other's
unfoldable pub unlink : Cols → ℕ → Cols
unlink c x = over (over c Next (get_or (c Prev) x 0) (get_or (c Next) x 0)) Prev (get_or (c Next) x 0) (get_or (c Prev) x 0)

-- node x at the head of the ring of the sentinel h
unfoldable pub link : Cols → ℕ → ℕ → Cols
link c h x = over (over (over (over c Next x (get_or (c Next) h 0)) Next h x) Prev x h) Prev (get_or (c Next) h 0) x

-- node x out of list t
unfoldable pub detached : Cols → ℕ → ℕ → Cols
detached c t x = over (unlink c x) Head (4 + t) (many c t - 1)

-- node x, which is in no list, at the head of list t
unfoldable pub attached : Shape → Cols → ℕ → ℕ → Cols
attached z c t x = over (link (over c Queue x t) (z.room + t) x) Head (4 + t) (many c t + 1)

-- node x of list t at the head of it
unfoldable pub fronted : Shape → Cols → ℕ → ℕ → Cols
fronted z c t x = link (unlink c x) (z.room + t) x

-- ---- contracts: what a function asks, so that it stays within the columns, and the columns that it leaves

-- x and its neighbours are in reach
pub record CanUnlink (z : Shape) (s : List ℕ) (x : ℕ) : Type 0 where
  pub node : x < z.room + 4
  pub next_in : get_or (cols z s Next) x 0 < z.room + 4
  pub prev_in : get_or (cols z s Prev) x 0 < z.room + 4

-- the store s' is s with x out of its ring
pub record Unlinked (z : Shape) (s s' : List ℕ) (x : ℕ) : Type 0 where
  pub columns : cols z s' ≡ unlink (cols z s) x

-- h, its next and x are in reach
pub record CanLink (z : Shape) (s : List ℕ) (h x : ℕ) : Type 0 where
  pub head : h < z.room + 4
  pub node : x < z.room + 4
  pub next_in : get_or (cols z s Next) h 0 < z.room + 4

-- the store s' is s with x at the head of the ring of h
pub record Linked (z : Shape) (s s' : List ℕ) (h x : ℕ) : Type 0 where
  pub columns : cols z s' ≡ link (cols z s) h x

-- x and its neighbours are in reach, and list t has a node to lose
pub record CanDetach (z : Shape) (s : List ℕ) (t x : ℕ) : Type 0 where
  pub list : t < list_count
  pub node : x < z.room
  pub next_in : get_or (cols z s Next) x 0 < z.room + 4
  pub prev_in : get_or (cols z s Prev) x 0 < z.room + 4
  pub some : 1 ≤ many (cols z s) t

-- the store s' is s with x out of list t
pub record Detached (z : Shape) (s s' : List ℕ) (t x : ℕ) : Type 0 where
  pub columns : cols z s' ≡ detached (cols z s) t x

-- x and the head of list t are in reach, and the list is not as long as it can be
pub record CanAttach (z : Shape) (s : List ℕ) (t x : ℕ) : Type 0 where
  pub list : t < list_count
  pub node : x < z.room
  pub next_in : get_or (cols z s Next) (z.room + t) 0 < z.room + 4
  pub space : many (cols z s) t < z.room

-- the store s' is s with x at the head of list t
pub record Attached (z : Shape) (s s' : List ℕ) (t x : ℕ) : Type 0 where
  pub columns : cols z s' ≡ attached z (cols z s) t x

-- x, its neighbours and the head of list t are in reach, the head when x is out of its ring
pub record CanFront (z : Shape) (s : List ℕ) (t x : ℕ) : Type 0 where
  pub list : t < list_count
  pub node : x < z.room
  pub next_in : get_or (cols z s Next) x 0 < z.room + 4
  pub prev_in : get_or (cols z s Prev) x 0 < z.room + 4
  pub first_in : get_or (unlink (cols z s) x Next) (z.room + t) 0 < z.room + 4

-- the store s' is s with x at the head of list t, in which it was
pub record ToFront (z : Shape) (s s' : List ℕ) (t x : ℕ) : Type 0 where
  pub columns : cols z s' ≡ fronted z (cols z s) t x
