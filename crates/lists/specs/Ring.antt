-- Circular doubly linked lists with a sentinel, over two columns: `nx` holds each node's next, `pv` each node's previous.
-- Assumes nothing.
use Rattle.std.specs.Prelude.{◌≡◌, List, [], ◌∷◌, ◌++◌, ℕ, zero, suc, ◌≤◌, ◌<◌, eqb, length, get_or}
use Rattle.cells.specs.Columns.{pick}
use Rattle.cells.specs.Members.{Every}

-- x is the first member
pub record First (x : ℕ) (l : List ℕ) : Type 0 where
  pub back : List ℕ
  pub is : l ≡ x ∷ back

-- x is the last member
pub record Last (x : ℕ) (l : List ℕ) : Type 0 where
  pub front : List ℕ
  pub is : l ≡ front ++ x ∷ []

-- a and b are neighbours, in both directions
abbrev pub Link : List ℕ → List ℕ → ℕ → ℕ → Type 0
Link nx pv a b = (get_or nx a 0 ≡ b) × (get_or pv b 0 ≡ a)

-- the way from u through l, in order, to v
abbrev pub Seg : List ℕ → List ℕ → ℕ → List ℕ → ℕ → Type 0
Seg nx pv u [] v = Link nx pv u v
Seg nx pv u (x ∷ l) v = Link nx pv u x × Seg nx pv x l v

-- l is the ring of the sentinel s; nodes are below N, sentinels from N on. That no node stands twice follows
pub record Ring (N : ℕ) (nx pv : List ℕ) (s : ℕ) (l : List ℕ) : Type 0 where
  pub seg : Seg nx pv s l s
  pub nodes : Every (λ y. y < N) l
  pub low : N ≤ s
  pub in_nx : s < length nx
  pub in_pv : s < length pv

-- every member has the tag t in the column q
abbrev pub Tagged : List ℕ → ℕ → List ℕ → Type 0
Tagged q t l = Every (λ y. get_or q y 0 ≡ t) l

-- the nodes on the way along nx from u to s, at most k of them
unfoldable pub trail : List ℕ → ℕ → ℕ → ℕ → List ℕ
trail nx s zero u = []
trail nx s (suc k) u = pick (eqb (get_or nx u 0) s) [] (get_or nx u 0 ∷ trail nx s k (get_or nx u 0))
