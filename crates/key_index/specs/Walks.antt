-- What the walks along a chain answer: the first node with a key, the node in front of another, and the place of a key.
-- Assumes nothing.
use Rattle.std.specs.Prelude.{◌≡◌, List, [], ◌∷◌, ◌++◌, ℕ, ◌≤◌, ◌<◌, eqb, Option}
use Rattle.std.specs.List.{find}
use Rattle.key_index.specs.Links.{In, Links, Whole}

-- the first of the nodes that has the key k
abbrev pub first_with : (ℕ → ℕ) → ℕ → List ℕ → Option ℕ
first_with key k xs = find (λ x. eqb (key x) k) xs

-- r is that node of the whole chain from h
pub record FirstIs (n : ℕ) (key link : ℕ → ℕ) (k h : ℕ) (r : Option ℕ) : Type 0 where
  pub first_is : (w : Whole n link h) → r ≡ first_with key k w.nodes

-- the last of xs, and a where there is none
abbrev pub last : ℕ → List ℕ → ℕ
last a [] = a
last a (x ∷ xs) = last x xs

-- the chain goes on from the node h to x
pub record Goes (n : ℕ) (link : ℕ → ℕ) (h x : ℕ) : Type 0 where
  pub below : h < n
  pub whole : Whole n link (link h)
  pub has : In x whole.nodes

-- p is the node in front of x in the chain that goes on from the node h
pub record InFront (n : ℕ) (link : ℕ → ℕ) (h x p : ℕ) : Type 0 where
  pub front : List ℕ
  pub back : List ℕ
  pub links : Links n link (link h) (front ++ x ∷ back) n
  pub at : p ≡ last h front
  pub below : p < n

-- in the chain from h the nodes up to p have keys below k, and the next has not; p is n where the first has not
pub record Gap (n : ℕ) (key link : ℕ → ℕ) (k h p : ℕ) : Type 0 where
  pub front : List ℕ
  pub back : List ℕ
  pub links : Links n link h (front ++ back) n
  pub at : p ≡ last n front
  pub low : (y : ℕ) → In y front → key y < k
  pub high : (y : ℕ) (t : List ℕ) → back ≡ y ∷ t → k ≤ key y
