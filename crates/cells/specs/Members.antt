-- The members of a list: what holds of each, and where a number stands.
-- Assumes nothing.
use Rattle.std.specs.Prelude.{◌≡◌, ◌≢◌, List, [], ◌∷◌, ◌++◌, ℕ}

-- P of every member
abbrev pub Every : {A : Type 0} → (A → Type 0) → List A → Type 0
Every P [] = Unit {0}
Every P (x ∷ l) = P x × Every P l

-- i is no member
abbrev pub Out : ℕ → List ℕ → Type 0
Out i l = Every (λ y. y ≢ i) l

-- x is a member, and where it stands
pub record Among (x : ℕ) (l : List ℕ) : Type 0 where
  pub front : List ℕ
  pub back : List ℕ
  pub is : l ≡ front ++ x ∷ back
