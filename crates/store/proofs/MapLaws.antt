-- Laws of mapped lists of nodes: a change at one node changes what is mapped there alone; and sums over them.
-- Assumes nothing.
use mathlib.Core.Path.{◌≡◌, refl, ap, ap₂, ◌∙◌}
use mathlib.Core.Logic.{◌≢◌}
use mathlib.Core.List.{List, [], ◌∷◌, ◌++◌, map}
use Prim.Native.Nat.{ℕ, suc, ◌+◌, ◌≤◌}
use native.Mathlib.Omega.{arith}
use lib.ListN.{length}
use Rattle.cells.specs.Members.{Every, Out, Among}
use Rattle.rules.specs.Parts.{total}
use Rattle.rules.proofs.PartsLaws.{total_mid}

module _ {A : Type 0} where
  pub map-append : (g : ℕ → A) (a b : List ℕ) → map g (a ++ b) ≡ map g a ++ map g b
  map-append g [] b = refl
  map-append g (x ∷ a) b = ap (λ (l : List A). g x ∷ l) (map-append g a b)

  pub map-length : (g : ℕ → A) (l : List ℕ) → length (map g l) ≡ length l
  map-length g [] = refl
  map-length g (x ∷ l) = ap suc (map-length g l)

  -- a list without x does not see a change at x
  pub map-out : (g h : ℕ → A) (x : ℕ) (l : List ℕ) → Out x l → ((y : ℕ) → y ≢ x → h y ≡ g y) → map h l ≡ map g l
  map-out g h x [] o same = refl
  map-out g h x (y ∷ l) o same = ap₂ (λ (e : A) (m : List A). e ∷ m) (same y o.0) (map-out g h x l o.1 same)

  -- one that has it once sees it there
  pub map_at : (g h : ℕ → A) (a : List ℕ) (x : ℕ) (b : List ℕ) → Out x a → Out x b → ((y : ℕ) → y ≢ x → h y ≡ g y)
      → map h (a ++ x ∷ b) ≡ map g a ++ (h x ∷ map g b)
  map_at g h a x b o p same =
      map-append h a (x ∷ b) ∙ ap₂ (λ (l m : List A). l ++ (h x ∷ m)) (map-out g h x a o same) (map-out g h x b p same)

  -- a sum over what is mapped is a sum over the nodes
  pub total-map : (f : A → ℕ) (g : ℕ → A) (l : List ℕ) → total f (map g l) ≡ total (λ y. f (g y)) l
  total-map f g [] = refl
  total-map f g (x ∷ l) = ap (λ n. f (g x) + n) (total-map f g l)

-- a sum of nothings is nothing
pub total-none : (f : ℕ → ℕ) (l : List ℕ) → ((x : ℕ) → Among x l → f x ≡ 0) → total f l ≡ 0
total-none f [] h = refl
total-none f (x ∷ l) h =
    omega (
      arith,
      h x (record { front = []; back = l; is = refl }),
      total-none f l (λ y m. h y (record { front = x ∷ m.front; back = m.back; is = ap (λ t. x ∷ t) m.is })),
    )

-- also where all but x are nothings, and x is not there
pub total_but : (f : ℕ → ℕ) (x : ℕ) (l : List ℕ) → Every (λ y. y ≢ x → f y ≡ 0) l → Out x l → total f l ≡ 0
total_but f x [] h o = refl
total_but f x (y ∷ l) h o = omega (arith, h.0 o.0, total_but f x l h.1 o.1)

-- each summand is at most the sum
pub total-some : (f : ℕ → ℕ) {x : ℕ} {l : List ℕ} → Among x l → f x ≤ total f l
total-some f {x} m = omega (arith, total_mid f m.front x m.back m.is)
