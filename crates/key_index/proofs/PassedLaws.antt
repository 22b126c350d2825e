-- A chain walked up to some link, and what holds of each node on the way: what a lookup and the way to a key's place have in common.
-- Assumes nothing.
use mathlib.Core.Path.{◌≡◌, refl}
use mathlib.Core.List.{List, [], ◌∷◌, ◌++◌}
use Prim.Native.Nat.{ℕ, ◌<◌}
use Rattle.key_index.specs.Links.{In, Links, Whole}
use Rattle.key_index.proofs.LinksLaws.{each_snoc, grow, goes_on}

-- the chain from h₀ was walked up to h, over nodes of which P holds
pub record Passed (n : ℕ) (link : ℕ → ℕ) (P : ℕ → Type 0) (h₀ h : ℕ) : Type 0 where
  pub front : List ℕ
  pub links : Links n link h₀ front h
  pub each : (y : ℕ) → In y front → P y

abbrev pub passed_start : {n : ℕ} {link : ℕ → ℕ} {P : ℕ → Type 0} {h : ℕ} → Passed n link P h h
passed_start = record { front = []; links = refl; each = λ y i. absurd i }

module _ {n : ℕ} {link : ℕ → ℕ} {P : ℕ → Type 0} {h₀ : ℕ} (h : ℕ) (s : Passed n link P h₀ h) where
  abbrev pub passed-next : h < n → P h → Passed n link P h₀ (link h)
  passed-next b p = record {
    front = s.front ++ h ∷ [];
    links = grow n link h₀ s.front h s.links b;
    each = each_snoc P s.front h s.each p;
  }

  -- where a whole chain goes on from h
  pub passed_on : (w : Whole n link h₀) → (t : List ℕ) × (w.nodes ≡ s.front ++ t) × Links n link h t n
  passed_on w = goes_on n link h₀ s.front w.nodes h s.links w.links

  pub passed-whole : Whole n link h₀ → Whole n link h
  passed-whole w = let g = passed_on w in record { nodes = g.0; links = g.2 }
