-- Lists of nodes along which the keys rise.
-- Assumes nothing.
use mathlib.Core.Path.{◌≡◌, refl, ap}
use mathlib.Core.List.{List, [], ◌∷◌, ◌++◌, append-nil}
use mathlib.Core.Logic.{inl, inr, ⊎_elim}
use Prim.Native.Nat.{ℕ, ◌≤◌, ◌<◌}
use native.Mathlib.Omega.{arith}
use Rattle.cells.proofs.MembersLaws.{Nodup}
use Rattle.key_index.specs.Links.{In, Links, Rises}
use Rattle.key_index.proofs.LinksLaws.{in-append, in-cases, in-more, first, behind}
use Rattle.key_index.proofs.DistinctLaws.{out_of}

module _ (key : ℕ → ℕ) where
  -- one node less in the middle, and one more
  pub rises_out : (x : ℕ) (s t : List ℕ) → Rises key (s ++ x ∷ t) → Rises key (s ++ t)
  rises_out x [] t r = r.1
  rises_out x (y ∷ s) t r = (λ z i. r.0 z (in-more z x s t i), rises_out x s t r.1)

  pub rises_in : (x : ℕ) (s t : List ℕ) → Rises key (s ++ t) → ((y : ℕ) → In y s → key y < key x) → ((y : ℕ) → In y t → key x < key y) → Rises key (s ++ x ∷ t)
  rises_in x [] t r low high = (high, r)
  rises_in x (y ∷ s) t r low high = (
    λ z i. ⊎_elim (λ j. r.0 z (in-append z s t (inl j))) (λ j. ⊎_elim (λ q. rw q (low y (inl refl))) (λ k. r.0 z (in-append z s t (inr k))) j)
        (in-cases z s (x ∷ t) i),
    rises_in x s t r.1 (λ z i. low z (inr i)) high,
  )

  -- one node more at the end
  pub rises_snoc : (x : ℕ) (s : List ℕ) → Rises key s → ((y : ℕ) → In y s → key y < key x) → Rises key (s ++ x ∷ [])
  rises_snoc x s r low = rises_in x s [] (rw (append-nil s) r) low (λ y i. absurd i)

  -- behind a node the keys are above its own
  pub rises_from : (s : List ℕ) (x : ℕ) (t : List ℕ) → Rises key (s ++ x ∷ t) → (y : ℕ) → In y t → key x < key y
  rises_from [] x t r y i = r.0 y i
  rises_from (z ∷ s) x t r y i = rises_from s x t r.1 y i

  -- one key, one node
  pub rises_once : (xs : List ℕ) → Rises key xs → (x y : ℕ) → In x xs → In y xs → key x ≡ key y → x ≡ y
  rises_once [] r x y x6 _ e = elim x6 [ ]
  rises_once (z ∷ xs) r x y (inl p) (inl q) e = rw (p, q)
  rises_once (z ∷ xs) r x y (inl p) (inr j) e = absurd (omega (arith, r.0 y j, ap key p, e))
  rises_once (z ∷ xs) r x y (inr i) (inl q) e = absurd (omega (arith, r.0 x i, ap key q, e))
  rises_once (z ∷ xs) r x y (inr i) (inr j) e = rises_once xs r.1 x y i j e

  pub rises_nodup : (xs : List ℕ) → Rises key xs → Nodup xs
  rises_nodup [] r = tt
  rises_nodup (x ∷ xs) r = (out_of x xs (λ i. let h = r.0 x i in omega (arith, h)), rises_nodup xs r.1)

-- the keys rise as they did where they are the same
pub rises_same : (key key' : ℕ → ℕ) (xs : List ℕ) → ((y : ℕ) → In y xs → key' y ≡ key y) → Rises key xs → Rises key' xs
rises_same key key' [] e r = tt
rises_same key key' (x ∷ xs) e r =
    (λ y i. rw (e x (inl refl), e y (inr i)) (r.0 y i), rises_same key key' xs (λ y i. e y (inr i)) r.1)

-- along a chain: the first key is the lowest, and each link leads to a larger key
module _ (n : ℕ) (key f : ℕ → ℕ) where
  pub lowest : (h : ℕ) (xs : List ℕ) (e : ℕ) → Links n f h xs e → Rises key xs → (y : ℕ) → In y xs → key h ≤ key y
  lowest h [] e w r y x3 = elim x3 [ ]
  lowest h (x ∷ xs) e w r y (inl q) = omega (arith, ap key w.0, ap key q)
  lowest h (x ∷ xs) e w r y (inr i) = omega (arith, ap key w.0, r.0 y i)

  pub rises_next : (h : ℕ) (xs : List ℕ) → Links n f h xs n → Rises key xs → (p : ℕ) → In p xs → f p < n → key p < key (f p)
  rises_next h xs w r p i b =
      let g = behind n f h xs w p i in
      let o = first n f (f p) g.1 g.3 b in
      rises_from key g.0 p g.1 (rw g.2 at r) (f p) (rw o.1 (inl refl))
