-- The walk along a part of a chain that nobody vouches for.
-- Assumes nothing.
use mathlib.Core.Path.{◌≡◌, refl, ◌∙◌, ap}
use mathlib.Core.List.{List, [], ◌∷◌, ◌++◌}
use mathlib.Core.Logic.{◌⊎◌, inl, inr, ⊎_elim}
use Prim.Native.Nat.{ℕ, zero, suc, ◌+◌, ◌≤◌, ◌<◌}
use native.Mathlib.Omega.{arith}
use lib.ListN.{length, length-append}
use Rattle.key_index.specs.Links.{In, Links, Rises}
use Rattle.key_index.specs.Index.{bucket_of, Clean}
use Rattle.census.specs.Check.{LeadsUp}
use Rattle.key_index.proofs.LinksLaws.{in-append, each_snoc, first, within, grow, goes_on}
use Rattle.key_index.proofs.DistinctLaws.{few}
use Rattle.key_index.proofs.FewLaws.{links-below}
use Rattle.key_index.proofs.RisesLaws.{rises_snoc, rises_from, rises_nodup}

-- the chain from the link h₀ was walked up to h, over `count` good nodes of the bucket b
pub record Walked (n buckets : ℕ) (key link : ℕ → ℕ) (live : ℕ → Type 0) (b h₀ h count : ℕ) : Type 0 where
  pub front : List ℕ
  pub links : Links n link h₀ front h
  pub sound : (y : ℕ) → In y front → live y × (bucket_of (key y) buckets ≡ b)
  pub rising : Rises key front
  pub low : (y : ℕ) → In y front → h < n → key y < key h
  pub inside : h ≤ n
  pub size : length front ≡ count

module _ {n buckets : ℕ} {key link : ℕ → ℕ} {live : ℕ → Type 0} {b h₀ : ℕ} where
  pub walked_start : h₀ ≤ n → Walked n buckets key link live b h₀ h₀ 0
  walked_start o = record { front = []; links = refl; sound = λ y i. absurd i; rising = tt; low = λ y i. absurd i; inside = o; size = refl }

  module _ (h count : ℕ) (w : Walked n buckets key link live b h₀ h count) where
    pub walked_done : n ≤ h → (c : Clean n buckets key link live b h₀) × (length c.whole.nodes ≡ count)
    walked_done o =
        let e : h ≡ n = omega (arith, o, w.inside) in
        (record { whole = record { nodes = w.front; links = rw e at w.links }; sound = w.sound; rising = w.rising }, w.size)

    module _ (below : h < n) where
      longer : Rises key (w.front ++ h ∷ [])
      longer = rises_snoc key h w.front w.rising (λ y i. w.low y i below)

      -- there are nodes left
      pub walked_few : count < n
      walked_few =
          let f = few n (w.front ++ h ∷ []) (links-below n link h₀ (w.front ++ h ∷ []) (link h) (grow n link h₀ w.front h w.links below))
          (rises_nodup key (w.front ++ h ∷ []) longer) in
          omega (arith, f, w.size, length-append w.front (h ∷ []))

      pub walked_next : live h → bucket_of (key h) buckets ≡ b → LeadsUp n key (key h) (link h) → Walked n buckets key link live b h₀ (link h) (count + 1)
      walked_next l e f =
          record {
            front = w.front ++ h ∷ [];
            links = grow n link h₀ w.front h w.links below;
            sound = each_snoc (λ y. live y × (bucket_of (key y) buckets ≡ b)) w.front h w.sound (l, e);
            rising = longer;
            low = λ y i o.
                let a = f.above o in
                each_snoc (λ z. key z < key (link h)) w.front h (λ z j. let c = w.low z j below in omega arith) a y i;
            inside = f.within;
            size = omega (arith, w.size, length-append w.front (h ∷ []));
          }

      -- if the chain is a good one, so is the node that the walk has come to
      module _ (c : Clean n buckets key link live b h₀) where
        here : (t : List ℕ) × (c.whole.nodes ≡ w.front ++ h ∷ t) × Links n link (link h) t n
        here =
            let g = goes_on n link h₀ w.front c.whole.nodes h w.links c.whole.links in
            let f = first n link h g.0 g.2 below in
            (f.0, g.1 ∙ ap (λ (l : List ℕ). w.front ++ l) f.1, f.2)

        pub walked_good : live h × (bucket_of (key h) buckets ≡ b)
        walked_good = c.sound h (rw here.1 (in-append h w.front (h ∷ here.0) (inr (inl refl))))

        pub walked_up : LeadsUp n key (key h) (link h)
        walked_up =
            record {
              within = within n link (link h) here.0 here.2;
              above = λ o.
                  let f = first n link (link h) here.0 here.2 o in
                  rises_from key w.front h here.0 (rw here.1 at c.rising) (link h) (rw f.1 (inl refl));
            }

  -- where every live node of the bucket is followed by one, every walk comes to an end
  module _ (on : (p : ℕ) → live p → bucket_of (key p) buckets ≡ b → LeadsUp n key (key p) (link p)
      × ((link p ≡ n) ⊎ (live (link p) × (bucket_of (key (link p)) buckets ≡ b))))
      (below : (p : ℕ) → live p → p < n) where
    pub walk-out : (fuel h count : ℕ) → n ≤ count + fuel → Walked n buckets key link live b h₀ h count → (h ≡ n) ⊎ (live h × (bucket_of (key h) buckets ≡ b))
        → Clean n buckets key link live b h₀
    walk-out zero h count long w s =
        ⊎_elim (λ e. (walked_done h count w (omega (arith, e))).0) (λ g. absurd (omega (arith, walked_few h count w (below h g.0), long))) s
    walk-out (suc fuel) h count long w s =
        ⊎_elim (λ e. (walked_done h count w (omega (arith, e))).0)
        (λ g.
        let o = on h g.0 g.1 in
        walk-out fuel (link h) (count + 1) (omega (arith, long)) (walked_next h count w (below h g.0) g.0 g.1 o.0) o.1) s
