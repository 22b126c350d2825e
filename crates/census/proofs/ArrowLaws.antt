-- Heads and links that lead to a node, counted: where they are as many as the live nodes, and each live node stands where it should,
-- there is an index; and in an index they are as many.
-- Assumes nothing.
use mathlib.Core.Path.{◌≡◌, refl, sym, ◌∙◌, ap}
use mathlib.Core.List.{List, [], ◌∷◌, ◌++◌, map}
use mathlib.Core.Logic.{◌⊎◌, inl, inr, ⊎_elim, ◌≢◌}
use Prim.Native.Nat.{ℕ, zero, suc, ◌+◌, ◌<◌}
use native.Mathlib.Omega.{arith}
use native.Mathlib.Decide.{ℕ_discrete}
use lib.ListN.{length, length-append}
use Rattle.std.proofs.lemmas.List.{length-map}
use Rattle.cells.proofs.MembersLaws.{Nodup}
use Rattle.key_index.specs.Links.{In, Links}
use Rattle.key_index.specs.Index.{bucket_of, Clean, Bucketed, Index}
use Rattle.census.specs.Check.{LeadsUp}
use Rattle.key_index.proofs.LinksLaws.{in-append, in-cases, first, within, behind, next_in, no_return, next-once, in-front}
use Rattle.key_index.proofs.DistinctLaws.{fewer, onto, tight, nodup_both, nodup_parts}
use Rattle.key_index.proofs.DistinctLaws.{in_map, map_in, map-once, map_nodup}
use Rattle.key_index.proofs.RisesLaws.{rises_once}
use Rattle.key_index.proofs.IndexLaws.{bucket-below}
use Rattle.census.proofs.WalkedLaws.{walked_start, walk-out}
use Rattle.census.proofs.VouchLaws.{top, Arrow, Stands}

-- `heads` are the buckets whose head leads to something, `links` the live nodes whose link does, `every` the live nodes
pub record Arrows (n buckets : ℕ) (link head : ℕ → ℕ) (live : ℕ → Type 0) (heads links every : List ℕ) : Type 0 where
  pub heads-apart : Nodup heads
  pub heads-are : (b : ℕ) → In b heads → (b < buckets) × (head b ≢ n)
  pub heads-have : (b : ℕ) → b < buckets → head b ≢ n → In b heads
  pub links-apart : Nodup links
  pub links-are : (p : ℕ) → In p links → live p × (link p ≢ n)
  pub links-have : (p : ℕ) → live p → link p ≢ n → In p links
  pub apart : Nodup every
  pub are : (y : ℕ) → In y every → live y
  pub have : (y : ℕ) → live y → In y every
  pub below : (y : ℕ) → live y → y < n

module _ {n buckets : ℕ} (key : ℕ → ℕ) {link head : ℕ → ℕ} {live : ℕ → Type 0} {heads links every : List ℕ}
    (a : Arrows n buckets link head live heads links every) (some : 0 < buckets) where
  -- what they lead to
  abbrev goals : List ℕ
  goals = map head heads ++ map link links

  goals-long : length goals ≡ length heads + length links
  goals-long = omega (arith, length-append (map head heads) (map link links), length-map heads head, length-map links link)

  head_goal : (b : ℕ) → b < buckets → (y : ℕ) → head b ≡ y → y < n → In y goals
  head_goal b h y e l =
      rw (← e) (in-append (head b) (map head heads) (map link links) (inl (in_map head b heads (a.heads-have b h (λ q. omega (arith, q, e, l))))))

  link_goal : (p : ℕ) → live p → (y : ℕ) → link p ≡ y → y < n → In y goals
  link_goal p lp y e l =
      rw (← e) (in-append (link p) (map head heads) (map link links) (inr (in_map link p links (a.links-have p lp (λ q. omega (arith, q, e, l))))))

  -- ---- from the counts to the index

  module _ (stands : (y : ℕ) → live y → Stands n buckets key link head live y) (as_many : length heads + length links ≡ length every) (home : link n ≡ n) where
    covered : (y : ℕ) → In y every → In y goals
    covered y i = go (stands y l).place
      where
        l : live y
        l = a.are y i

        go : (top n buckets key link head live y ≡ y) ⊎ ((p : ℕ) × Arrow n buckets key link head live p y) → In y goals
        go (inl e) = head_goal (bucket_of (key y) buckets) (bucket-below (key y) buckets some) y e (a.below y l)
        go (inr r) = link_goal r.0 r.1.lives y r.1.link-is (a.below y l)

    reached : (y : ℕ) → In y goals → In y every
    reached y i = onto every goals a.apart covered (omega (arith, goals-long, as_many)) y i

    parts : Nodup (map head heads) × Nodup (map link links) × ((y : ℕ) → In y (map head heads) → In y (map link links) → ⊥)
    parts = nodup_parts (map head heads) (map link links) (tight every goals a.apart covered (omega (arith, goals-long, as_many)))

    -- a head that leads to something leads to a live node of its bucket
    head-good : (b : ℕ) → b < buckets → head b ≢ n → live (head b) × (bucket_of (key (head b)) buckets ≡ b)
    head-good b h ne = (l, go (stands (head b) l).place)
      where
        i : In b heads
        i = a.heads-have b h ne

        l : live (head b)
        l = a.are (head b) (reached (head b) (in-append (head b) (map head heads) (map link links) (inl (in_map head b heads i))))

        go : (top n buckets key link head live (head b) ≡ head b) ⊎ ((p : ℕ) × Arrow n buckets key link head live p (head b))
            → bucket_of (key (head b)) buckets ≡ b
        go (inl e) =
            map-once head heads parts.0 (bucket_of (key (head b)) buckets) b
            (a.heads-have (bucket_of (key (head b)) buckets) (bucket-below (key (head b)) buckets some) (λ q. ne (sym e ∙ q))) i e
        go (inr r) =
            let j = a.links-have r.0 r.1.lives (λ q. ne (sym r.1.link-is ∙ q)) in
            absurd (parts.2 (head b) (in_map head b heads i) (rw r.1.link-is at (in_map link r.0 links j)))

    -- and so does a link, with a larger key
    link-good : (p : ℕ) → live p → link p ≢ n → live (link p) × (bucket_of (key (link p)) buckets ≡ bucket_of (key p) buckets) × (key p < key (link p))
    link-good p lp ne = let g = go (stands (link p) l).place in (l, g.0, g.1)
      where
        i : In p links
        i = a.links-have p lp ne

        l : live (link p)
        l = a.are (link p) (reached (link p) (in-append (link p) (map head heads) (map link links) (inr (in_map link p links i))))

        near : (p ≡ top n buckets key link head live (link p)) ⊎ (bucket_of (key p) buckets ≡ bucket_of (key (link p)) buckets)
            → bucket_of (key (link p)) buckets ≡ bucket_of (key p) buckets
        near (inl e) =
            let h = bucket-below (key (link p)) buckets some in
            let g = head-good (bucket_of (key (link p)) buckets) h (λ q. omega (arith, a.below p lp, e, q)) in
            sym (rw (← e) at g.1)
        near (inr e) = sym e

        go : (top n buckets key link head live (link p) ≡ link p) ⊎ ((q : ℕ) × Arrow n buckets key link head live q (link p))
            → (bucket_of (key (link p)) buckets ≡ bucket_of (key p) buckets) × (key p < key (link p))
        go (inl e) =
            let j = a.heads-have (bucket_of (key (link p)) buckets) (bucket-below (key (link p)) buckets some) (λ q. ne (sym e ∙ q)) in
            absurd (parts.2 (link p) (rw e at (in_map head (bucket_of (key (link p)) buckets) heads j)) (in_map link p links i))
        go (inr r) =
            let j = a.links-have r.0 r.1.lives (λ q. ne (sym r.1.link-is ∙ q)) in
            let o : r.0 ≡ p = map-once link links parts.1 r.0 p j i r.1.link-is in
            (near (rw o at r.1.near), rw o at r.1.under)

    -- so every chain is clean
    on : (b p : ℕ) → live p → bucket_of (key p) buckets ≡ b → LeadsUp n key (key p) (link p)
        × ((link p ≡ n) ⊎ (live (link p) × (bucket_of (key (link p)) buckets ≡ b)))
    on b p lp e = go (ℕ_discrete (link p) n)
      where
        go : Dec (link p ≡ n) → LeadsUp n key (key p) (link p) × ((link p ≡ n) ⊎ (live (link p) × (bucket_of (key (link p)) buckets ≡ b)))
        go (yes q) = (record { within = omega (arith, q); above = λ h. absurd (omega (arith, q)) }, inl q)
        go (no ne) =
            let g = link-good p lp ne in
            let l = a.below (link p) g.0 in
            (record { within = omega (arith, l); above = λ h. g.2 }, inr (g.0, g.1 ∙ e))

    clean : (b : ℕ) → b < buckets → Clean n buckets key link live b (head b)
    clean b h = go (ℕ_discrete (head b) n)
      where
        go : Dec (head b ≡ n) → Clean n buckets key link live b (head b)
        go (yes q) = walk-out (on b) a.below n (head b) 0 (omega arith) (walked_start (omega (arith, q))) (inl q)
        go (no ne) =
            let g = head-good b h ne in
            let l = a.below (head b) g.0 in
            walk-out (on b) a.below n (head b) 0 (omega arith) (walked_start (omega (arith, l))) (inr g)

    -- and has every live node of its bucket: by the size of its key
    full : (m y b : ℕ) → key y < m → live y → bucket_of (key y) buckets ≡ b → (c : Clean n buckets key link live b (head b)) → In y c.whole.nodes
    full zero y b h l e c = absurd (omega arith)
    full (suc m) y b h l e c = go (stands y l).place (full m)
      where
        own : {q : ℕ} → (q ≡ top n buckets key link head live y) ⊎ (bucket_of (key q) buckets ≡ bucket_of (key y) buckets) → live q
            → bucket_of (key q) buckets ≡ b
        own {q} (inl i) lq =
            let g = head-good (bucket_of (key y) buckets) (bucket-below (key y) buckets some) (λ o. omega (arith, a.below q lq, i, o)) in
            rw (← i) at g.1 ∙ e
        own (inr i) lq = i ∙ e

        go : (top n buckets key link head live y ≡ y) ⊎ ((p : ℕ) × Arrow n buckets key link head live p y)
            → ((x d : ℕ) → key x < m → live x → bucket_of (key x) buckets ≡ d → (s : Clean n buckets key link live d (head d)) → In x s.whole.nodes)
            → In y c.whole.nodes
        go (inl t) less =
            let f = first n link (head b) c.whole.nodes c.whole.links (rw (← e, t) (a.below y l)) in
            rw f.1 (inl (sym (rw e at t)))
        go (inr r) less =
            let p = r.0 in
            let k = r.1 in
            let i = less p b (omega (arith, k.under, h)) k.lives (own k.near k.lives) c in
            rw k.link-is at (next_in n link (head b) c.whole.nodes c.whole.links p i (rw k.link-is (a.below y l)))

    pub arrows_index : Index n buckets key link head live
    arrows_index = record { chains = chain; unique = unique; home = home }
      where
        chain : (b : ℕ) → b < buckets → Bucketed n buckets key link head live b
        chain b h = let c = clean b h in record { clean = c; full = λ y l e. full (suc (key y)) y b (omega arith) l e c }

        unique : (x y : ℕ) → live x → live y → key x ≡ key y → x ≡ y
        unique x y l m q =
            let c = chain (bucket_of (key x) buckets) (bucket-below (key x) buckets some) in
            rises_once key c.clean.whole.nodes c.clean.rising x y (c.full x l refl) (c.full y m (ap (λ z. bucket_of z buckets) (sym q))) q

  -- ---- from the index to the counts

  module _ (ix : Index n buckets key link head live) where
    -- the chain of a live node's bucket
    its : (y : ℕ) → Bucketed n buckets key link head live (bucket_of (key y) buckets)
    its y = ix.chains (bucket_of (key y) buckets) (bucket-below (key y) buckets some)

    -- a head that leads to something leads to a live node of its bucket
    to-head : (b : ℕ) → b < buckets → head b ≢ n → live (head b) × (bucket_of (key (head b)) buckets ≡ b)
    to-head b h ne = go (ix.chains b h).clean.whole.nodes (ix.chains b h).clean.whole.links (ix.chains b h).clean.sound
      where
        go : (xs : List ℕ) → Links n link (head b) xs n → ((y : ℕ) → In y xs → live y × (bucket_of (key y) buckets ≡ b))
            → live (head b) × (bucket_of (key (head b)) buckets ≡ b)
        go [] w s = absurd (ne w)
        go (x ∷ xs) w s = rw w.0 (s x (inl refl))

    to-link : (p : ℕ) → live p → link p ≢ n → In (link p) (its p).clean.whole.nodes
    to-link p l ne =
        let c = (its p).clean in
        let i = (its p).full p l refl in
        let r = behind n link (head (bucket_of (key p) buckets)) c.whole.nodes c.whole.links p i in
        next_in n link (head (bucket_of (key p) buckets)) c.whole.nodes c.whole.links p i (omega (arith, within n link (link p) r.1 r.3, ne))

    goals-apart : Nodup goals
    goals-apart = nodup_both (map head heads) (map link links) (map_nodup head heads a.heads-apart once-head)
        (map_nodup link links a.links-apart once_link) never
      where
        once-head : (b d : ℕ) → In b heads → In d heads → head b ≡ head d → b ≡ d
        once-head b d i j e =
            let g = a.heads-are b i in
            let k = a.heads-are d j in
            sym (to-head b g.0 g.1).1 ∙ ap (λ z. bucket_of (key z) buckets) e ∙ (to-head d k.0 k.1).1

        bucket : (p : ℕ) → In p links → bucket_of (key (link p)) buckets ≡ bucket_of (key p) buckets
        bucket p i = let g = a.links-are p i in ((its p).clean.sound (link p) (to-link p g.0 g.1)).1

        once_link : (p q : ℕ) → In p links → In q links → link p ≡ link q → p ≡ q
        once_link p q i j e =
            let c = its p in
            let same : bucket_of (key q) buckets ≡ bucket_of (key p) buckets = sym (bucket q j) ∙ ap (λ z. bucket_of (key z) buckets) (sym e) ∙ bucket p i in
            next-once n link (head (bucket_of (key p) buckets)) c.clean.whole.nodes c.clean.whole.links p q
            (c.full p (a.links-are p i).0 refl) (c.full q (a.links-are q j).0 same) e

        never : (y : ℕ) → In y (map head heads) → In y (map link links) → ⊥
        never y i j =
            let r = map_in head y heads i in
            let b = r.0 in
            let p = (map_in link y links j).0 in
            let ip = (map_in link y links j).1 in
            let e : link p ≡ head b = sym (map_in link y links j).2 ∙ r.2 in
            let g = a.heads-are b r.1 in
            let same : bucket_of (key p) buckets ≡ b = sym (bucket p ip) ∙ ap (λ z. bucket_of (key z) buckets) e ∙ (to-head b g.0 g.1).1 in
            let c = its p in
            no_return n link (head (bucket_of (key p) buckets)) c.clean.whole.nodes c.clean.whole.links p (c.full p (a.links-are p ip).0 refl)
            (rw same e)

    pub arrows_count : length heads + length links ≡ length every
    arrows_count =
        let less = fewer goals every goals-apart into in
        let more = fewer every goals a.apart (λ y i. out_of y (a.are y i)) in
        omega (arith, less, more, goals-long)
      where
        into : (y : ℕ) → In y goals → In y every
        into y i = ⊎_elim from-head from-link (in-cases y (map head heads) (map link links) i)
          where
            from-head : In y (map head heads) → In y every
            from-head j =
                let r = map_in head y heads j in
                let g = a.heads-are r.0 r.1 in
                a.have y (rw r.2 (to-head r.0 g.0 g.1).0)

            from-link : In y (map link links) → In y every
            from-link j =
                let r = map_in link y links j in
                let g = a.links-are r.0 r.1 in
                a.have y (rw r.2 ((its r.0).clean.sound (link r.0) (to-link r.0 g.0 g.1)).0)

        out_of : (y : ℕ) → live y → In y goals
        out_of y l =
            let c = its y in
            let h = bucket-below (key y) buckets some in
            ⊎_elim (λ e. head_goal (bucket_of (key y) buckets) h y (sym e) (a.below y l))
            (λ r. link_goal r.0 (c.clean.sound r.0 r.1).0 y r.2 (a.below y l))
            (in-front n link (head (bucket_of (key y) buckets)) c.clean.whole.nodes n c.clean.whole.links y (c.full y l refl))
