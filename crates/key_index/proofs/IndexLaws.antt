-- The laws of the index: which nodes are live is all that counts, and how a node comes in and goes out.
-- Assumes nothing.
use mathlib.Core.Path.{◌≡◌, refl, sym, ◌∙◌, ap}
use mathlib.Core.List.{List, [], ◌∷◌, ◌++◌}
use mathlib.Core.Logic.{◌⊎◌, inl, inr, ⊎_elim, ◌≢◌}
use Prim.Native.Nat.{ℕ, ◌+◌, ◌*◌, ◌/◌, ◌%◌, ◌^◌, ◌≤◌, ◌<◌}
use native.Mathlib.Omega.{arith}
use native.Mathlib.Decide.{ℕ_discrete}
use native.Mathlib.Nat.{mul-lt-mul_of_pos_right}
use Rattle.cells.proofs.MembersLaws.{nodup_less}
use Rattle.key_index.specs.Links.{In, Links}
use Rattle.key_index.specs.Index.{bucket_of, Bucketed, Index}
use Rattle.key_index.proofs.LinksLaws.{in-append, in-more, in-less, same, stays}
use Rattle.key_index.proofs.DistinctLaws.{not_in}
use Rattle.key_index.proofs.FewLaws.{links_nodup}
use Rattle.key_index.proofs.RisesLaws.{rises_out, rises_in, rises_same}

pub bucket-below : (k buckets : ℕ) → 0 < buckets → bucket_of k buckets < buckets
unfolding bucket_of
bucket-below k buckets h =
    let small : (k / 2 ^ 32 * 2246822507 + k % 2 ^ 32) % 2 ^ 32 * 2654435769 % 2 ^ 32 < 2 ^ 32 = omega arith in
    omega (arith, mul-lt-mul_of_pos_right small h)

-- the column g is f with v at x
pub record Put (f : ℕ → ℕ) (x v : ℕ) (g : ℕ → ℕ) : Type 0 where
  pub same : g x ≡ v
  pub other : (y : ℕ) → y ≢ x → g y ≡ f y

-- a chain stays where its head, its nodes' links and keys, and which nodes of its bucket are live stay
chain_stays : {n buckets : ℕ} {key link head key' link' head' : ℕ → ℕ} {live live' : ℕ → Type 0} {b : ℕ}
    → Bucketed n buckets key link head live b → head' b ≡ head b
    → ((y : ℕ) → live y → bucket_of (key y) buckets ≡ b → (link' y ≡ link y) × live' y × (key' y ≡ key y))
    → ((y : ℕ) → live' y → bucket_of (key' y) buckets ≡ b → live y × (key' y ≡ key y)) → Bucketed n buckets key' link' head' live' b
chain_stays {n} {key = key} {link = link} {head = head} {key' = key'} {link' = link'} {b = b} c h on back =
    let w = c.clean.whole in
    let sound = c.clean.sound in
    record {
      clean = record {
        whole = record { nodes = w.nodes; links = rw h (stays n link link' (head b) w.nodes n (λ y i. (on y (sound y i).0 (sound y i).1).0) w.links) };
        sound = λ y i. let o = on y (sound y i).0 (sound y i).1 in (o.1, rw o.2 (sound y i).1);
        rising = rises_same key key' w.nodes (λ y i. (on y (sound y i).0 (sound y i).1).2) c.clean.rising;
      };
      full = λ y l q. let o = back y l q in c.full y o.0 (rw o.1 at q);
    }

-- only which nodes are live counts
pub reframe : {n buckets : ℕ} {key link head : ℕ → ℕ} {live live' : ℕ → Type 0}
    → ((y : ℕ) → live y → live' y) → ((y : ℕ) → live' y → live y)
    → Index n buckets key link head live → Index n buckets key link head live'
reframe to from ix =
    record {
      chains = λ b h. chain_stays (ix.chains b h) refl (λ y l q. (refl, to y l, refl)) (λ y l q. (from y l, refl));
      unique = λ x y l m e. ix.unique x y (from x l) (from y m) e;
      home = ix.home;
    }

-- where no node is live and no bucket has a first node, there is an index
pub empty : {n buckets : ℕ} {key link head : ℕ → ℕ} {live : ℕ → Type 0}
    → ((y : ℕ) → live y → ⊥) → ((b : ℕ) → b < buckets → head b ≡ n) → link n ≡ n → Index n buckets key link head live
empty dead ends home =
    record {
      chains = λ b h. record {
        clean = record { whole = record { nodes = []; links = ends b h }; sound = λ y i. absurd i; rising = tt };
        full = λ y l e. dead y l;
      };
      unique = λ x y l m e. absurd (dead x l);
      home = home;
    }

module _ (n buckets : ℕ) (key link head : ℕ → ℕ) (live : ℕ → Type 0) (ix : Index n buckets key link head live) where
  -- a node x that was not live has come into the chain b, at its key's place: the nodes of that chain and x are linked anew, and the
  -- links of the other chains stay
  module _ (key' link' head' : ℕ → ℕ) (x k b : ℕ) (s t : List ℕ) (dead : live x → ⊥) (new : (y : ℕ) → live y → key y ≡ k → ⊥) (pk : Put key x k key')
      (was : Links n link (head b) (s ++ t) n) (is : Links n link' (head' b) (s ++ x ∷ t) n)
      (keep : (y : ℕ) → live y → bucket_of (key y) buckets ≢ b → link' y ≡ link y) (heads : (a : ℕ) → a ≢ b → head' a ≡ head a) (home : link' n ≡ n)
      (own : bucket_of k buckets ≡ b) (low : (y : ℕ) → In y s → key y < k) (high : (y : ℕ) → In y t → k ≤ key y) where
    old : (y : ℕ) → live y → key' y ≡ key y
    old y l = pk.other y (λ e. dead (rw e at l))

    over-k : (y : ℕ) → live y → k ≤ key y → k < key y
    over-k y l g = let ne : key y ≢ k = new y l in omega arith

    -- each node of the new chain is x or was in the chain
    which : (a y : ℕ) → ((z : ℕ) → In z (s ++ t) → live z × (bucket_of (key z) buckets ≡ a)) → a ≡ b → Dec (y ≡ x) → In y (s ++ x ∷ t)
        → ((y ≡ x) ⊎ live y) × (bucket_of (key' y) buckets ≡ a)
    which a y sound q (yes e) i = (inl e, rw (e, pk.same) (own ∙ sym q))
    which a y sound q (no ne) i = let u = sound y (in-less y x s t ne i) in (inr u.0, rw (old y u.0) u.1)

    add-chain : (a : ℕ) → a < buckets → Bucketed n buckets key' link' head' (λ y. (y ≡ x) ⊎ live y) a
    add-chain a h = go (ix.chains a h) (ℕ_discrete a b)
      where
        go : Bucketed n buckets key link head live a → Dec (a ≡ b) → Bucketed n buckets key' link' head' (λ y. (y ≡ x) ⊎ live y) a
        go c (yes q) =
            let w = c.clean.whole in
            let all : w.nodes ≡ s ++ t = same n link (head b) w.nodes (s ++ t) (rw q at w.links) was in
            let sound : (y : ℕ) → In y (s ++ t) → live y × (bucket_of (key y) buckets ≡ a) = (λ y i. c.clean.sound y (rw all i)) in
            let kept : (y : ℕ) → In y (s ++ t) → key' y ≡ key y = (λ y i. old y (sound y i).0) in
            record {
              clean = record {
                whole = record { nodes = s ++ x ∷ t; links = rw q is };
                sound = λ y i. which a y sound q (ℕ_discrete y x) i;
                rising = rises_in key' x s t (rises_same key key' (s ++ t) kept (rw all at c.clean.rising))
                    (λ y i. rw (pk.same, kept y (in-append y s t (inl i))) (low y i))
                    (λ y i. let j = in-append y s t (inr i) in rw (pk.same, kept y j) (over-k y (sound y j).0 (high y i)));
              };
              full = λ y l r. ⊎_elim (λ e. in-append y s (x ∷ t) (inr (inl e))) (λ m. in-more y x s t (rw all at (c.full y m (rw (old y m) at r)))) l;
            }
        go c (no ne) =
            chain_stays c (heads a ne) (λ y l q. (keep y l (λ r. ne (sym q ∙ r)), inr l, old y l))
            (λ y l q. ⊎_elim (λ r. absurd (ne (sym q ∙ ap (λ z. bucket_of z buckets) (ap key' r ∙ pk.same) ∙ own))) (λ m. (m, old y m)) l)

    pub added : Index n buckets key' link' head' (λ y. (y ≡ x) ⊎ live y)
    added = record { chains = add-chain; unique = only; home = home }
      where
        only : (y z : ℕ) → (y ≡ x) ⊎ live y → (z ≡ x) ⊎ live z → key' y ≡ key' z → y ≡ z
        only y z (inl p) (inl q) e = p ∙ sym q
        only y z (inl p) (inr m) e = absurd (new z m (sym (old z m) ∙ sym e ∙ ap key' p ∙ pk.same))
        only y z (inr l) (inl q) e = absurd (new y l (sym (old y l) ∙ e ∙ ap key' q ∙ pk.same))
        only y z (inr l) (inr m) e = ix.unique y z l m (sym (old y l) ∙ e ∙ old z m)

  -- a live node x has left its chain: the nodes of that chain but x are linked anew, and the links of the other chains stay
  module _ (link' head' : ℕ → ℕ) (x b : ℕ) (s t : List ℕ)
      (was : Links n link (head b) (s ++ x ∷ t) n) (is : Links n link' (head' b) (s ++ t) n)
      (keep : (y : ℕ) → live y → bucket_of (key y) buckets ≢ b → link' y ≡ link y) (heads : (a : ℕ) → a ≢ b → head' a ≡ head a) (home : link' n ≡ n)
      (own : bucket_of (key x) buckets ≡ b) where
    remove_chain : (a : ℕ) → a < buckets → Bucketed n buckets key link' head' (λ y. live y × (y ≢ x)) a
    remove_chain a h = go (ix.chains a h) (ℕ_discrete a b)
      where
        go : Bucketed n buckets key link head live a → Dec (a ≡ b) → Bucketed n buckets key link' head' (λ y. live y × (y ≢ x)) a
        go c (yes q) =
            let w = c.clean.whole in
            let all : w.nodes ≡ s ++ x ∷ t = same n link (head b) w.nodes (s ++ x ∷ t) (rw q at w.links) was in
            let x_out : In x (s ++ t) → ⊥ = not_in x (s ++ t) (nodup_less s x t (links_nodup n link (head b) (s ++ x ∷ t) was)).1 in
            record {
              clean = record {
                whole = record { nodes = s ++ t; links = rw q is };
                sound = λ y i. let u = c.clean.sound y (rw all (in-more y x s t i)) in ((u.0, λ r. x_out (rw r at i)), u.1);
                rising = rises_out key x s t (rw all at c.clean.rising);
              };
              full = λ y l r. in-less y x s t l.1 (rw all at (c.full y l.0 r));
            }
        go c (no ne) =
            chain_stays c (heads a ne)
            (λ y l q. (keep y l (λ r. ne (sym q ∙ r)), (l, λ r. ne (sym q ∙ ap (λ z. bucket_of (key z) buckets) r ∙ own)), refl))
            (λ y l q. (l.0, refl))

    pub removed : Index n buckets key link' head' (λ y. live y × (y ≢ x))
    removed = record { chains = remove_chain; unique = λ y z l m q. ix.unique y z l.0 m.0 q; home = home }
