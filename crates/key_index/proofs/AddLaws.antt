-- A free node comes into the chain of its key: the walk to the key's place, and the index with the node in it.
-- Assumes nothing.
use mathlib.Core.Path.{◌≡◌, refl, sym, ◌∙◌, ap, subst}
use mathlib.Core.List.{List, [], ◌∷◌, ◌++◌}
use mathlib.Core.Logic.{◌⊎◌, inl, inr, ◌≢◌}
use Prim.Native.Nat.{ℕ, ◌≤◌, ◌<◌}
use native.Mathlib.Omega.{arith}
use Rattle.key_index.specs.Links.{In, Links, Whole, Rises}
use Rattle.key_index.specs.Index.{bucket_of, Bucketed, Index}
use Rattle.key_index.specs.Walks.{last, Gap}
use Rattle.key_index.proofs.LinksLaws.{in-append, in-last, last_snoc, same, stays, link_in}
use Rattle.key_index.proofs.FewLaws.{links-below}
use Rattle.key_index.proofs.PassedLaws.{Passed, passed_start, passed-next, passed_on}
use Rattle.key_index.proofs.RisesLaws.{rises_from}
use Rattle.key_index.proofs.IndexLaws.{bucket-below, Put, added}

-- the chain from h₀ was walked up to h, over nodes with keys below k, of which p is the last
pub record Under (n : ℕ) (key link : ℕ → ℕ) (k h₀ h p : ℕ) : Type 0 where
  pub passed : Passed n link (λ y. key y < k) h₀ h
  pub at : p ≡ last n passed.front

pub under-start : {n : ℕ} {key link : ℕ → ℕ} {k h : ℕ} → Under n key link k h h n
under-start = record { passed = passed_start; at = refl }

module _ {n : ℕ} {key link : ℕ → ℕ} {k h₀ p : ℕ} (h : ℕ) (u : Under n key link k h₀ h p) where
  pub under_next : h < n → key h < k → Under n key link k h₀ (link h) h
  under_next b l = record { passed = passed-next h u.passed b l; at = sym (last_snoc n h u.passed.front) }

  pub under_gap : Whole n link h₀ → (h < n → k ≤ key h) → Gap n key link k h₀ p
  under_gap w over =
      let g = passed_on h u.passed w in
      record {
        front = u.passed.front;
        back = g.0;
        links = rw g.1 at w.links;
        at = u.at;
        low = u.passed.each;
        high = λ y t e. let l : Links n link h (y ∷ t) n = rw e at g.2 in rw l.0 at (over (omega (arith, l.0, l.1)));
      }

-- the free node x comes in with the key k, which no live node has; b is the bucket of k, and behind p is its place
module _ {n buckets : ℕ} {key link head : ℕ → ℕ} {live : ℕ → Type 0} (ix : Index n buckets key link head live) (some : 0 < buckets)
    (x k : ℕ) (below : x < n) (dead : live x → ⊥) (new : (y : ℕ) → live y → key y ≡ k → ⊥) (b : ℕ) (is : b ≡ bucket_of k buckets)
    {key' : ℕ → ℕ} (pk : Put key x k key') (p : ℕ) (g : Gap n key link k (head b) p) where
  abbrev chain : Bucketed n buckets key link head live b
  chain = ix.chains b (rw is (bucket-below k buckets some))

  all : chain.clean.whole.nodes ≡ g.front ++ g.back
  all = same n link (head b) chain.clean.whole.nodes (g.front ++ g.back) chain.clean.whole.links g.links

  sound : (y : ℕ) → In y (g.front ++ g.back) → live y × (bucket_of (key y) buckets ≡ b)
  sound y i = chain.clean.sound y (rw all i)

  not_x : (y : ℕ) → live y → y ≢ x
  not_x y l e = dead (rw e at l)

  x_out : In x (g.front ++ g.back) → ⊥
  x_out i = dead (sound x i).0

  -- every node behind the place has a key that is not below k
  high : (y : ℕ) → In y g.back → k ≤ key y
  high y i = go g.back g.high (rw all at chain.clean.rising) i
    where
      go : (t : List ℕ) → ((z : ℕ) (r : List ℕ) → t ≡ z ∷ r → k ≤ key z) → Rises key (g.front ++ t) → In y t → k ≤ key y
      go [] up r x4 = elim x4 [ ]
      go (z ∷ t) up r (inl q) = rw q (up z t refl)
      go (z ∷ t) up r (inr j) = let a = up z t refl in let c = rises_from key g.front z t r y j in omega arith

  -- it is the first place
  pub add-first : {link' head' : ℕ → ℕ} → n ≤ p → Put link x (head b) link' → Put head b x head' → Index n buckets key' link' head' (λ y. (y ≡ x) ⊎ live y)
  add-first {link'} {head'} out pl ph =
      added n buckets key link head live ix key' link' head' x k b g.front g.back dead new pk g.links (go g.front g.links g.at x_out)
      (λ y l ne. pl.other y (not_x y l)) ph.other (pl.other n (λ e. omega (arith, e, below)) ∙ ix.home) (sym is) g.low high
    where
      go : (s : List ℕ) → Links n link (head b) (s ++ g.back) n → p ≡ last n s → (In x (s ++ g.back) → ⊥) → Links n link' (head' b) (s ++ x ∷ g.back) n
      go [] w e o = (ph.same, below, rw pl.same (stays n link link' (head b) g.back n (λ y i. pl.other y (λ q. o (rw q at i))) w))
      go (y ∷ s) w e o =
          let l = links-below n link (head b) ((y ∷ s) ++ g.back) n w (last y s) (in-append (last y s) (y ∷ s) g.back (inl (in-last y s))) in
          absurd (omega (arith, l, e, out))

  -- it is behind the node p
  pub add-later : {link₁ link' : ℕ → ℕ} → p < n → Put link x (link p) link₁ → Put link₁ p x link' → Index n buckets key' link' head (λ y. (y ≡ x) ⊎ live y)
  add-later {link₁} {link'} inside pl pp =
      added n buckets key link head live ix key' link' head x k b g.front g.back dead new pk g.links (go g.front g.links g.at x_out)
      (λ y l far. pp.other y
      (λ e. far (ap (λ z. bucket_of (key z) buckets) e ∙ (sound p (in-append p g.front g.back (inl (here g.front g.at)))).1)) ∙ pl.other y
      (not_x y l))
      (λ a far. refl) (pp.other n (λ e. omega (arith, e, inside)) ∙ pl.other n (λ e. omega (arith, e, below)) ∙ ix.home) (sym is) g.low high
    where
      here : (s : List ℕ) → p ≡ last n s → In p s
      here [] e = absurd (omega (arith, e, inside))
      here (y ∷ s) e = subst (λ (z : ℕ). In z (y ∷ s)) (sym e) (in-last y s)

      go : (s : List ℕ) → Links n link (head b) (s ++ g.back) n → p ≡ last n s → (In x (s ++ g.back) → ⊥) → Links n link' (head b) (s ++ x ∷ g.back) n
      go [] w e o = absurd (omega (arith, e, inside))
      go (y ∷ s) w e o =
          let x-p : x ≢ p = (λ q. o (in-append x (y ∷ s) g.back (inl (subst (λ (z : ℕ). In z (y ∷ s)) (sym (q ∙ e)) (in-last y s))))) in (
            w.0,
            w.1,
            link_in n link link' x g.back below s y (rw (← e) pp.same) (pp.other x x-p ∙ pl.same ∙ ap link e)
                (λ a na nx. pp.other a (λ q. na (q ∙ e)) ∙ pl.other a nx) (λ q. o (inl (sym q))) (λ i. o (inr i)) w.2,
          )
