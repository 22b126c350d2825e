-- Each node that is first or second in its chain vouches for itself, and the second for those behind it too.
-- Assumes nothing.
use mathlib.Core.Path.{◌≡◌, refl, sym, ◌∙◌, ap}
use mathlib.Core.List.{List, [], ◌∷◌, ◌++◌}
use mathlib.Core.Logic.{◌⊎◌, inl, inr, ⊎_elim}
use Prim.Native.Nat.{ℕ, ◌+◌, ◌≤◌, ◌<◌}
use native.Mathlib.Omega.{arith}
use native.Mathlib.Decide.{ℕ_discrete}
use lib.ListN.{length, length-append}
use Rattle.cells.proofs.MembersLaws.{Nodup}
use Rattle.key_index.specs.Links.{In, Links, Whole, Rises}
use Rattle.key_index.specs.Index.{bucket_of, Clean, Index}
use Rattle.key_index.proofs.LinksLaws.{in-append, in-cases, same, in-front}
use Rattle.key_index.proofs.DistinctLaws.{few, fewer, onto, nodup_both}
use Rattle.key_index.proofs.FewLaws.{links-below}
use Rattle.key_index.proofs.RisesLaws.{rises_nodup, lowest, rises_next}
use Rattle.key_index.proofs.IndexLaws.{bucket-below}

module _ (n buckets : ℕ) (key link head : ℕ → ℕ) (live : ℕ → Type 0) where
  -- the first link of the chain of y
  abbrev pub top : ℕ → ℕ
  top y = head (bucket_of (key y) buckets)

  -- y stands behind p, which is first in the chain of y or at least of its bucket
  pub record Arrow (p y : ℕ) : Type 0 where
    pub lives : live p
    pub link-is : link p ≡ y
    pub under : key p < key y
    pub near : (p ≡ top y) ⊎ (bucket_of (key p) buckets ≡ bucket_of (key y) buckets)

  -- y is the first of its chain, or stands behind a node
  pub record Stands (y : ℕ) : Type 0 where
    pub lives : live y
    pub place : (top y ≡ y) ⊎ ((p : ℕ) × Arrow p y)

  -- w vouches for y: both are the first of the chain, or w is the second and y is not in front of it
  abbrev pub For : ℕ → ℕ → Type 0
  For w y = ((w ≡ top y) × (y ≡ w)) ⊎ ((w ≡ link (top y)) × (key (top y) < key w) × (key w ≤ key y))

  pub for_once : (w v y : ℕ) → For w y → For v y → w ≡ v
  for_once w v y (inl a) (inl b) = a.0 ∙ sym b.0
  for_once w v y (inr a) (inr b) = a.0 ∙ sym b.0
  for_once w v y (inl a) (inr b) = absurd (omega (arith, ap key a.0, ap key a.1, b.1, b.2))
  for_once w v y (inr a) (inl b) = absurd (omega (arith, ap key b.0, ap key b.1, a.1, a.2))

  -- the live node x is the second of its chain
  pub record Second (x : ℕ) : Type 0 where
    pub lives : live x
    pub head-lives : live (top x)
    pub link-is : link (top x) ≡ x
    pub under : key (top x) < key x

  -- x vouches for m nodes: for itself where it is the first, and for all from it on where it is the second
  pub record Vouches (x m : ℕ) : Type 0 where
    pub nodes : List ℕ
    pub distinct : Nodup nodes
    pub each : (y : ℕ) → In y nodes → Stands y × For x y
    pub first : live x → top x ≡ x → In x nodes
    pub second : Second x → (w : Whole n link x) → (y : ℕ) → In y w.nodes → In y nodes
    pub size : length nodes ≡ m

  pub vouches_first : (x : ℕ) → live x → top x ≡ x → Vouches x 1
  vouches_first x l e =
      record {
        nodes = x ∷ [];
        distinct = (tt, tt);
        each = λ y i. ⊎_elim (λ q. rw q (record { lives = l; place = inl e }, inl (sym e, refl))) (λ o. absurd o) i;
        first = λ _ _. inl refl;
        second = λ s. absurd (omega (arith, s.under, ap key e));
        size = refl;
      }

  pub vouches_none : (x : ℕ) → (live x → top x ≡ x → ⊥) → (Second x → ⊥) → Vouches x 0
  vouches_none x f s =
      record { nodes = []; distinct = tt; each = λ y i. absurd i; first = λ l e. f l e; second = λ t. absurd (s t); size = refl }

  pub vouches_second : (x b m : ℕ) → Second x → b ≡ bucket_of (key x) buckets → (c : Clean n buckets key link live b x) → length c.whole.nodes ≡ m
      → Vouches x m
  vouches_second x b m s is c size =
      record {
        nodes = c.whole.nodes;
        distinct = rises_nodup key c.whole.nodes c.rising;
        each = λ y i. (
          record {
            lives = (c.sound y i).0;
            place = inr (place y i (in-front n link x c.whole.nodes n c.whole.links y i));
          },
          inr (vouch y i),
        );
        first = λ l e. absurd (omega (arith, s.under, ap key e));
        second = λ t w y i. rw (same n link x w.nodes c.whole.nodes w.links c.whole.links) at i;
        size = size;
      }
    where
      bucket : (y : ℕ) → In y c.whole.nodes → bucket_of (key y) buckets ≡ bucket_of (key x) buckets
      bucket y i = (c.sound y i).1 ∙ is

      place : (y : ℕ) → In y c.whole.nodes → (y ≡ x) ⊎ ((p : ℕ) × In p c.whole.nodes × (link p ≡ y)) → (p : ℕ) × Arrow p y
      place y i (inl e) = (top x, rw e (record { lives = s.head-lives; link-is = s.link-is; under = s.under; near = inl refl }))
      place y i (inr r) =
          let l : link r.0 < n = rw r.2 (links-below n link x c.whole.nodes n c.whole.links y i) in
          let up = rises_next n key link x c.whole.nodes c.whole.links c.rising r.0 r.1 l in
          (r.0, record { lives = (c.sound r.0 r.1).0; link-is = r.2; under = rw r.2 at up; near = inr (bucket r.0 r.1 ∙ sym (bucket y i)) })

      vouch : (y : ℕ) → In y c.whole.nodes → (x ≡ link (top y)) × (key (top y) < key x) × (key x ≤ key y)
      vouch y i =
          (rw (bucket y i) (sym s.link-is), rw (bucket y i) s.under, lowest n key link x c.whole.nodes n c.whole.links c.rising y i)

  -- the nodes below x have vouched for `sum` nodes
  pub record Vouching (x sum : ℕ) : Type 0 where
    pub nodes : List ℕ
    pub distinct : Nodup nodes
    pub each : (y : ℕ) → In y nodes → Stands y × ((w : ℕ) × (w < x) × For w y)
    pub first : (w : ℕ) → w < x → live w → top w ≡ w → In w nodes
    pub second : (w : ℕ) → w < x → Second w → (c : Whole n link w) → (y : ℕ) → In y c.nodes → In y nodes
    pub size : length nodes ≡ sum

  pub vouching_start : Vouching 0 0
  vouching_start =
      record {
        nodes = [];
        distinct = tt;
        each = λ y i. absurd i;
        first = λ w h. absurd (omega arith);
        second = λ w h. absurd (omega arith);
        size = refl;
      }

  module _ (x sum m : ℕ) (g : Vouching x sum) where
    module _ (v : Vouches x m) where
      abbrev more : List ℕ
      more = g.nodes ++ v.nodes

      apart : Nodup more
      apart = nodup_both g.nodes v.nodes g.distinct v.distinct
          (λ y i j. let u = (g.each y i).1 in omega (arith, u.1, for_once u.0 x y u.2 (v.each y j).1))

      all : (y : ℕ) → In y more → Stands y × ((w : ℕ) × (w < x + 1) × For w y)
      all y i =
          ⊎_elim (λ j. let u = g.each y j in (u.0, (u.1.0, omega (arith, u.1.1), u.1.2))) (λ j. let u = v.each y j in (u.0, (x, omega arith, u.1)))
          (in-cases y g.nodes v.nodes i)

      old : (y : ℕ) → In y g.nodes → In y more
      old y i = in-append y g.nodes v.nodes (inl i)

      new : (y : ℕ) → In y v.nodes → In y more
      new y i = in-append y g.nodes v.nodes (inr i)

      one : (w : ℕ) → w < x + 1 → Dec (w ≡ x) → live w → top w ≡ w → In w more
      one w h (yes e) l t = new w (rw e (v.first (rw e at l) (rw e at t)))
      one w h (no ne) l t = old w (g.first w (omega arith) l t)

      two : (w : ℕ) → w < x + 1 → Dec (w ≡ x) → Second w → (c : Whole n link w) → (y : ℕ) → In y c.nodes → In y more
      two w h (yes e) t c y i = new y (v.second (rw e at t) (record { nodes = c.nodes; links = rw e at c.links }) y i)
      two w h (no ne) t c y i = old y (g.second w (omega arith) t c y i)

      pub vouching_next : Vouching (x + 1) (sum + m)
      vouching_next =
          record {
            nodes = more;
            distinct = apart;
            each = all;
            first = λ w h l t. one w h (ℕ_discrete w x) l t;
            second = λ w h t c y i. two w h (ℕ_discrete w x) t c y i;
            size = omega (arith, g.size, v.size, length-append g.nodes v.nodes);
          }

      -- they are not more than all nodes
      pub vouching_few : ((y : ℕ) → live y → y < n) → sum + m ≤ n
      vouching_few below = omega (arith, few n more (λ y i. below y (all y i).0.lives) apart, g.size, v.size, length-append g.nodes v.nodes)

    -- all nodes were visited; `every` are the live ones
    module _ (done : n ≤ x) (below : (y : ℕ) → live y → y < n) (every : List ℕ) (has : (y : ℕ) → live y → In y every) where
      -- where they have vouched for as many as there are, each live node stands where it should
      pub vouching_stands : sum ≡ length every → (y : ℕ) → live y → Stands y
      vouching_stands e y l =
          (g.each y (onto g.nodes every g.distinct (λ w i. has w (g.each w i).0.lives) (omega (arith, g.size, e)) y (has y l))).0

      -- and in an index they have
      pub vouching_all : Nodup every → ((y : ℕ) → In y every → live y) → 0 < buckets → Index n buckets key link head live → sum ≡ length every
      vouching_all d are some ix =
          let less = fewer g.nodes every g.distinct (λ y i. has y (g.each y i).0.lives) in
          let more = fewer every g.nodes d (λ y i. comes y (are y i)) in
          omega (arith, less, more, g.size)
        where
          comes : (y : ℕ) → live y → In y g.nodes
          comes y l =
              let c = ix.chains (bucket_of (key y) buckets) (bucket-below (key y) buckets some) in
              from c.clean.whole.nodes c.clean.whole.links c.clean.sound c.clean.rising (c.full y l refl)
            where
              from : (xs : List ℕ) → Links n link (top y) xs n → ((w : ℕ) → In w xs → live w × (bucket_of (key w) buckets ≡ bucket_of (key y) buckets))
                  → Rises key xs
                  → In y xs → In y g.nodes
              from [] w sound r x5 = elim x5 [ ]
              from (h ∷ []) w sound r (inr i) = elim i [ ]
              from (h ∷ xs) w sound r (inl e) =
                  g.first y (omega (arith, below y l, done)) l (w.0 ∙ sym e)
              from (h ∷ v ∷ xs) w sound r (inr i) =
                  let s = sound v (inr (inl refl)) in
                  let t : top v ≡ h = rw s.1 w.0 in
                  g.second v (omega (arith, below v s.0, done))
                  (record { lives = s.0; head-lives = rw t (sound h (inl refl)).0; link-is = rw t w.2.0; under = rw t (r.0 v (inl refl)) })
                  (record { nodes = v ∷ xs; links = (refl, w.2.1, w.2.2) }) y i

-- in an index the chain goes on well from its second node
pub second-clean : {n buckets : ℕ} {key link head : ℕ → ℕ} {live : ℕ → Type 0} {x : ℕ} → Index n buckets key link head live → 0 < buckets
    → Second n buckets key link head live x → Clean n buckets key link live (bucket_of (key x) buckets) x
second-clean {n} {buckets} {key} {link} {head} {live} {x} ix some s =
    let c = ix.chains (bucket_of (key x) buckets) (bucket-below (key x) buckets some) in
    go c.clean.whole.nodes c.clean.whole.links c.clean.sound c.clean.rising (c.full x s.lives refl)
  where
    go : (xs : List ℕ) → Links n link (head (bucket_of (key x) buckets)) xs n
        → ((y : ℕ) → In y xs → live y × (bucket_of (key y) buckets ≡ bucket_of (key x) buckets)) → Rises key xs → In x xs
        → Clean n buckets key link live (bucket_of (key x) buckets) x
    go [] w sound r i = elim i [ ]
    go (h ∷ xs) w sound r i =
        let e : link h ≡ x = rw w.0 at s.link-is in
        record { whole = record { nodes = xs; links = rw e at w.2 }; sound = λ y j. sound y (inr j); rising = r.1 }
