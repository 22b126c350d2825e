-- Laws of the check of lists that nobody vouches for. A walk keeps one fact: what leads home from where it stands does so exactly if the whole list does.
-- Assumes nothing.
use mathlib.Core.Path.{◌≡◌, refl, sym, ap, ◌∙◌, subst}
use mathlib.Core.Bool.{Bool, true, false}
use mathlib.Core.List.{List, [], ◌∷◌}
use Prim.Native.Nat.{ℕ, suc, ◌+◌, ◌-◌, ◌≤◌, ◌<◌}
use native.Mathlib.Omega.{arith}
use lib.ListN.{length, get_or}
use Rattle.cells.specs.Decides.{Decides, All}
use Rattle.cells.proofs.DecidesLaws.{refuse, decides_map}
use Rattle.cells.specs.Members.{Every}
use Rattle.nodes.specs.Nodes.{Head, Next, Prev, Queue, cols, GetsField}
use Rattle.nodes.specs.declared.Shape.{Shape}
use Rattle.nodes.proofs.NodesLaws.{length-cols}
use Rattle.lists.specs.Ring.{Seg, Ring, Tagged}
use Rattle.lists.specs.Pool.{view}
use Rattle.lists.specs.Lists.{list_count, many, Lists}
use Rattle.lists.specs.Check.{Listed, Counted, StepOk, Home, Leads, ListOk, PairOk}
use Rattle.lists.proofs.PoolLaws.{ring-view}

-- ---- the way home, step by step

module _ {z : Shape} {s : List ℕ} {t u : ℕ} where
  leads-on : {y k : ℕ} → y ≡ get_or (cols z s Next) u 0 → StepOk z s t u y → Leads z s t k y → Leads z s t (suc k) u
  leads-on {y} e p g =
      record { list = y ∷ g.list; seg = ((sym e, p.back), g.seg); nodes = (p.node, g.nodes); tags = (p.tag, g.tags); count = ap suc g.count }

  leads-by : {y k : ℕ} → y ≡ get_or (cols z s Next) u 0 → Leads z s t (suc k) u → StepOk z s t u y × Leads z s t k y
  leads-by {y} {k} e g = go g.list g.seg g.nodes g.tags g.count
    where
      go : (l : List ℕ) → Seg (cols z s Next) (cols z s Prev) u l (z.room + t) → Every (λ x. x < z.room) l → Tagged (cols z s Queue) t l
          → length l ≡ suc k → StepOk z s t u y × Leads z s t k y
      go [] h n q d = absurd (omega arith)
      go (x ∷ l) h n q d =
          let i : y ≡ x = e ∙ h.0.0 in
          rw i
          (record { node = n.0; back = h.0.1; tag = q.0 }, record { list = l; seg = h.1; nodes = n.1; tags = q.1; count = omega arith })

  leads-home : Home z s t u → Leads z s t 0 u
  leads-home h = record { list = []; seg = (h.forth, h.back); nodes = tt; tags = tt; count = refl }

  home-leads : Leads z s t 0 u → Home z s t u
  home-leads g = go g.list g.seg g.count
    where
      go : (l : List ℕ) → Seg (cols z s Next) (cols z s Prev) u l (z.room + t) → length l ≡ 0 → Home z s t u
      go [] h d = record { forth = h.0; back = h.1 }
      go (x ∷ l) h d = absurd (omega arith)

-- ---- the walk

-- the walk along list t stands at u, with `left` nodes to come: what leads from there does so exactly if P holds
pub record Walking (P : Type 0) (z : Shape) (s : List ℕ) (t left u : ℕ) : Type 0 where
  pub near : u < z.room + 4
  pub whole : Leads z s t left u → P
  pub part : P → Leads z s t left u

pub walk_start : {z : Shape} {s : List ℕ} {t n m u : ℕ} → u < z.room + 4 → m ≡ n → Walking (Leads z s t n u) z s t m u
walk_start {z} {s} {t} {n} {m} {u} b e = rw e (record { near = b; whole = λ (g : Leads z s t n u). g; part = λ (g : Leads z s t n u). g })

module _ {P : Type 0} {z : Shape} {s : List ℕ} {t left u : ℕ} (w : Walking P z s t left u) where
  module _ {y : ℕ} {r : Bool} (e : GetsField z s Next u y) (d : Decides (StepOk z s t u y) r) where
    pub walk-next : {m : ℕ} → m + 1 ≡ left → r ≡ true → Walking P z s t m y
    walk-next {m} i n =
        let p : StepOk z s t u y = d.holds n in
        let l : suc m ≡ left = omega arith in
        record {
          near = omega (arith, p.node);
          whole = λ g. w.whole (rw l at (leads-on e.value p g));
          part = λ h. (leads-by e.value (rw (← l) at (w.part h))).1;
        }

    pub walk_bad : 0 < left → r ≡ false → Decides P false
    walk_bad some n = let l : suc (left - 1) ≡ left = omega arith in refuse (λ h. d.fails n (leads-by e.value (rw (← l) at (w.part h))).0)

  pub walk_end : {r : Bool} → left ≤ 0 → Decides (Home z s t u) r → Decides P r
  walk_end n d = let l : left ≡ 0 = omega arith in decides_map (λ h. w.whole (rw l (leads-home h))) (λ h. home-leads (rw l at (w.part h))) d

  -- the rest of the walk left to a call
  walk-rest : {r : Bool} → Decides (Leads z s t left u) r → Decides P r
  walk-rest d = decides_map w.whole w.part d

-- ---- a list, from its sentinel

list-start : {z : Shape} {s : List ℕ} {t n m : ℕ} → t < list_count → GetsField z s Head (4 + t) n → m ≡ n
    → Walking (ListOk z s t) z s t m (z.room + t)
list-start b a e = rw (e, a.value) (record { near = omega arith; whole = λ g. record { leads = g }; part = λ h. h.leads })

-- ---- two lists, side by side

-- the walks along lists t and v stand at u and w, with a and b nodes to come
pub record Pairing (z : Shape) (s : List ℕ) (t v a b u w : ℕ) : Type 0 where
  pub one : Walking (ListOk z s t) z s t a u
  pub two : Walking (ListOk z s v) z s v b w

module _ {z : Shape} {s : List ℕ} {t v a b : ℕ} (i : t < list_count) (j : v < list_count) where
  pub pair-start : {m n : ℕ} → GetsField z s Head (4 + t) a → GetsField z s Head (4 + v) b → m ≡ a → n ≡ b
      → Pairing z s t v m n (z.room + t) (z.room + v)
  pair-start k l e f = record { one = list-start i k e; two = list-start j l f }

module _ {z : Shape} {s : List ℕ} {t v a b u w : ℕ} (p : Pairing z s t v a b u w) where
  -- a step of each
  module _ {y : ℕ} {r : Bool} (l : GetsField z s Next w y) (e : Decides (StepOk z s v w y) r) where
    pub bad_two : 0 < b → r ≡ false → Decides (PairOk z s t v) false
    bad_two j n = refuse (λ h. (walk_bad p.two l e j n).fails refl h.second)

    module _ {x : ℕ} {q : Bool} (k : GetsField z s Next u x) (d : Decides (StepOk z s t u x) q) where
      pub pair-next : {m n : ℕ} → m + 1 ≡ a → n + 1 ≡ b → q ≡ true → r ≡ true → Pairing z s t v m n x y
      pair-next f g i j = record { one = walk-next p.one k d f i; two = walk-next p.two l e g j }

  pub bad_one : {x : ℕ} {q : Bool} → 0 < a → GetsField z s Next u x → Decides (StepOk z s t u x) q → q ≡ false → Decides (PairOk z s t v) false
  bad_one i k d n = refuse (λ h. (walk_bad p.one k d i n).fails refl h.first)

  -- the rest of each
  module _ {m : ℕ} (i : m ≡ a) {q : Bool} (d : Decides (Leads z s t m u) q) where
    pub bad_rest : q ≡ false → Decides (PairOk z s t v) q
    bad_rest n = rw n (refuse (λ h. d.fails n (rw (← i) at (p.one.part h.first))))

    pub pair_end : {n : ℕ} → n ≡ b → {r : Bool} → q ≡ true → Decides (Leads z s v n w) r → Decides (PairOk z s t v) r
    pair_end j k e =
        decides_map (λ h. record { first = p.one.whole (rw i at (d.holds k)); second = h }) (λ h. h.second) (walk-rest p.two (rw j at e))

-- ---- all together

module _ {z : Shape} {s : List ℕ} where
  lists_chained : (f : ℕ → List ℕ) → Lists z (cols z s) f → All (ListOk z s) list_count
  lists_chained f l =
      record {
        all =
            λ t b. record {
              leads = record {
                list = f t;
                seg = (l.pool.rings t b).seg;
                nodes = (l.pool.rings t b).nodes;
                tags = l.pool.tags t b;
                count = sym (l.counts t b);
              };
            };
      }

  -- the lists are those that the links spell
  ok-lists : All (ListOk z s) list_count → Lists z (cols z s) (view z.room (cols z s Next))
  ok-lists h =
      record {
        pool = record { rings = rings; tags = tags; in_q = omega (arith, length-cols z s Queue refl) };
        counts = counts;
        in_head = omega (arith, length-cols z s Head refl);
      }
    where
      leads : (t : ℕ) → t < list_count → Leads z s t (many (cols z s) t) (z.room + t)
      leads t b = (h.all t b).leads

      ring : (t : ℕ) (b : t < list_count) → Ring z.room (cols z s Next) (cols z s Prev) (z.room + t) (leads t b).list
      ring t b =
          record {
            seg = (leads t b).seg;
            nodes = (leads t b).nodes;
            low = omega arith;
            in_nx = omega (arith, length-cols z s Next refl);
            in_pv = omega (arith, length-cols z s Prev refl);
          }

      seen : (t : ℕ) (b : t < list_count) → (leads t b).list ≡ view z.room (cols z s Next) t
      seen t b = sym (ring-view z.room (cols z s Next) (cols z s Prev) t (leads t b).list (ring t b))

      rings : (t : ℕ) → t < list_count → Ring z.room (cols z s Next) (cols z s Prev) (z.room + t) (view z.room (cols z s Next) t)
      rings t b = subst (λ (l : List ℕ). Ring z.room (cols z s Next) (cols z s Prev) (z.room + t) l) (seen t b) (ring t b)

      tags : (t : ℕ) → t < list_count → Tagged (cols z s Queue) t (view z.room (cols z s Next) t)
      tags t b = subst (λ (l : List ℕ). Tagged (cols z s Queue) t l) (seen t b) (leads t b).tags

      counts : (t : ℕ) → t < list_count → many (cols z s) t ≡ length (view z.room (cols z s Next) t)
      counts t b = sym (leads t b).count ∙ ap length (seen t b)

  pub listed : {q r : Bool} → Decides (Counted z s) q → q ≡ true → Decides (All (ListOk z s) list_count) r → Decides (Listed z s) r
  listed {q} d n = decides_map to (λ l. lists_chained l.of l.lists)
    where
      to : All (ListOk z s) list_count → Listed z s
      to h =
          let l : Lists z (cols z s) (view z.room (cols z s Next)) = ok-lists h in
          let k : Counted z s = d.holds n in
          record {
            of = view z.room (cols z s Next);
            lists = l;
            whole = omega (arith, k.sum, l.counts 0 (omega arith), l.counts 1 (omega arith), l.counts 2 (omega arith), l.counts 3 (omega arith));
          }
