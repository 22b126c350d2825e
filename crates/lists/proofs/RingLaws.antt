-- Laws of rings: a node more, a node less, another ring's change, the two ends, the walk.
-- Assumes nothing.
use mathlib.Core.Path.{◌≡◌, refl, sym, ap, subst}
use mathlib.Core.Logic.{◌≢◌}
use mathlib.Core.List.{List, [], ◌∷◌, ◌++◌}
use Prim.Native.Nat.{ℕ, ◌≤◌, ◌<◌}
use native.Mathlib.Omega.{arith}
use native.Mathlib.Nat.{le_refl}
use lib.ListN.{length, get_or, set, length-set}
use Rattle.cells.proofs.MembersLaws.{every_map, every-left, every_right, every-less, every-at}
use Rattle.cells.specs.Members.{Every, Out}
use Rattle.lists.specs.Ring.{First, Last, Seg, Ring, trail}
use Rattle.lists.proofs.EveryLaws.{high}
use Rattle.lists.proofs.SegLaws.{seg_nx, seg_pv, out_pv, seg_split, seg-once, keep, seg_detach, seg_attach, back, forth, seg-last, seg-walk}

-- the columns after x is put at the head of s
unfoldable pub attach_nx : List ℕ → ℕ → ℕ → List ℕ
attach_nx nx s x = set (set nx x (get_or nx s 0)) s x

unfoldable pub attach_pv : List ℕ → List ℕ → ℕ → ℕ → List ℕ
attach_pv nx pv s x = set (set pv x s) (get_or nx s 0) x

-- the columns after x is taken out of its ring
unfoldable pub detach_nx : List ℕ → List ℕ → ℕ → List ℕ
detach_nx nx pv x = set nx (get_or pv x 0) (get_or nx x 0)

unfoldable pub detach_pv : List ℕ → List ℕ → ℕ → List ℕ
detach_pv nx pv x = set pv (get_or nx x 0) (get_or pv x 0)

module _ (N : ℕ) (nx pv : List ℕ) (s : ℕ) (l : List ℕ) (r : Ring N nx pv s l) where
  pub ring_nx : (i w : ℕ) → Out i (s ∷ l) → Ring N (set nx i w) pv s l
  ring_nx i w o = record { seg = seg_nx nx pv i w s l s o r.seg; nodes = r.nodes; low = r.low; in_nx = rw length-set r.in_nx; in_pv = r.in_pv }

  pub ring_pv : (i w : ℕ) → Out i (s ∷ l) → Ring N nx (set pv i w) s l
  ring_pv i w o =
      record { seg = seg_pv nx pv i w s l s o.1 o.0 r.seg; nodes = r.nodes; low = r.low; in_nx = r.in_nx; in_pv = rw length-set r.in_pv }

  -- the sentinel is no member of its list
  pub ring_out : Out s l
  ring_out = high N s l r.low r.nodes

  pub ring-out_pv : (i : ℕ) → Out (get_or pv i 0) (s ∷ l) → Out i (s ∷ l)
  ring-out_pv i o = let k : Out i l × (s ≢ i) = out_pv nx pv i s l s r.seg o in (k.1, k.0)

  -- the columns of another ring are left alone by a detach and by an attach
  pub detach_other : (x : ℕ) → Out x (s ∷ l) → get_or nx (get_or pv x 0) 0 ≡ x → get_or pv (get_or nx x 0) 0 ≡ x
      → Ring N (detach_nx nx pv x) (detach_pv nx pv x) s l
  unfolding detach_nx detach_pv
  detach_other x o np pn =
      record {
        seg = keep nx pv x (get_or pv x 0) (get_or nx x 0) np pn s l s o o.0 r.seg;
        nodes = r.nodes;
        low = r.low;
        in_nx = rw length-set r.in_nx;
        in_pv = rw length-set r.in_pv;
      }

pub attach_other : (N : ℕ) (nx pv : List ℕ) (s : ℕ) (l : List ℕ) → Ring N nx pv s l → (t x : ℕ) → Out t (s ∷ l) → Out x (s ∷ l)
    → get_or pv (get_or nx t 0) 0 ≡ t → Ring N (attach_nx nx t x) (attach_pv nx pv t x) s l
unfolding attach_nx attach_pv
attach_other N nx pv s l r t x ot ox pn =
    let n : ℕ = get_or nx t 0 in
    let on : Out n (s ∷ l) = ring-out_pv N nx pv s l r n (subst (λ (z : ℕ). Out z (s ∷ l)) (sym pn) ot) in
    let r₁ : Ring N (set nx x n) pv s l = ring_nx N nx pv s l r x n ox in
    let r₂ : Ring N (set (set nx x n) t x) pv s l = ring_nx N (set nx x n) pv s l r₁ t x ot in
    let r₃ : Ring N (set (set nx x n) t x) (set pv x t) s l = ring_pv N (set (set nx x n) t x) pv s l r₂ x t ox in
    ring_pv N (set (set nx x n) t x) (set pv x t) s l r₃ n x on

-- ---- a ring with one node more, and one less

module _ (N : ℕ) (nx pv : List ℕ) (s : ℕ) (l : List ℕ) (r : Ring N nx pv s l) where
  -- the sentinel's neighbours
  pub first_back : (get_or pv (get_or nx s 0) 0 ≡ s) × (get_or nx s 0 ≤ s)
  first_back = let b : N ≤ s = r.low in forth nx pv s s l s (every_map l (λ y (k : y < N). omega arith) r.nodes) (le_refl s) r.seg

  pub attach_own : (x : ℕ) → x < N → Out x l → Ring N (attach_nx nx s x) (attach_pv nx pv s x) s (x ∷ l)
  unfolding attach_nx attach_pv
  attach_own x x_n o =
      let b : N ≤ s = r.low in
      let bn : s < length nx = r.in_nx in
      let bp : s < length pv = r.in_pv in
      let ne : s ≢ x = omega arith in
      record {
        seg =
            seg_attach nx pv x s bn (omega arith) (omega arith) l s (every_map l (λ y (k : y < N). omega arith) r.nodes) bp (ne, o) ne
            (ring_out N nx pv s l r) (ring_out N nx pv s l r) r.seg;
        nodes = (x_n, r.nodes);
        low = b;
        in_nx = simp length-set bn;
        in_pv = simp length-set bp;
      }

-- a member of a ring: its neighbours point at it and are in reach, and it stands once
pub record Member (N : ℕ) (nx pv : List ℕ) (s : ℕ) (a : List ℕ) (x : ℕ) (b : List ℕ) : Type 0 where
  pub node : x < N
  pub next-back : get_or pv (get_or nx x 0) 0 ≡ x
  pub prev_forth : get_or nx (get_or pv x 0) 0 ≡ x
  pub next_low : get_or nx x 0 ≤ s
  pub prev_low : get_or pv x 0 ≤ s
  pub not-before : Out x a
  pub not_after : Out x b

module _ (N : ℕ) (nx pv : List ℕ) (s : ℕ) (a : List ℕ) (x : ℕ) (b : List ℕ) (r : Ring N nx pv s (a ++ x ∷ b)) where
  pub member : Member N nx pv s a x b
  member =
      let s_n : N ≤ s = r.low in
      let le : Every (λ y. y ≤ s) (a ++ x ∷ b) = every_map (a ++ x ∷ b) (λ y (k : y < N). omega arith) r.nodes in
      let sp : Seg nx pv s a x × Seg nx pv x b s = seg_split nx pv s a x b s r.seg in
      let on : Out x a × Out x b = seg-once nx pv s a x b s r.seg (ring_out N nx pv s (a ++ x ∷ b) r) in
      let f : (get_or pv (get_or nx x 0) 0 ≡ x) × (get_or nx x 0 ≤ s) = forth nx pv s x b s (every_right (λ y. y ≤ s) a (x ∷ b) le).1 (le_refl s) sp.1 in
      let g : (get_or nx (get_or pv x 0) 0 ≡ x) × (get_or pv x 0 ≤ s) = back nx pv s s a x (le_refl s, every-left (λ y. y ≤ s) a (x ∷ b) le) sp.0 in
      record {
        node = every-at (λ y. y < N) a x b r.nodes;
        next-back = f.0;
        prev_forth = g.0;
        next_low = f.1;
        prev_low = g.1;
        not-before = on.0;
        not_after = on.1;
      }

  pub detach_own : Ring N (detach_nx nx pv x) (detach_pv nx pv x) s (a ++ b)
  unfolding detach_nx detach_pv
  detach_own =
      let m : Member N nx pv s a x b = member in
      let b_n : N ≤ s = r.low in
      let bn : s < length nx = r.in_nx in
      let bp : s < length pv = r.in_pv in
      let ne : s ≢ x = omega arith in
      record {
        seg =
            seg_detach nx pv x (get_or pv x 0) (get_or nx x 0) m.prev_forth m.next-back refl refl (omega arith) (omega arith) s a b s
            (ne, m.not-before) m.not_after ne r.seg;
        nodes = every-less (λ y. y < N) a x b r.nodes;
        low = b_n;
        in_nx = simp length-set bn;
        in_pv = simp length-set bp;
      }

module _ (N : ℕ) (nx pv : List ℕ) (s : ℕ) where
  pub ring-walk : (l : List ℕ) (k : ℕ) → Ring N nx pv s l → length l ≤ k → trail nx s k s ≡ l
  ring-walk l k r le = seg-walk nx pv s l s k r.seg (ring_out N nx pv s l r) le

  -- the sentinel's previous is the last node
  pub ring-last : (l : List ℕ) → Ring N nx pv s l → 1 ≤ length l → Last (get_or pv s 0) l
  ring-last [] r h = absurd (omega arith)
  ring-last (w ∷ l) r h = seg-last nx pv s w l s r.seg

  -- its next is the first
  pub ring-first : (l : List ℕ) → Ring N nx pv s l → 1 ≤ length l → First (get_or nx s 0) l
  ring-first [] r h = absurd (omega arith)
  ring-first (w ∷ l) r h = record { back = l; is = ap (λ (k : ℕ). k ∷ l) (sym r.seg.0.0) }
