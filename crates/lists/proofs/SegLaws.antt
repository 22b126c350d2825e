-- Laws of segments: ways from one node to another along the two columns.
-- Assumes nothing.
use mathlib.Core.Path.{◌≡◌, refl, sym, ap, ◌∙◌, subst}
use mathlib.Core.Logic.{◌≢◌}
use mathlib.Core.List.{List, [], ◌∷◌, ◌++◌}
use Prim.Native.Nat.{ℕ, zero, suc, ◌≤◌, ◌<◌}
use native.Mathlib.Omega.{arith}
use native.Mathlib.Nat.{le_refl}
use borrow.Author.Tests.{eq-eqb, ne_eqb}
use lib.ListN.{length, get_or, set, length-set}
use lib.Seq.{get_or-set_same, get_or-set_other}
use Rattle.cells.proofs.MembersLaws.{every_right}
use Rattle.cells.specs.Members.{Every, Out}
use Rattle.lists.specs.Ring.{Last, Link, Seg, trail}

module _ (nx pv : List ℕ) where
  -- a store at an index that the segment does not read
  pub seg_nx : (i w u : ℕ) (l : List ℕ) (v : ℕ) → Out i (u ∷ l) → Seg nx pv u l v → Seg (set nx i w) pv u l v
  seg_nx i w u [] v o h = (get_or-set_other nx i u w 0 o.0 ∙ h.0, h.1)
  seg_nx i w u (x ∷ l) v o h = ((get_or-set_other nx i u w 0 o.0 ∙ h.0.0, h.0.1), seg_nx i w x l v o.1 h.1)

  pub seg_pv : (i w u : ℕ) (l : List ℕ) (v : ℕ) → Out i l → v ≢ i → Seg nx pv u l v → Seg nx (set pv i w) u l v
  seg_pv i w u [] v o n h = (h.0, get_or-set_other pv i v w 0 n ∙ h.1)
  seg_pv i w u (x ∷ l) v o n h = ((h.0.0, get_or-set_other pv i x w 0 o.0 ∙ h.0.1), seg_pv i w x l v o.1 n h.1)

  -- what points to no member of the segment is none
  pub out_nx : (i u : ℕ) (l : List ℕ) (v : ℕ) → Seg nx pv u l v → Out (get_or nx i 0) l → v ≢ get_or nx i 0 → Out i (u ∷ l)
  out_nx i u [] v h o n = (λ e. n (sym h.0 ∙ ap (λ (k : ℕ). get_or nx k 0) e), tt)
  out_nx i u (x ∷ l) v h o n = (λ e. o.0 (sym h.0.0 ∙ ap (λ (k : ℕ). get_or nx k 0) e), out_nx i x l v h.1 o.1 n)

  pub out_pv : (i u : ℕ) (l : List ℕ) (v : ℕ) → Seg nx pv u l v → Out (get_or pv i 0) (u ∷ l) → Out i l × (v ≢ i)
  out_pv i u [] v h o = (tt, λ e. o.0 (sym h.1 ∙ ap (λ (k : ℕ). get_or pv k 0) e))
  out_pv i u (x ∷ l) v h o =
      let r : Out i l × (v ≢ i) = out_pv i x l v h.1 o.1
      in ((λ e. o.0 (sym h.0.1 ∙ ap (λ (k : ℕ). get_or pv k 0) e), r.0), r.1)

  pub seg_split : (u : ℕ) (a : List ℕ) (x : ℕ) (b : List ℕ) (v : ℕ) → Seg nx pv u (a ++ x ∷ b) v → Seg nx pv u a x × Seg nx pv x b v
  seg_split u [] x b v h = h
  seg_split u (w ∷ a) x b v h =
      let r : Seg nx pv w a x × Seg nx pv x b v = seg_split w a x b v h.1
      in ((h.0, r.0), r.1)

  -- the list is determined by the column next
  pub seg-unique : (pv' : List ℕ) (u v : ℕ) (l l' : List ℕ) → Seg nx pv u l v → Seg nx pv' u l' v → Out v l → Out v l' → l ≡ l'
  seg-unique pv' u v [] [] h k o p = refl
  seg-unique pv' u v [] (y ∷ l') h k o p = absurd (p.0 (sym k.0.0 ∙ h.0))
  seg-unique pv' u v (x ∷ l) [] h k o p = absurd (o.0 (sym h.0.0 ∙ k.0))
  seg-unique pv' u v (x ∷ l) (y ∷ l') h k o p =
      let e : y ≡ x = sym k.0.0 ∙ h.0.0 in
      let f : l ≡ l' = seg-unique pv' x v l l' h.1 (rw e at k.1) o.1 p.1 in
      cc

  -- so a way that ends where it has not been does not come back to its start
  no_return_from : (x : ℕ) (b : List ℕ) (v : ℕ) → Seg nx pv x b v → Out v b → (w : ℕ) (c : List ℕ) → Seg nx pv w c v → Out v c → length c ≤ length b → Out x c
  no_return_from x b v h o w [] k p le = tt
  no_return_from x b v h o w (y ∷ c) k p le = (
    λ e. let z : c ≡ b = seg-unique pv x v c b (rw e at k.1) h p.1 o in omega (arith, ap length z),
    no_return_from x b v h o y c k.1 p.1 (omega arith),
  )

  pub no_return : (x : ℕ) (b : List ℕ) (v : ℕ) → Seg nx pv x b v → Out v b → Out x b
  no_return x b v h o = no_return_from x b v h o x b h o (le_refl (length b))

  -- a member stands once
  pub seg-once : (u : ℕ) (a : List ℕ) (x : ℕ) (b : List ℕ) (v : ℕ) → Seg nx pv u (a ++ x ∷ b) v → Out v (a ++ x ∷ b) → Out x a × Out x b
  seg-once u [] x b v h o = (tt, no_return x b v h.1 o.1)
  seg-once u (w ∷ a) x b v h o =
      let r : Out x a × Out x b = seg-once w a x b v h.1 o.1 in
      let f : Out w (a ++ x ∷ b) = no_return w (a ++ x ∷ b) v h.1 o.1
      in ((λ e. (every_right (λ y. y ≢ w) a (x ∷ b) f).0 (sym e), r.0), r.1)

-- ---- what a detach does to a segment: p and n are the neighbours of x

module _ (nx pv : List ℕ) (x p n : ℕ) (np : get_or nx p 0 ≡ x) (pn : get_or pv n 0 ≡ x) where
  -- x is not on the way: the way stays
  pub keep : (u : ℕ) (l : List ℕ) (v : ℕ) → Out x (u ∷ l) → v ≢ x → Seg nx pv u l v → Seg (set nx p n) (set pv n p) u l v
  keep u l v o m h =
      let on : Out n l × (v ≢ n) = out_pv nx pv n u l v h (subst (λ (z : ℕ). Out z (u ∷ l)) (sym pn) o) in
      seg_pv (set nx p n) pv n p u l v on.0 on.1 (seg_nx nx pv p n u l v (out_nx nx pv p u l v h (rw np o.1) (rw np m)) h)

  module _ (xp : get_or pv x 0 ≡ p) (xn : get_or nx x 0 ≡ n) (pl : p < length nx) (nl : n < length pv) where
    joined : (u w : ℕ) → u ≡ p → w ≡ n → Link (set nx p n) (set pv n p) u w
    joined u w e f = rw (e, f) (get_or-set_same nx p n 0 pl, get_or-set_same pv n p 0 nl)

    pub seg_detach : (u : ℕ) (a b : List ℕ) (v : ℕ) → Out x (u ∷ a) → Out x b → v ≢ x → Seg nx pv u (a ++ x ∷ b) v → Seg (set nx p n) (set pv n p) u (a ++ b) v
    seg_detach u [] [] v o q m h = joined u v (sym h.0.1 ∙ xp) (sym h.1.0 ∙ xn)
    seg_detach u [] (y ∷ b) v o q m h = (joined u y (sym h.0.1 ∙ xp) (sym h.1.0.0 ∙ xn), keep y b v q m h.1.1)
    seg_detach u (w ∷ a) b v o q m h = (
      (
        get_or-set_other nx p u n 0 (λ e. o.1.0 (sym h.0.0 ∙ ap (λ (k : ℕ). get_or nx k 0) e ∙ np)) ∙ h.0.0,
        get_or-set_other pv n w p 0 (λ e. o.0 (sym h.0.1 ∙ ap (λ (k : ℕ). get_or pv k 0) e ∙ pn)) ∙ h.0.1,
      ),
      seg_detach w a b v o.1 q m h.1,
    )

-- ---- what an attach does to a segment

module _ (nx pv : List ℕ) (x u : ℕ) (ul : u < length nx) (xl : x < length nx) (xm : x < length pv) where
  links : (n : ℕ) → n < length pv → u ≢ x → n ≢ x
      → Link (set (set nx x n) u x) (set (set pv x u) n x) u x × Link (set (set nx x n) u x) (set (set pv x u) n x) x n
  links n nl ux ne = (
    (get_or-set_same (set nx x n) u x 0 (rw length-set ul), get_or-set_other (set pv x u) n x x 0 (λ e. ne (sym e)) ∙ get_or-set_same pv x u 0 xm),
    (get_or-set_other (set nx x n) u x x 0 (λ e. ux (sym e)) ∙ get_or-set_same nx x n 0 xl, get_or-set_same (set pv x u) n x 0 (rw length-set nl)),
  )

  -- u's list gets x in front
  pub seg_attach : (l : List ℕ) (v : ℕ) → Every (λ y. y < length pv) l → v < length pv → Out x (u ∷ l) → v ≢ x → Out u l → Out v l → Seg nx pv u l v
      → Seg (set (set nx x (get_or nx u 0)) u x) (set (set pv x u) (get_or nx u 0) x) u (x ∷ l) v
  seg_attach [] v al vl o m p q h = rw h.0 (links v vl o.0 m)
  seg_attach (y ∷ l) v al vl o m p q h =
      let nx₂ : List ℕ = set (set nx x y) u x in
      let h₁ : Seg (set nx x y) pv y l v = seg_nx nx pv x y y l v o.1 h.1 in
      let h₂ : Seg nx₂ pv y l v = seg_nx (set nx x y) pv u x y l v p h₁ in
      let h₃ : Seg nx₂ (set pv x u) y l v = seg_pv nx₂ pv x u y l v o.1.1 m h₂ in
      let k : Link nx₂ (set (set pv x u) y x) u x × Link nx₂ (set (set pv x u) y x) x y = links y al.0 o.0 o.1.0 in
      subst (λ (z : ℕ). Seg (set (set nx x z) u x) (set (set pv x u) z x) u (x ∷ y ∷ l) v) (sym h.0.0)
      (k.0, (k.1, seg_pv nx₂ (set pv x u) y x y l v (no_return nx pv y l v h.1 q.1) (λ e. q.0 (sym e)) h₃))

-- ---- the ends of a segment, and the walk along it

module _ (nx pv : List ℕ) where
  -- the last node before v, and the first after u
  pub back : (m u : ℕ) (a : List ℕ) (v : ℕ) → Every (λ y. y ≤ m) (u ∷ a) → Seg nx pv u a v → (get_or nx (get_or pv v 0) 0 ≡ v) × (get_or pv v 0 ≤ m)
  back m u [] v o h = rw h.1 (h.0, o.0)
  back m u (w ∷ a) v o h = back m w a v o.1 h.1

  pub forth : (m u : ℕ) (a : List ℕ) (v : ℕ) → Every (λ y. y ≤ m) a → v ≤ m → Seg nx pv u a v → (get_or pv (get_or nx u 0) 0 ≡ u) × (get_or nx u 0 ≤ m)
  forth m u [] v o le h = rw h.0 (h.1, le)
  forth m u (w ∷ a) v o le h = rw h.0.0 (h.0.1, o.0)

  pub seg-last : (u w : ℕ) (l : List ℕ) (v : ℕ) → Seg nx pv u (w ∷ l) v → Last (get_or pv v 0) (w ∷ l)
  seg-last u w [] v h = record { front = []; is = rw h.1.1 }
  seg-last u w (y ∷ l) v h =
      let t : Last (get_or pv v 0) (y ∷ l) = seg-last w y l v h.1 in record { front = w ∷ t.front; is = ap (λ (k : List ℕ). w ∷ k) t.is }

  pub seg-walk : (u : ℕ) (l : List ℕ) (v k : ℕ) → Seg nx pv u l v → Out v l → length l ≤ k → trail nx v k u ≡ l
  unfolding trail
  seg-walk u [] v zero h o le = refl
  seg-walk u [] v (suc k) h o le = rw (eq-eqb (get_or nx u 0) v h.0)
  seg-walk u (x ∷ l) v zero h o le = absurd (omega arith)
  seg-walk u (x ∷ l) v (suc k) h o le =
      rw (ne_eqb (get_or nx u 0) v (rw h.0.0 o.0))
      rw h.0.0
      (ap (λ (t : List ℕ). x ∷ t) (seg-walk x l v k h.1 o.1 (omega arith)))
