-- Laws of what holds of every member of a list, and of membership; a list of distinct numbers below n has at most n members.
-- Assumes nothing.
use mathlib.Core.Path.{◌≡◌, sym, ap, subst}
use mathlib.Core.Logic.{◌≢◌, ◌⊎◌, inl, inr}
use mathlib.Core.List.{List, [], ◌∷◌, ◌++◌}
use Prim.Native.Nat.{ℕ, zero, suc, ◌≤◌, ◌<◌}
use native.Mathlib.Omega.{arith}
use native.Mathlib.Decide.{ℕ_discrete}
use lib.ListN.{length, length-append}
use Rattle.cells.specs.Members.{Every, Out, Among}

pub every_map : {A : Type 0} {P Q : A → Type 0} (l : List A) → ((y : A) → P y → Q y) → Every P l → Every Q l
every_map [] f h = tt
every_map (x ∷ l) f h = (f x h.0, every_map l f h.1)

pub every_append : {A : Type 0} (P : A → Type 0) (a b : List A) → Every P a → Every P b → Every P (a ++ b)
every_append P [] b h k = k
every_append P (x ∷ a) b h k = (h.0, every_append P a b h.1 k)

pub every-left : {A : Type 0} (P : A → Type 0) (a b : List A) → Every P (a ++ b) → Every P a
every-left P [] b h = tt
every-left P (x ∷ a) b h = (h.0, every-left P a b h.1)

pub every_right : {A : Type 0} (P : A → Type 0) (a b : List A) → Every P (a ++ b) → Every P b
every_right P [] b h = h
every_right P (x ∷ a) b h = every_right P a b h.1

-- of a list without its member x
pub every-less : (P : ℕ → Type 0) (a : List ℕ) (x : ℕ) (b : List ℕ) → Every P (a ++ x ∷ b) → Every P (a ++ b)
every-less P a x b h = every_append P a b (every-left P a (x ∷ b) h) (every_right P a (x ∷ b) h).1

-- of that member
pub every-at : (P : ℕ → Type 0) (a : List ℕ) (x : ℕ) (b : List ℕ) → Every P (a ++ x ∷ b) → P x
every-at P a x b h = (every_right P a (x ∷ b) h).0

-- a number is a member or none
pub among-or-out : (x : ℕ) (l : List ℕ) → Among x l ⊎ Out x l
among-or-out x [] = inr tt
among-or-out x (y ∷ l) = step (ℕ_discrete y x) (among-or-out x l)
  where
    step : Dec (y ≡ x) → Among x l ⊎ Out x l → Among x (y ∷ l) ⊎ Out x (y ∷ l)
    step (yes e) r = inl (record { front = []; back = l; is = ap (λ (k : ℕ). k ∷ l) e })
    step (no n) (inl r) = inl (record { front = y ∷ r.front; back = r.back; is = ap (λ (k : List ℕ). y ∷ k) r.is })
    step (no n) (inr o) = inr (n, o)

-- ---- no member stands twice

abbrev pub Nodup : List ℕ → Type 0
Nodup [] = Unit {0}
Nodup (x ∷ l) = Out x l × Nodup l

pub nodup_less : (a : List ℕ) (x : ℕ) (b : List ℕ) → Nodup (a ++ x ∷ b) → Nodup (a ++ b) × Out x (a ++ b)
nodup_less [] x b h = (h.1, h.0)
nodup_less (y ∷ a) x b h =
    let r : Nodup (a ++ b) × Out x (a ++ b) = nodup_less a x b h.1 in
    ((every-less (λ z. z ≢ y) a x b h.0, r.0), (λ e. every-at (λ z. z ≢ y) a x b h.0 (sym e), r.1))

pub nodup_append : (a b : List ℕ) → Nodup a → Nodup b → Every (λ y. Out y b) a → Nodup (a ++ b)
nodup_append [] b d e h = e
nodup_append (x ∷ a) b d e h = (every_append (λ z. z ≢ x) a b d.0 h.0, nodup_append a b d.1 e h.1)

lower : (n : ℕ) (l : List ℕ) → Every (λ y. y < suc n) l → Out n l → Every (λ y. y < n) l
lower n [] h o = tt
lower n (x ∷ l) h o = let b : x < suc n = h.0 in let u : x ≢ n = o.0 in (omega arith, lower n l h.1 o.1)

-- the pigeonholes: by induction on n, which is taken out where it is a member
pub nodup_few : (n : ℕ) (l : List ℕ) → Nodup l → Every (λ y. y < n) l → length l ≤ n
nodup_few zero [] d h = omega arith
nodup_few zero (x ∷ l) d h = omega (arith, h.0)
nodup_few (suc n) l d h = step (nodup_few n) (among-or-out n l)
  where
    step : ((k : List ℕ) → Nodup k → Every (λ y. y < n) k → length k ≤ n) → Among n l ⊎ Out n l → length l ≤ suc n
    step few (inr o) = omega (arith, few l d (lower n l h o))
    step few (inl r) =
        let e : l ≡ r.front ++ n ∷ r.back = r.is in
        let k : List ℕ = r.front ++ r.back in
        let u : Nodup k × Out n k = nodup_less r.front n r.back (subst Nodup e d) in
        let b : Every (λ y. y < suc n) k = every-less (λ y. y < suc n) r.front n r.back (rw e at h) in
        omega (arith, few k u.0 (lower n k b u.1), ap length e, length-append r.front (n ∷ r.back), length-append r.front r.back)
