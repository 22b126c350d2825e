-- The laws of what a call wrote: the output, and behind it one byte throughout.
-- Assumes nothing.
use mathlib.Core.Path.{◌≡◌, refl, sym, ap, ap₂, ◌∙◌}
use mathlib.Core.Bool.{Bool, true, false, ◌&&◌}
use mathlib.Core.List.{List, [], ◌∷◌, ◌++◌}
use Prim.Native.Nat.{ℕ, zero, suc, ◌-◌, ◌≤◌}
use native.Mathlib.Omega.{arith}
use lib.ListN.{length, take, drop, replicate, length-take, length-drop, take-append-drop}
use lib.Seq.{take_all, drop_at}
use borrow.Author.Tests.{eq-eqb, eqb-true}
use Rattle.std.specs.Prelude.{◌==◌}
use Rattle.std.specs.List.{list_all}
use Rattle.cells.specs.Decides.{Decides}
use Rattle.recorded.specs.Compared.{unwritten, WroteOnly}

-- ---- one byte throughout

both : (a b : Bool) → a && b ≡ true → (a ≡ true) × (b ≡ true)
both true b e = (refl, e)
both false b e = let z : ◌≡◌ {A = ℕ} 0 1 = cc in absurd (omega arith)

all-same : (v : ℕ) (xs : List ℕ) → list_all (λ b. b == v) xs ≡ true → xs ≡ replicate (length xs) v
all-same v [] e = refl
all-same v (x ∷ xs) e =
    let h = both (x == v) (list_all (λ b. b == v) xs) e in
    ap₂ (λ (y : ℕ) (ys : List ℕ). y ∷ ys) (eqb-true x v h.0) (all-same v xs h.1)

same-all : (v n : ℕ) → list_all (λ b. b == v) (replicate n v) ≡ true
same-all v zero = refl
same-all v (suc n) = rw (eq-eqb v v refl) (same-all v n)

-- ---- behind the output

-- a part that ends with its slice is all that is left
rest : (s : List ℕ) (at : ℕ) → take (length s - at) (drop at s) ≡ drop at s
rest s at = take_all (length s - at) (drop at s) (simp length-drop (omega arith))

module _ (out w : List ℕ) (h : length w ≤ length out) (e : take (length w) out ≡ w) where
  abbrev behind : List ℕ
  behind = take (length out - length w) (drop (length w) out)

  behind-length : length behind ≡ length out - length w
  behind-length = simp (length-take, length-drop) (omega arith)

  joined : behind ≡ replicate (length behind) unwritten → out ≡ w ++ replicate (length out - length w) unwritten
  joined f =
      sym (take-append-drop (length w) out) ∙ ap (λ (l : List ℕ). l ++ drop (length w) out) e
      ∙ ap (λ (l : List ℕ). w ++ l) (sym (rest out (length w)) ∙ f ∙ ap (λ (k : ℕ). replicate k unwritten) behind-length)

  parted : WroteOnly out w → behind ≡ replicate (length out - length w) unwritten
  parted q =
      rest out (length w) ∙ ap (λ (l : List ℕ). drop (length w) l) q.is
      ∙ drop_at w (replicate (length out - length w) unwritten) (length w) refl

  pub wrote-rest : {r : Bool} → r ≡ list_all (λ b. b == unwritten) behind → Decides (WroteOnly out w) r
  wrote-rest {r} a =
      record {
        holds = λ t. record { is = joined (all-same unwritten behind (sym a ∙ t)) };
        fails = λ f q.
            let t : list_all (λ b. b == unwritten) behind ≡ true =
            ap (λ (l : List ℕ). list_all (λ b. b == unwritten) l) (parted q) ∙ same-all unwritten (length out - length w) in
            let z : ◌≡◌ {A = ℕ} 0 1 = cc in omega arith;
      }
